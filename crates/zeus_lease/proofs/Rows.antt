-- What the code has made of each step, over plain variables.
use Rattle.std.proofs.Common.{◌≡◌, ℕ, suc, ◌+◌, ◌-◌, ◌<◌, ◌≤◌, Bool, true, false, List, [], ◌∷◌, ◌++◌, length, get_or, Option, Some, None, Result, Ok, Err, refl, sym, ap, ◌∙◌, arith, add-one, subst}
use Rattle.std.specs.Prelude.{◌↔◌, ◌&&◌, ◌==◌, nat_lt, nat_le, max, slice_get, IfOk, OnErr, IsTrue, is_some}
use Rattle.std.proofs.Math.ListN.{set}
use Rattle.std.proofs.lemmas.Bool.{lt-ltb, le-ltb, eqb-true, eqb-false}
use Rattle.std.proofs.lemmas.Bool.Decides.{nat_tests}
use Rattle.zeus_base.specs.Nodes.{has, with_node}
use Rattle.zeus_base.specs.NodeLaws.{IsBelow, has-with_node}
use Rattle.zeus_base.specs.TableLaws.{nth-get_or, put-set}
use Rattle.zeus_model.specs.Tables.{nth, put, where_true}
use Rattle.zeus_model.specs.World.{Event, last_view}
use Rattle.zeus_model.specs.declared.answer.Answer.TheVariants.{View as ViewAnswer}
use Rattle.zeus_model.specs.declared.answer.Made.{Made}
use Rattle.membership.specs.Views.{IsWorldWith}
use Rattle.zeus_lease.specs.declared.answer.LeaseAnswer.{LeaseAnswer}
use Rattle.zeus_lease.specs.declared.answer.LeaseAnswer.TheVariants as answers
use Rattle.zeus_lease.specs.declared.state.Ask.{Ask}
use Rattle.zeus_lease.specs.declared.state.Node.{Node}
use Rattle.zeus_lease.specs.declared.step.LeaseStep.{LeaseStep}
use Rattle.zeus_lease.specs.declared.step.LeaseStep.TheVariants as steps
use Rattle.zeus_lease.specs.Kept.{IsKept, ask_of}
use Rattle.zeus_lease.specs.Law.{IsLeftOut}
use Rattle.zeus_lease.specs.Machine.{Machine, just, no_node, no_ask, node, wait, is_skewed, skew, went_on, pass_or_not, ask, granted, hear, later, take, take_by, act, act_by, is_below_end, may_act, seen, made_in, view, happens, stepped}
use Rattle.zeus_lease.specs.Scripts.{FitsStep}
use Rattle.zeus_lease.proofs.Clocks.{front_on, front_on-here, front_on-next}
use Rattle.zeus_lease.proofs.Ranges.{stepped_kept, stepped_nodes}
use Rattle.zeus_lease.proofs.Safe.{found_at, stepped_leaves_out}
use Rattle.zeus_lease.proofs.Views.{seen_stopped, seen_views}

-- ---- searches

-- the test that the code made is the one of the definition
pub test_made : (percent : ℕ) (ticks : List ℕ) (fast slow f s : ℕ) (b t : Bool) → b ≡ is_skewed percent (get_or ticks f 0) (get_or ticks s 0) → f ≡ fast → s ≡ slow → b ≡ t → is_skewed percent (nth 0 ticks fast) (nth 0 ticks slow) ≡ t
test_made percent ticks fast slow f s b t e ef es h =
    let a = nth-get_or 0 ticks fast in
    let c = nth-get_or 0 ticks slow in
    cc

-- if a test is true, then there is something where it must be true
pub test_met : {A : Type 0} (b : Bool) (a : A) → b ≡ true → where_true b a ≡ Some a
unfolding where_true
test_met b a h = rw h refl

-- if a test is false, then there is nothing where it must be true
pub test_missed : {A : Type 0} (b : Bool) (a : A) → b ≡ false → where_true b a ≡ None
unfolding where_true
test_missed b a h = rw h refl

-- if there is not something, then there is nothing
pub none_there : {A : Type 0} (o : Option A) → is_some o ≡ false → o ≡ None
none_there None h = refl
none_there (Some a) h = absurd cc

-- ---- clocks that go on

-- if the clocks of the first k nodes have gone on, then the next node is as it was
pub front_read : (k : ℕ) (ns now : List Node) (ts : List ℕ) → now ≡ front_on k ns ts → get_or now k no_node ≡ nth no_node ns k
front_read k ns now ts is = sym (nth-get_or no_node now k) ∙ ap (λ (l : List Node). nth no_node l k) is ∙ front_on-here k ns ts

-- if the clocks of the first k nodes have gone on and the next one is written so, then those of the first k + 1 have
pub front_more : (k : ℕ) (ns now : List Node) (ts : List ℕ) → now ≡ front_on k ns ts → k < length ns → k < length ts
    → set now k record { clock = (get_or now k no_node).clock + get_or ts k 0; end = (get_or now k no_node).end; expiry = (get_or now k no_node).expiry } ≡ front_on (k + 1) ns ts
front_more k ns now ts is lt few =
    let same = front_read k ns now ts is in
    let tick = nth-get_or 0 ts k in
    rw (same, is, ← tick, add-one) (front_on-next k ns ts lt few)

-- if no clock goes too fast and each has gone on by its ticks, then that is what passing time does
pub passed_row : (m : Machine) (ticks : List ℕ) (nodes : List Node) (n : ℕ) → length ticks ≡ suc (length m.nodes) → skew m.percent ticks (length ticks) ≡ None → nodes ≡ went_on m.nodes ticks → n ≡ length m.nodes
    → just (record m { nodes = nodes; service = m.service + get_or ticks n 0 }) answers.Passed ≡ pass_or_not m ticks (skew m.percent ticks (suc (length m.nodes)))
unfolding pass_or_not
passed_row m ticks nodes n count none is n_is =
    let kept : skew m.percent ticks (suc (length m.nodes)) ≡ None = ap (skew m.percent ticks) (sym count) ∙ none in
    let tick : get_or ticks n 0 ≡ nth 0 ticks (length m.nodes) = ap (λ (k : ℕ). get_or ticks k 0) n_is ∙ sym (nth-get_or 0 ticks (length m.nodes)) in
    rw (kept, is, tick) refl

-- ---- asks and grants

-- if a node has not ended and its ask is kept with its clock, then that is what an ask does
pub asked_row : (m : Machine) (n clock count : ℕ) (asks : List Ask) → has n m.ended ≡ false → asks ≡ m.asks ++ record { node = n; clock = clock } ∷ [] → clock ≡ (node m n).clock → count ≡ length m.asks
    → just (record m { asks = asks }) (answers.Asked count) ≡ ask m n
unfolding ask
asked_row m n clock count asks running is clock_is count_is = rw (running, is, clock_is, count_is) refl

last_at : (v : List ℕ) (vs : List (List ℕ)) → nth [] (v ∷ vs) (length vs) ≡ last_view (v ∷ vs)
unfolding nth last_view
last_at v [] = refl
last_at v (u ∷ us) = last_at u us

-- the view at the last place is the last view
pub last_read : (vs : List (List ℕ)) → nth [] vs (length vs - 1) ≡ last_view vs
unfolding nth last_view
last_read [] = refl
last_read (v ∷ vs) =
    let place : length (v ∷ vs) - 1 ≡ length vs = omega arith in
    rw place (last_at v vs)

-- the code read a node where it stands, and wrote it back changed
pub record IsRewritten (m : Machine) (n : ℕ) (was now : Node) (nodes : List Node) : Type 0 where
  pub there : n < length m.nodes
  pub read : node m n ≡ was
  pub written : nodes ≡ set m.nodes n now

-- a node that was written back stands where it stood
pub rewritten : (m : Machine) (n : ℕ) (was now : Node) (nodes : List Node) → IsRewritten m n was now nodes → nodes ≡ put no_node m.nodes n now
rewritten m n was now nodes w = w.written ∙ sym (put-set no_node m.nodes n now w.there)

-- the node of an ask is one that there is, and its clock is in the ranges
pub found_ask : (m : Machine) (i : ℕ) (a : Ask) → IsKept m → slice_get m.asks i ≡ Some a → a.node < length m.nodes
found_ask m i a kept is =
    let found = found_at no_ask m.asks i a is in
    subst (λ (b : Ask). b.node < length m.nodes) found.0 (kept.ranges.asks i found.1).0

-- if a node's expiry and its grant are written, then that is what granting its ask does
pub granted_row : (m : Machine) (i n : ℕ) (nodes : List Node) (grants : List ℕ) (grant : ℕ) (was : Node) → IsRewritten m n was (record was { expiry = max was.expiry (m.service + wait m) }) nodes
    → grants ≡ m.grants ++ i ∷ [] → grant ≡ length m.grants → just (record m { nodes = nodes; grants = grants }) (answers.Granted grant) ≡ granted m i n
granted_row m i n nodes grants grant was w grants_is grant_is =
    let put_is : nodes ≡ put no_node m.nodes n (record (node m n) { expiry = max (node m n).expiry (m.service + wait m) }) =
    rewritten m n was (record was { expiry = max was.expiry (m.service + wait m) }) nodes w
    ∙ ap (λ (v : Node). put no_node m.nodes n (record v { expiry = max v.expiry (m.service + wait m) })) (sym w.read) in
    rw (put_is, grants_is, grant_is) refl

-- if an ask is of a member, then hearing it grants it
pub heard_row : (m : Machine) (i : ℕ) (a : Ask) (o : Option Ask) → o ≡ Some a → has a.node (last_view m.views) ≡ true → granted m i a.node ≡ hear m i o
unfolding hear
heard_row m i a o is member = rw (is, member) refl

-- ---- leases

-- the ask of a grant, and its ranges
pub grant_there : (m : Machine) (g i : ℕ) → IsKept m → slice_get m.grants g ≡ Some i → i < length m.asks
grant_there m g i kept is =
    let found = found_at 0 m.grants g i is in
    subst (λ (j : ℕ). j < length m.asks) found.0 (kept.safe.answered g found.1)

-- if a grant is of a node that has ended, then taking it answers so and changes nothing
pub ended_row : (m : Machine) (i : ℕ) (a : Ask) (o : Option ℕ) → o ≡ Some i → ask_of m i ≡ a → has a.node m.ended ≡ true → just m answers.Ended ≡ take m o
unfolding take take_by
ended_row m i a o is a_is over = rw (is, a_is, over) refl

-- if an ask's node has not ended and its lease's end is written, then that is what taking a lease of the ask does
pub held_row : (m : Machine) (a : Ask) (nodes : List Node) (was : Node) (end : ℕ) → has a.node m.ended ≡ false → IsRewritten m a.node was (record was { end = Some end }) nodes → end ≡ later was.end (a.clock + m.length)
    → just (record m { nodes = nodes }) (answers.Held end) ≡ take_by m a
unfolding take_by
held_row m a nodes was end running w end_is =
    let until : end ≡ later (node m a.node).end (a.clock + m.length) = end_is ∙ ap (λ (v : Node). later v.end (a.clock + m.length)) (sym w.read) in
    let put_is : nodes ≡ put no_node m.nodes a.node (record (node m a.node) { end = Some end }) =
    rewritten m a.node was (record was { end = Some end }) nodes w ∙ ap (λ (v : Node). put no_node m.nodes a.node (record v { end = Some end })) (sym w.read) in
    rw (running, put_is, until) refl

-- taking a grant takes a lease of the ask that it answers
pub taken_row : (m : Machine) (i : ℕ) (a : Ask) (o : Option ℕ) → o ≡ Some i → ask_of m i ≡ a → take_by m a ≡ take m o
unfolding take
taken_row m i a o is a_is = rw (is, a_is) refl

-- ---- acts

module _ (m : Machine) (n : ℕ) (x : Node) (running : has n m.ended ≡ false) (is : node m n ≡ x) where
  pub no_lease_row : x.end ≡ None → just m answers.NoLease ≡ act m n
  unfolding act act_by
  no_lease_row none = rw (running, is, none) refl

  pub acted_row : (end : ℕ) → x.end ≡ Some end → x.clock < end → just m answers.Acted ≡ act m n
  unfolding act act_by
  acted_row end some lt = rw (running, is, some, is, lt-ltb x.clock end lt) refl

  pub ends_row : (end : ℕ) (ended : List ℕ) → x.end ≡ Some end → end ≤ x.clock → ended ≡ with_node n m.ended → just (record m { ended = ended }) answers.Ended ≡ act m n
  unfolding act act_by
  ends_row end ended some le ended_is = rw (running, is, some, is, le-ltb x.clock end le, ended_is) refl

  pub may_row : (b : Bool) → b ≡ is_below_end x.clock x.end → b ≡ may_act m n
  unfolding may_act
  may_row b b_is = rw (running, is) b_is

acts_by : (m : Machine) (n : ℕ) (over : Bool) (o : Option ℕ) (below : Bool) → has n m.ended ≡ over → (node m n).end ≡ o → ((end : ℕ) → o ≡ Some end → nat_lt (node m n).clock end ≡ below)
    → IsTrue (may_act m n) ↔ ((happens m (steps.Act n)).answer ≡ answers.Acted)
unfolding happens act act_by may_act is_below_end
acts_by m n true o below e f h = rw e (λ t. absurd cc, λ t. absurd cc)
acts_by m n false None below e f h = rw (e, f) (λ t. absurd cc, λ t. absurd cc)
acts_by m n false (Some end) true e f h = rw (e, f, h end refl) (λ t. refl, λ t. refl)
acts_by m n false (Some end) false e f h = rw (e, f, h end refl) (λ t. absurd cc, λ t. absurd cc)

some_test : (m : Machine) (n : ℕ) (o : Option ℕ) → (below : Bool) × ((end : ℕ) → o ≡ Some end → nat_lt (node m n).clock end ≡ below)
some_test m n None = (true, λ end e. absurd cc)
some_test m n (Some end) = (nat_lt (node m n).clock end, λ other e. ap (nat_lt (node m n).clock) (same other e))
  where
    same : (other : ℕ) → Some end ≡ Some other → other ≡ end
    same other e = cc

-- `may_act` says whether an act would be acted
pub may_is_acted : (m : Machine) (n : ℕ) → IsTrue (may_act m n) ↔ ((happens m (steps.Act n)).answer ≡ answers.Acted)
may_is_acted m n =
    let test = some_test m n (node m n).end in
    acts_by m n (has n m.ended) (node m n).end test.0 refl refl test.1

-- ---- views

-- one node more was looked at
pub stopped_then : (f : ℕ → ℕ) (service place : ℕ) (s : List ℕ) → ((n : ℕ) → has n s ≡ (nat_lt n place && nat_le (f n) service)) → f place ≤ service → (n : ℕ) → has n (with_node place s) ≡ (nat_lt n (place + 1) && nat_le (f n) service)
stopped_then f service place s so_far came n = go (n == place) refl
  where
    go : (b : Bool) → (n == place) ≡ b → has n (with_node place s) ≡ (nat_lt n (place + 1) && nat_le (f n) service)
    go true e =
        let is : n ≡ place = eqb-true n place e in
        let here : nat_le (f place) service ≡ true = grind (arith, nat_tests) in
        rw is (grind (arith, nat_tests, has-with_node place place s))
    go false e =
        let other = eqb-false n place e in
        grind (arith, nat_tests, has-with_node n place s, so_far n)

-- if it is known which of the first nodes count as stopped and the next one does not, then it is known of one node more
pub stopped_else : (f : ℕ → ℕ) (service place : ℕ) (s : List ℕ) → ((n : ℕ) → has n s ≡ (nat_lt n place && nat_le (f n) service)) → service < f place → (n : ℕ) → has n s ≡ (nat_lt n (place + 1) && nat_le (f n) service)
stopped_else f service place s so_far late n = go (n == place) refl
  where
    go : (b : Bool) → (n == place) ≡ b → has n s ≡ (nat_lt n (place + 1) && nat_le (f n) service)
    go true e =
        let is : n ≡ place = eqb-true n place e in
        let here : nat_le (f place) service ≡ false = grind (arith, nat_tests) in
        rw is (grind (arith, nat_tests, so_far place))
    go false e =
        let other = eqb-false n place e in
        grind (arith, nat_tests, so_far n)

-- if the nodes that count as stopped are known and the last view is of nodes, then the world seen has these views and stops
pub seen_with : (m : Machine) (stopped : List ℕ) → ((n : ℕ) → n < length m.nodes → has n stopped ≡ nat_le (node m n).expiry m.service) → IsBelow (length m.nodes) (last_view m.views) → IsWorldWith (seen m) m.views stopped
seen_with m stopped stops below = record { views = seen_views m; stops = λ n h. seen_stopped m n (below n h) ∙ sym (stops n (below n h)) }

-- if a view's answer and the views after it are those of the membership service, then that is what the view does
pub viewed_row : (m : Machine) (e : Event) (made : Made) (views : List (List ℕ)) → ViewAnswer made ≡ e.answer → views ≡ e.world.views → just (record m { views = views }) (answers.View made) ≡ view m e
unfolding view made_in
viewed_row m e made views answer_is views_are = rw (← answer_is, views_are) refl

-- ---- steps

-- if a step was done and is counted, then that is what the machine becomes by it
pub counted_row : (m after : Machine) (s : LeaseStep) (a : LeaseAnswer) (count : ℕ) → just after a ≡ happens m s → count ≡ m.steps + 1 → record after { steps = count } ≡ stepped m s
unfolding stepped
counted_row m after s a count did count_is = rw (← did, count_is, add-one) refl

module _ {A E : Type 0} (r : Result A E) (old new : Machine) (s : LeaseStep) (done : IfOk r (λ a. new ≡ stepped old s)) (failed : OnErr r (new ≡ old)) where
  -- what holds before and after the step holds now
  either_way : (P : Machine → Type 0) → P (stepped old s) → P old → P new
  either_way P after before = go r done failed
    where
      go : (q : Result A E) → IfOk q (λ a. new ≡ stepped old s) → OnErr q (new ≡ old) → P new
      go (Ok a) d f = subst P (sym d) after
      go (Err e) d f = subst P (sym f) before

  pub still_kept : IsKept old → old.steps < 50000 → FitsStep (length old.nodes) s → IsKept new
  still_kept kept few fits = either_way IsKept (stepped_kept old s kept few fits) kept

  pub still_left_out : (n : ℕ) → IsLeftOut old n → IsLeftOut new n
  still_left_out n out = either_way (λ (m : Machine). IsLeftOut m n) (stepped_leaves_out old s n out) out

-- if a machine is in order and a step that fits was made, then there are as many nodes as before
pub still_nodes : {A E : Type 0} (r : Result A E) (old new : Machine) (s : LeaseStep) → IfOk r (λ a. new ≡ stepped old s) → IsKept old → FitsStep (length old.nodes) s → IfOk r (λ a. length new.nodes ≡ length old.nodes)
still_nodes (Ok a) old new s done kept fits = ap (λ (m : Machine). length m.nodes) done ∙ stepped_nodes old s kept fits
still_nodes (Err e) old new s done kept fits = tt
