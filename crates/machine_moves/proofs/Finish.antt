-- The finish: own streams advance, then those of nodes that are no members, then the node reports.
use Rattle.std.specs.Prelude.{ℕ, zero, suc, ◌≡◌, ◌+◌, ◌<◌, ◌≤◌, Bool, true, false, ◌&&◌, not, ◌==◌, List, [], ◌∷◌, ◌++◌, length, ◌⊎◌, if◌then◌else◌}
use Rattle.std.proofs.Common.{arith, refl, ap, inl, inr}
use Rattle.std.proofs.lemmas.Bool.{cases_eq, cases_lt, cond_both, and_parts, eqb-true}
use Rattle.zeus_base.specs.Nodes.{has, without, with_node}
use Rattle.zeus_base.specs.NodeLaws.{has-with_same}
use Rattle.zeus_base.specs.declared.order.Stream.{Stream}
use Rattle.zeus_base.specs.TableLaws.{nth-past}
use Rattle.zeus_packet.specs.declared.letter.Body.TheVariants.{Recovered}
use Rattle.zeus_packet.specs.declared.letter.Letter.{Letter}
use Rattle.zeus_model.specs.In.{In, here, there}
use Rattle.zeus_model.specs.Tables.{below, numbers_from}
use Rattle.zeus_model.specs.State.{Node, StreamLog, no_log, log}
use Rattle.zeus_model.specs.Act.{Act, in_turn, to_each, still, and_then}
use Rattle.zeus_model.specs.Commit.{advance_own, advance_kept, streams_of, streams_outside, outside, none_stored, report_recovered, finish}
use Rattle.zeus_model.specs.InLaws.{In-append_left, In-append_right, In-append}
use Rattle.machine_moves.specs.SystemState.{SystemState}
use Rattle.machine_moves.specs.Move.{reported, reports, IsTellable}
use Rattle.machine_moves.specs.Plain.{IsPlain}
use Rattle.machine_moves.proofs.Within.{IsWithin, Keeps-reported}
use Rattle.machine_moves.proofs.Reach.{Reached, PlainReaches, PlainReached, IsReady, known, any_reaches, still_reaches, plain_reaches, cut_none, quiet_then_tells, act_then}
use Rattle.machine_moves.proofs.Passing.{to_each-each, advance_own-reached, advance_kept-reached}

-- ---- streams in turn

own_in_turn : (is : List ℕ) (s : SystemState) (n k : ℕ) → IsReady s n → Reached s n k (in_turn advance_own (s.node n) is)
unfolding in_turn
own_in_turn [] s n k ready = cut_none s n (s.node n) k (still_reaches s n)
own_in_turn (i ∷ is) s n k ready =
    act_then s n k (advance_own (s.node n) i) (λ m. in_turn advance_own m is) ready (advance_own-reached s n i k ready) (λ t j rt keeps. own_in_turn is t n j rt)

kept_in_turn : (ts : List Stream) (s : SystemState) (n k : ℕ) → IsReady s n → ((t : Stream) → In t ts → has t.node (s.node n).members ≡ false) → Reached s n k (in_turn advance_kept (s.node n) ts)
unfolding in_turn
kept_in_turn [] s n k ready out = cut_none s n (s.node n) k (still_reaches s n)
kept_in_turn (t ∷ ts) s n k ready out =
    act_then s n k (advance_kept (s.node n) t) (λ m. in_turn advance_kept m ts) ready (advance_kept-reached s n t k ready (out t (here t ts refl)))
    (λ u j ru keeps. kept_in_turn ts u n j ru (λ v i. rw (keeps.members) (out v (there t ts i))))

-- ---- which streams are outside

streams_of-node : (node : ℕ) (is : List ℕ) (t : Stream) → In t (streams_of node is) → t.node ≡ node
unfolding streams_of
streams_of-node node [] t m = elim m [ ]
streams_of-node node (i ∷ is) t (here _ _ e) = ap (λ (u : Stream). u.node) e
streams_of-node node (i ∷ is) t (there _ _ m) = streams_of-node node is t m

outside-cases : (member : Bool) (a b : List Stream) (t : Stream) → In t (if member then b else a ++ b) → ((member ≡ false) × In t a) ⊎ In t b
outside-cases true a b t m = inr m
outside-cases false a b t m = elim (In-append t a b m) [ inl l ↦ inl (refl, l) | inr r ↦ inr r ]

-- a stream outside the members is of a node that is no member
pub streams_outside-node : (members is ms : List ℕ) (t : Stream) → In t (streams_outside members is ms) → has t.node members ≡ false
unfolding streams_outside
streams_outside-node members is [] t m = elim m [ ]
streams_outside-node members is (k ∷ ks) t m =
    elim (outside-cases (has k members) (streams_of k is) (streams_outside members is ks) t m) [
      | inl own ↦ rw (streams_of-node k is t own.1) own.0
      | inr later ↦ streams_outside-node members is ks t later
    ]

streams_of-In : (node : ℕ) (i c slot : ℕ) → i ≤ slot → slot < i + c → In {A = Stream} (record { node = node; slot = slot }) (streams_of node (numbers_from i c))
unfolding streams_of numbers_from
streams_of-In node i zero slot le less = absurd (omega arith)
streams_of-In node i (suc c) slot le less =
    elim (cases_eq slot i) [
      | inl same ↦ here record { node = node; slot = i } _ (ap (λ (k : ℕ). record { node = node; slot = k }) same)
      | inr other ↦ there record { node = node; slot = i } _ (streams_of-In node (suc i) c slot (omega arith) (omega arith))
    ]

outside-from : (member : Bool) (a b : List Stream) (t : Stream) → (member ≡ false → In t a) ⊎ In t b → (member ≡ true → In t b) → In t (if member then b else a ++ b)
outside-from true a b t h g = g refl
outside-from false a b t (inl h) g = In-append_left t a b (h refl)
outside-from false a b t (inr h) g = In-append_right t a b h

streams_outside-In : (members : List ℕ) (slots i c : ℕ) (t : Stream) → has t.node members ≡ false → t.slot < slots → i ≤ t.node → t.node < i + c → In t (streams_outside members (numbers_from 0 slots) (numbers_from i c))
unfolding streams_outside numbers_from
streams_outside-In members slots i zero t out slot le less = absurd (omega arith)
streams_outside-In members slots i (suc c) t out slot le less =
    let a = streams_of i (numbers_from 0 slots) in
    let b = streams_outside members (numbers_from 0 slots) (numbers_from (suc i) c) in
    elim (cases_eq t.node i) [
      | inl same ↦ outside-from (has i members) a b t (inl (λ _. rw (← same) (streams_of-In t.node 0 slots t.slot (omega arith) (omega arith)))) (λ some. let none : has i members ≡ false = rw same at out in absurd cc)
      | inr other ↦
          let rest = streams_outside-In members slots (suc i) c t out slot (omega arith) (omega arith) in
          outside-from (has i members) a b t (inr rest) (λ _. rest)
    ]

length-none : {A : Type 0} (xs : List A) → length xs ≡ 0 → xs ≡ []
length-none [] h = refl
length-none (x ∷ xs) h = absurd (omega arith)

none_stored-each : (m : Node) (ts : List Stream) (t : Stream) → none_stored m ts ≡ true → In t ts → (log m t).kept ≡ []
unfolding none_stored
none_stored-each m [] t h i = elim i [ ]
none_stored-each m (u ∷ us) t h (here _ _ e) = rw e (length-none (log m u).kept (eqb-true (length (log m u).kept) 0 (and_parts (length (log m u).kept == 0) (none_stored m us) h).0))
none_stored-each m (u ∷ us) t h (there _ _ i) = none_stored-each m us t (and_parts (length (log m u).kept == 0) (none_stored m us) h).1 i

-- where no entry of an outside stream is stored, none is stored at all of a node that is no member
none_outside : (bound : ℕ) (m : Node) → IsWithin bound m → none_stored m (outside m) ≡ true → (t : Stream) → has t.node m.members ≡ false → (log m t).kept ≡ []
none_outside bound m w h t out =
    elim (cases_lt t.slot (length m.slots)) [
      | inl within ↦ elim (cases_lt t.node (length m.logs)) [
        | inl known_node ↦ none_stored-each m (outside m) t h (streams_outside-In m.members (length m.slots) 0 (length m.logs) t out within (omega arith) (omega arith))
        | inr past ↦ let none : log m t ≡ no_log = rw (nth-past [] m.logs t.node past) (nth-past no_log [] t.slot (omega arith)) in ap (λ (l : StreamLog). l.kept) none
      ]
      | inr past ↦ w.kept t (omega (arith, w.slots))
    ]

reports_reached : (s : SystemState) (n self : ℕ) → self ≡ n → IsReady s n → none_stored (s.node n) (outside (s.node n)) ≡ true → PlainReaches s n (record (s.node n) { reported = with_node self (s.node n).reported }) []
unfolding IsPlain
reports_reached s n self same ready h =
    let m = s.node n in
    let k = known s n ready in
    rw same (plain_reaches s n (record m { reported = with_node n m.reported }) ready.live (Keeps-reported m (with_node n m.reported)) (λ ch. reports n (none_outside s.config.slots m k.rows h) ch) (λ _. tt))

report_telling : (m : Node) (l : Letter) → In l (to_each m (without m.me m.members) Recovered) → IsTellable (record m { reported = with_node m.me m.reported }) l
report_telling m =
    to_each-each (IsTellable (record m { reported = with_node m.me m.reported })) m (without m.me m.members) Recovered (λ to h. reported to (has-with_same m.me m.reported))

-- if a node is ready, then plain moves lead to what its report makes of it
pub report-reached : (s : SystemState) (n k : ℕ) → IsReady s n → PlainReached s n k (report_recovered (s.node n))
unfolding report_recovered
report-reached s n k ready =
    let m = s.node n in
    let me = known s n ready in
    let after : Act = record { node = record m { reported = with_node m.me m.reported }; sent = to_each m (without m.me m.members) Recovered; passed = [] } in
    cond_both (not (has m.me m.reported) && none_stored m (outside m)) after (still m) (λ a. PlainReached s n k a)
    (λ h. quiet_then_tells s n k after.node after.sent ready (reports_reached s n m.me me.me ready (and_parts (not (has m.me m.reported)) (none_stored m (outside m)) h).1) (report_telling m))
    (λ _. cut_none s n m k (still_reaches s n))

-- if a node is ready, then moves lead to what the finish makes of it
pub finish-reached : (s : SystemState) (n k : ℕ) → IsReady s n → Reached s n k (finish (s.node n))
unfolding finish
finish-reached s n k ready =
    let m = s.node n in
    act_then s n k (in_turn advance_own m (below (length m.slots))) (λ x. and_then (in_turn advance_kept x (outside x)) report_recovered) ready (own_in_turn (below (length m.slots)) s n k ready)
    (λ t j rt _.
    act_then t n j (in_turn advance_kept (t.node n) (outside (t.node n))) report_recovered rt
    (kept_in_turn (outside (t.node n)) t n j rt (λ u i. let x = t.node n in streams_outside-node x.members (below (length x.slots)) (below (length x.logs)) u i))
    (λ u i ru _. any_reaches u n _ _ (report-reached u n i ru)))
