-- A drive goes on a live run by steps that a live run can have, and ends where all transactions are closed.
use Rattle.std.specs.Prelude.{ℕ, zero, suc, ◌≡◌, ◌+◌, ◌*◌, ◌<◌, ◌≤◌, Bool, true, false, ◌||◌, ◌&&◌, not, ◌==◌, nat_lt, List, [], ◌∷◌, ◌++◌, length, Option, Some, None, is_some, is_none, if◌then◌else◌, ◌⊎◌}
use Rattle.std.proofs.Common.{arith, refl, sym, ap, ◌∙◌, subst, append_assoc, append-nil, eq-eqb}
use Rattle.std.proofs.lemmas.Bool.{cases_Bool, cond_both, ltb-true, eqb-true, false_from_ne_true}
use Rattle.zeus_base.specs.Limits.{KeepsLimits}
use Rattle.zeus_base.specs.Nodes.{has}
use Rattle.zeus_base.specs.NodeLaws.{RisesFrom, RisesFrom-lower, has-head, has-tail}
use Rattle.zeus_base.specs.declared.config.Config.{Config}
use Rattle.zeus_base.specs.declared.step.Step.{Step}
use Rattle.zeus_base.specs.declared.step.Step.TheVariants.{Begin, Try, Deliver, Tick, Stop, View, Install}
use Rattle.zeus_packet.specs.declared.letter.Letter.{Letter}
use Rattle.zeus_txn.specs.declared.tx.TxDecl.{TxDecl}
use Rattle.zeus_model.specs.declared.answer.Answer.{Answer}
use Rattle.zeus_model.specs.declared.answer.Answer.TheVariants.{Twice, Waits, Begin as BeginAnswer}
use Rattle.zeus_model.specs.declared.answer.Begin.TheVariants.{Stopped}
use Rattle.zeus_model.specs.declared.answer.Made.{Made}
use Rattle.zeus_model.specs.Scripts.{FitTxs}
use Rattle.zeus_model.specs.Tables.{below, numbers_from}
use Rattle.zeus_model.specs.State.{slot}
use Rattle.zeus_model.specs.Book.{record_of}
use Rattle.zeus_model.specs.Readers.{is_live, live_among, all_closed}
use Rattle.zeus_model.specs.World.{World, node, tx_decl, link, last_view, nth_letter, waits_for, begin_refused, begin_or_not, step_begin, tried_at, deliver_or_not, received_at, ticked_at, stopped_at, view_refused, view_or_not, step_install, installed_at, happens, stepped, run, start}
use Rattle.machine_moves.specs.Fits.{StepFits}
use Rattle.live_model.specs.Cell.{Kill, declared}
use Rattle.live_model.specs.Cluster.{Plan}
use Rattle.live_model.specs.Drive.{Going, is_step_of, is_due, stop_of, counts_as, or_stop, stepped_by, offer, offer_where, each_number, view_item, install_item, may_follow, can_begin, begin_item, try_item, tries_of, next_of, with_next, next_after, delivery, delivery_item, deliveries_between, deliveries_from, tick_item, all_nodes, views_and_installs, begins_and_tries, deliveries_and_ticks, round, rounds_of, count_of, drive_start, drive}
use Rattle.live_replay.specs.LiveRun.{is_stop, needs_stop, has_stop, IsLiveRun}
use Rattle.live_replay.specs.Replayed.{IsMissed}
use Rattle.live_replay.proofs.Causes.{tx-fits}
use Rattle.live_replay.proofs.LiveRuns.{run-more, live-more, count_of-more, IsKnownWorld, live-known}
use Rattle.live_replay.proofs.Replay.{three_none, where_false}
use Rattle.machine_moves.specs.SystemState.{system}

-- what a drive keeps: its steps go on a live run, and lead to its world; it has ended only where all transactions are closed
pub record IsGoing (p : Plan) (before : List Step) (g : Going) : Type 0 where
  pub world : g.world ≡ run (start p.config p.txs) (before ++ g.steps)
  pub live : IsLiveRun p (before ++ g.steps)
  pub count : g.count ≡ count_of p.kill p.txs (before ++ g.steps)
  pub ended : g.over ≡ true → all_closed g.world ≡ true

-- premises on the plan
pub record IsWithin (p : Plan) : Type 0 where
  pub limits : KeepsLimits p.config
  pub txs : FitTxs p.config 0 p.txs

-- if a drive goes on within the plan, then its world is known
pub going-known : (p : Plan) (before : List Step) (g : Going) → IsWithin p → IsGoing p before g → IsKnownWorld p g.world (has_stop (before ++ g.steps))
going-known p before g within h =
    subst (λ (w : World). IsKnownWorld p w (has_stop (before ++ g.steps))) (sym h.world) (live-known p (before ++ g.steps) within.limits within.txs h.live)

-- ---- a step that is offered

-- a step that a round may offer
pub record MayOffer (p : Plan) (w : World) (stopped : Bool) (s : Step) : Type 0 where
  pub fits : StepFits p.config p.txs s
  pub no_stop : is_stop s ≡ false
  pub found : IsMissed (happens w s).answer → ⊥
  pub behind : needs_stop s ≡ true → stopped ≡ true

going-step : (p : Plan) (before : List Step) (g : Going) (s : Step) → IsGoing p before g → g.over ≡ false → StepFits p.config p.txs s → (IsMissed (happens g.world s).answer → ⊥)
    → is_stop s ≡ is_due p.kill p.txs g.count s → (needs_stop s ≡ true → has_stop (before ++ g.steps) ≡ true)
    → IsGoing p before record { world = stepped g.world s; steps = g.steps ++ s ∷ []; count = g.count + counts_as p.kill p.txs s; next = g.next; over = g.over }
going-step p before g s h ongoing fits found due behind =
    let xs = before ++ g.steps in
    let same : xs ++ s ∷ [] ≡ before ++ (g.steps ++ s ∷ []) = append_assoc before g.steps (s ∷ []) in
    let live : IsLiveRun p (xs ++ s ∷ []) = live-more p xs s h.live fits
    (subst (λ (w : World). IsMissed (happens w s).answer → ⊥) h.world found)
    (subst (λ (n : ℕ). is_stop s ≡ is_due p.kill p.txs n s) h.count due) behind in
    record {
      world = ap (λ (w : World). stepped w s) h.world ∙ (sym (run-more (start p.config p.txs) xs s) ∙ ap (λ (ys : List Step). run (start p.config p.txs) ys) same);
      live = subst (λ (ys : List Step). IsLiveRun p ys) same live;
      count = ap (λ (n : ℕ). n + counts_as p.kill p.txs s) h.count ∙ (sym (count_of-more p.kill p.txs xs s) ∙ ap (λ (ys : List Step). count_of p.kill p.txs ys) same);
      ended = λ over. absurd cc;
    }

-- the node of a step is one of the configuration
step-node : (s : Step) (p : Plan) (n : ℕ) → IsWithin p → StepFits p.config p.txs s → is_step_of p.txs n s ≡ true → n < p.config.nodes
unfolding StepFits is_step_of
step-node (Begin k) p n within fits is =
    let f = tx-fits p.config p.txs k within.txs fits in subst (λ (m : ℕ). m < p.config.nodes) (eqb-true (declared p.txs k).node n is) f.node
step-node (Try m s) p n within fits is = subst (λ (x : ℕ). x < p.config.nodes) (eqb-true m n is) fits.0
step-node (Deliver sender receiver i) p n within fits is = subst (λ (x : ℕ). x < p.config.nodes) (eqb-true receiver n is) fits.1
step-node (Tick m) p n within fits is = subst (λ (x : ℕ). x < p.config.nodes) (eqb-true m n is) fits
step-node (Stop m) p n within fits is = subst (λ (x : ℕ). x < p.config.nodes) (eqb-true m n is) fits
step-node (View set) p n within fits is = absurd cc
step-node (Install m e) p n within fits is = subst (λ (x : ℕ). x < p.config.nodes) (eqb-true m n is) fits.0

-- if both together are true, then each is
pub both_parts : (a b : Bool) → (a && b) ≡ true → (a ≡ true) × (b ≡ true)
both_parts true true h = (refl, refl)
both_parts true false h = absurd cc
both_parts false b h = absurd cc

stop-fits : (p : Plan) (n : ℕ) → n < p.config.nodes → StepFits p.config p.txs (Stop n)
unfolding StepFits
stop-fits p n there = there

stop-found : (w : World) (n : ℕ) → IsMissed (happens w (Stop n)).answer → ⊥
unfolding happens stopped_at IsMissed
stop-found w n missed = missed

stop-due : (txs : List TxDecl) (k : Kill) (count : ℕ) → (count == k.event) ≡ true → is_stop (Stop k.node) ≡ is_due (Some k) txs count (Stop k.node)
unfolding is_stop is_due is_step_of
stop-due txs k count same = rw (same, eq-eqb k.node k.node refl) refl

stop-free : (n : ℕ) → needs_stop (Stop n) ≡ true → ⊥
unfolding needs_stop
stop-free n needs = absurd cc

-- the stop that replaces a step that is due
stop-going : (kill : Option Kill) (p : Plan) (before : List Step) (g : Going) (s : Step) → p.kill ≡ kill → IsWithin p → IsGoing p before g → g.over ≡ false → StepFits p.config p.txs s
    → is_due kill p.txs g.count s ≡ true → IsGoing p before record { world = stepped g.world (stop_of kill s); steps = g.steps ++ stop_of kill s ∷ []; count = g.count + counts_as kill p.txs (stop_of kill s); next = g.next; over = g.over }
unfolding is_due stop_of
stop-going None p before g s is within h ongoing fits due = absurd cc
stop-going (Some k) p before g s is within h ongoing fits due =
    let parts = both_parts (is_step_of p.txs k.node s) (g.count == k.event) due in
    let there : k.node < p.config.nodes = step-node s p k.node within fits parts.0 in
    subst (λ (o : Option Kill). IsGoing p before record { world = stepped g.world (Stop k.node); steps = g.steps ++ Stop k.node ∷ []; count = g.count + counts_as o p.txs (Stop k.node); next = g.next; over = g.over }) is
    (going-step p before g (Stop k.node) h ongoing (stop-fits p k.node there) (stop-found g.world k.node)
    (subst (λ (o : Option Kill). is_stop (Stop k.node) ≡ is_due o p.txs g.count (Stop k.node)) (sym is) (stop-due p.txs k g.count parts.1)) (λ needs. absurd (stop-free k.node needs)))

-- the step that is made in its turn, or the stop in its place
step-going : (b : Bool) (p : Plan) (before : List Step) (g : Going) (s : Step) → IsWithin p → IsGoing p before g → g.over ≡ false → MayOffer p g.world (has_stop (before ++ g.steps)) s
    → is_due p.kill p.txs g.count s ≡ b
    → IsGoing p before record {
      world = stepped g.world (if b then stop_of p.kill s else s);
      steps = g.steps ++ (if b then stop_of p.kill s else s) ∷ [];
      count = g.count + counts_as p.kill p.txs (if b then stop_of p.kill s else s);
      next = g.next;
      over = g.over;
    }
step-going true p before g s within h ongoing may due = stop-going p.kill p before g s refl within h ongoing may.fits due
step-going false p before g s within h ongoing may due = going-step p before g s h ongoing may.fits may.found (may.no_stop ∙ sym due) may.behind

open-offer : (p : Plan) (before : List Step) (g : Going) (s : Step) → IsWithin p → IsGoing p before g → g.over ≡ false → MayOffer p g.world (has_stop (before ++ g.steps)) s
    → IsGoing p before (stepped_by p.kill g (or_stop p.kill g.world.txs g.count s))
open-offer p before g s within h ongoing may =
    let k = going-known p before g within h in
    subst (λ (ts : List TxDecl). IsGoing p before record {
      world = stepped g.world (or_stop p.kill ts g.count s);
      steps = g.steps ++ or_stop p.kill ts g.count s ∷ [];
      count = g.count + counts_as p.kill ts (or_stop p.kill ts g.count s);
      next = g.next;
      over = g.over;
    }) (sym k.declared) (step-going (is_due p.kill p.txs g.count s) p before g s within h ongoing may refl)

-- an offer keeps it
pub offer-going : (p : Plan) (before : List Step) (g : Going) (s : Step) → IsWithin p → IsGoing p before g → MayOffer p g.world (has_stop (before ++ g.steps)) s → IsGoing p before (offer p.kill g s)
unfolding offer
offer-going p before g s within h may =
    cond_both g.over g (if all_closed g.world then record g { over = true } else stepped_by p.kill g (or_stop p.kill g.world.txs g.count s)) (λ (x : Going). IsGoing p before x)
    (λ over. h)
    (λ ongoing. cond_both (all_closed g.world) (record g { over = true }) (stepped_by p.kill g (or_stop p.kill g.world.txs g.count s)) (λ (x : Going). IsGoing p before x)
    (λ closed. record { world = h.world; live = h.live; count = h.count; ended = λ over. closed })
    (λ _. open-offer p before g s within h ongoing may))

-- if a step may be offered where a test is true, then the drive goes on after the offer
pub offer_where-going : (test : Bool) (p : Plan) (before : List Step) (g : Going) (s : Step) → IsWithin p → IsGoing p before g → (test ≡ true → MayOffer p g.world (has_stop (before ++ g.steps)) s)
    → IsGoing p before (offer_where test p.kill g s)
offer_where-going true p before g s within h may = offer-going p before g s within h (may refl)
offer_where-going false p before g s within h may = h

-- ---- the items

-- an item that keeps it for each number below a bound keeps it for all of them
each_number-going : (p : Plan) (before : List Step) (bound : ℕ) (item : Going → ℕ → Going) → ((g : Going) (n : ℕ) → n < bound → IsGoing p before g → IsGoing p before (item g n))
    → (first count : ℕ) → first + count ≤ bound → (g : Going) → IsGoing p before g → IsGoing p before (each_number item g (numbers_from first count))
unfolding each_number numbers_from
each_number-going p before bound item keeps first zero le g h = h
each_number-going p before bound item keeps first (suc count) le g h =
    each_number-going p before bound item keeps (suc first) count (omega arith) (item g first) (keeps g first (omega arith) h)

tick-may : (p : Plan) (w : World) (stopped : Bool) (n : ℕ) → n < p.config.nodes → MayOffer p w stopped (Tick n)
unfolding StepFits is_stop needs_stop happens ticked_at IsMissed
tick-may p w stopped n there = record { fits = there; no_stop = refl; found = λ missed. missed; behind = λ needs. absurd cc }

try-may : (p : Plan) (w : World) (stopped : Bool) (n s : ℕ) → n < p.config.nodes → s < p.config.slots → MayOffer p w stopped (Try n s)
unfolding StepFits is_stop needs_stop happens tried_at IsMissed
try-may p w stopped n s there less = record { fits = (there, less); no_stop = refl; found = λ missed. missed; behind = λ needs. absurd cc }

nth_letter-there : (ls : List Letter) (i : ℕ) → i < length ls → (l : Letter) × (nth_letter ls i ≡ Some l)
unfolding nth_letter
nth_letter-there [] i less = absurd (omega arith)
nth_letter-there (l ∷ ls) zero less = (l, refl)
nth_letter-there (l ∷ ls) (suc i) less = nth_letter-there ls i (omega arith)

deliver-found : (o : Option Letter) (w : World) (sender receiver : ℕ) (l : Letter) → o ≡ Some l → IsMissed (deliver_or_not w sender receiver o).answer → ⊥
unfolding deliver_or_not received_at IsMissed
deliver-found None w sender receiver l is missed = absurd cc
deliver-found (Some k) w sender receiver l is missed = missed

deliver-may : (p : Plan) (w : World) (stopped : Bool) (sender receiver i : ℕ) → sender < p.config.nodes → receiver < p.config.nodes → i < length (link w.links sender receiver) → MayOffer p w stopped (Deliver sender receiver i)
unfolding StepFits is_stop needs_stop happens
deliver-may p w stopped sender receiver i s r less =
    let l = nth_letter-there (link w.links sender receiver) i less in
    record { fits = (s, r); no_stop = refl; found = deliver-found (nth_letter (link w.links sender receiver) i) w sender receiver l.0 l.1; behind = λ needs. absurd cc }

-- if the opposite of a test is true, then the test is false
pub not_false : (b : Bool) → not b ≡ true → b ≡ false
not_false true h = absurd cc
not_false false h = refl

follow-waits : (o : Option ℕ) (w : World) → may_follow w o ≡ true → waits_for w o ≡ None
unfolding may_follow waits_for
follow-waits None w h = refl
follow-waits (Some j) w h = where_false (is_none (record_of w.book j).acked) (Waits j) (some_not_none (record_of w.book j).acked h)
  where
    some_not_none : (o : Option ℕ) → is_some o ≡ true → is_none o ≡ false
    some_not_none None h = absurd cc
    some_not_none (Some a) h = refl

none_not_some : (o : Option ℕ) → is_none o ≡ true → is_some o ≡ false
none_not_some None h = refl
none_not_some (Some a) h = absurd cc

begin-found : (o : Option Answer) (w : World) (k : ℕ) → o ≡ None → IsMissed (begin_or_not w k o).answer → ⊥
unfolding begin_or_not IsMissed
begin-found None w k is missed = missed
begin-found (Some a) w k is missed = absurd cc

-- if a transaction can begin, then its begin is not refused
pub can_begin-free : (w : World) (k : ℕ) → can_begin w k ≡ true → begin_refused w k ≡ None
unfolding can_begin begin_refused
can_begin-free w k h =
    let a = both_parts _ _ h in
    let b = both_parts _ _ a.0 in
    let c = both_parts _ _ b.0 in
    three_none _ _ _ (where_false _ Twice (none_not_some (record_of w.book k).begun c.0)) (where_false _ (BeginAnswer Stopped) (not_false (node w (tx_decl w k).node).stopped c.1))
    (follow-waits (tx_decl w k).after w b.1)

begin-may : (p : Plan) (w : World) (stopped : Bool) (k : ℕ) → k < length p.txs → can_begin w k ≡ true → MayOffer p w stopped (Begin k)
unfolding StepFits is_stop needs_stop happens step_begin
begin-may p w stopped k less can =
    record { fits = less; no_stop = refl; found = begin-found (begin_refused w k) w k (can_begin-free w k can); behind = λ needs. absurd cc }

-- ---- views and installs

live_among-rises : (w : World) (b : ℕ) (ns : List ℕ) → RisesFrom b ns → RisesFrom b (live_among w ns)
unfolding live_among RisesFrom
live_among-rises w b [] h = h
live_among-rises w b (n ∷ ns) h =
    cond_both (is_live w n) (n ∷ live_among w ns) (live_among w ns) (λ (ms : List ℕ). RisesFrom b ms)
    (λ _. (h.0, live_among-rises w (suc n) ns h.1))
    (λ _. let le = h.0 in RisesFrom-lower b (suc n) (live_among w ns) (omega arith) (live_among-rises w (suc n) ns h.1))

has_cons : (k n : ℕ) (ns ms : List ℕ) → (has k ns ≡ true → has k ms ≡ true) → has k (n ∷ ns) ≡ true → has k (n ∷ ms) ≡ true
unfolding has
has_cons k n ns ms h is = in_or (k == n) (has k ns) (has k ms) h is
  where
    in_or : (a b c : Bool) → (b ≡ true → c ≡ true) → (a || b) ≡ true → (a || c) ≡ true
    in_or true b c h is = refl
    in_or false b c h is = h is

live_among-has : (w : World) (ns : List ℕ) (k : ℕ) → has k (live_among w ns) ≡ true → has k ns ≡ true
unfolding live_among
live_among-has w [] k h = h
live_among-has w (n ∷ ns) k h =
    cond_both (is_live w n) (n ∷ live_among w ns) (live_among w ns) (λ (ms : List ℕ). has k ms ≡ true → has k (n ∷ ns) ≡ true)
    (λ _. has_cons k n (live_among w ns) ns (live_among-has w ns k)) (λ _ is. has-tail k n ns (live_among-has w ns k is)) h

-- where some do not run, one is stopped
pub record HasStopped (w : World) (ns : List ℕ) : Type 0 where
  pub node : ℕ
  pub is : has node ns ≡ true
  pub stopped : is_live w node ≡ false

some-stopped : (w : World) (ns : List ℕ) → length (live_among w ns) < length ns → HasStopped w ns
unfolding live_among
some-stopped w [] less = absurd (omega arith)
some-stopped w (n ∷ ns) less =
    cond_both (is_live w n) (n ∷ live_among w ns) (live_among w ns) (λ (ms : List ℕ). length ms < suc (length ns) → is_live w n ≡ true ⊎ is_live w n ≡ false → HasStopped w (n ∷ ns))
    (λ _ fewer c. let h = some-stopped w ns (omega arith) in record { node = h.node; is = has-tail h.node n ns h.is; stopped = h.stopped })
    (λ dead fewer c. record { node = n; is = has-head n ns; stopped = dead }) less (cases_Bool (is_live w n))

view-found : (o : Option Made) (w : World) (set : List ℕ) → IsMissed (view_or_not w set o).answer → ⊥
unfolding view_or_not IsMissed
view-found None w set missed = missed
view-found (Some m) w set missed = missed

double_not : (b : Bool) → not b ≡ false → b ≡ true
double_not true h = refl
double_not false h = absurd cc

view-may : (p : Plan) (w : World) (stopped : Bool) → IsKnownWorld p w stopped → length (live_among w (last_view w.views)) < length (last_view w.views) → MayOffer p w stopped (View (live_among w (last_view w.views)))
unfolding StepFits is_stop needs_stop happens
view-may p w stopped k fewer =
    let last = last_view w.views in
    let s = some-stopped w last fewer in
    record {
      fits = (live_among-rises w 0 last k.last.0, λ n is. k.last.1 n (live_among-has w last n is));
      no_stop = refl;
      found = view-found (view_refused w (live_among w last)) w (live_among w last);
      behind = λ needs. k.stops s.node (k.last.1 s.node s.is) (double_not (node w s.node).stopped s.stopped);
    }

install-found : (w : World) (n e : ℕ) → nat_lt (length w.views) e ≡ false → IsMissed (step_install w n e).answer → ⊥
unfolding step_install installed_at IsMissed
install-found w n e there missed = rw there at missed

not_below : (n : ℕ) → nat_lt n n ≡ false
not_below n = false_from_ne_true (nat_lt n n) (λ less. let h : n < n = ltb-true n n less in absurd (omega arith))

install-may : (p : Plan) (w : World) (stopped : Bool) (n : ℕ) → IsKnownWorld p w stopped → n < p.config.nodes → is_live w n ≡ true → (node w n).epoch < length w.views → MayOffer p w stopped (Install n (length w.views))
unfolding StepFits is_stop needs_stop happens system
install-may p w stopped n k there live older =
    let r = k.reached in
    let u = r.usual in
    let steady = u.steady in
    let known = steady.nodes n (not_false (node w n).stopped live) in
    let first = known.first in
    let one = k.first in
    record {
      fits = (there, one);
      no_stop = refl;
      found = install-found w n (length w.views) (not_below (length w.views));
      behind = λ needs. k.views (omega arith);
    }

-- ---- a round

module _ (p : Plan) (before : List Step) (within : IsWithin p) where
  pub view_item-going : (g : Going) → IsGoing p before g → IsGoing p before (view_item p.kill g)
  view_item-going g h =
      let last = last_view g.world.views in
      offer_where-going (nat_lt (length (live_among g.world last)) (length last)) p before g (View (live_among g.world last)) within h
      (λ fewer. view-may p g.world (has_stop (before ++ g.steps)) (going-known p before g within h) (ltb-true (length (live_among g.world last)) (length last) fewer))

  pub install_item-going : (g : Going) (n : ℕ) → n < p.config.nodes → IsGoing p before g → IsGoing p before (install_item p.kill g n)
  install_item-going g n there h =
      offer_where-going (is_live g.world n && nat_lt (node g.world n).epoch (length g.world.views)) p before g (Install n (length g.world.views)) within h
      (λ test. let parts = both_parts (is_live g.world n) (nat_lt (node g.world n).epoch (length g.world.views)) test in
      install-may p g.world (has_stop (before ++ g.steps)) n (going-known p before g within h) there parts.0 (ltb-true (node g.world n).epoch (length g.world.views) parts.1))

  pub begin_item-going : (g : Going) (k : ℕ) → k < length p.txs → IsGoing p before g → IsGoing p before (begin_item p.kill g k)
  begin_item-going g k less h =
      offer_where-going (can_begin g.world k) p before g (Begin k) within h (λ can. begin-may p g.world (has_stop (before ++ g.steps)) k less can)

  pub try_item-going : (n : ℕ) → n < p.config.nodes → (g : Going) (s : ℕ) → s < p.config.slots → IsGoing p before g → IsGoing p before (try_item p.kill n g s)
  try_item-going n there g s less h =
      offer_where-going (is_live g.world n && is_some (slot (node g.world n) s).current) p before g (Try n s) within h (λ test. try-may p g.world (has_stop (before ++ g.steps)) n s there less)

  pub tick_item-going : (g : Going) (n : ℕ) → n < p.config.nodes → IsGoing p before g → IsGoing p before (tick_item p.kill g n)
  tick_item-going g n there h = offer_where-going (is_live g.world n) p before g (Tick n) within h (λ test. tick-may p g.world (has_stop (before ++ g.steps)) n there)

  with_next-going : (g after : Going) (sender receiver : ℕ) (due : Bool) → IsGoing p before after → IsGoing p before (with_next g after sender receiver due)
  unfolding with_next
  with_next-going g after sender receiver due h =
      cond_both (not due && nat_lt (length g.steps) (length after.steps)) (record after { next = next_after g.next sender receiver }) after (λ (x : Going). IsGoing p before x)
      (λ _. record { world = h.world; live = h.live; count = h.count; ended = h.ended }) (λ _. h)

  pub delivery_item-going : (sender receiver : ℕ) → sender < p.config.nodes → receiver < p.config.nodes → (g : Going) (turn : ℕ) → turn < 16 → IsGoing p before g → IsGoing p before (delivery_item p.kill sender receiver g turn)
  unfolding delivery_item
  delivery_item-going sender receiver s r g turn less h =
      let test = is_live g.world sender && is_live g.world receiver && nat_lt (next_of g.next sender receiver) (length (link g.world.links sender receiver)) in
      let due = is_due p.kill g.world.txs g.count (delivery g sender receiver) in
      cond_both test (with_next g (offer p.kill g (delivery g sender receiver)) sender receiver due) g (λ (x : Going). IsGoing p before x)
      (λ is. let parts = both_parts (is_live g.world sender && is_live g.world receiver) (nat_lt (next_of g.next sender receiver) (length (link g.world.links sender receiver))) is in
      with_next-going g (offer p.kill g (delivery g sender receiver)) sender receiver due
      (offer-going p before g (delivery g sender receiver) within h
      (deliver-may p g.world (has_stop (before ++ g.steps)) sender receiver (next_of g.next sender receiver) s r (ltb-true _ _ parts.1))))
      (λ _. h)

  -- all numbers below what the world's configuration says
  pub all_below : (bound : ℕ) (item : Going → ℕ → Going) → ((g : Going) (n : ℕ) → n < bound → IsGoing p before g → IsGoing p before (item g n)) → (count : ℕ) → count ≡ bound
      → (g : Going) → IsGoing p before g → IsGoing p before (each_number item g (below count))
  all_below bound item keeps count same g h = each_number-going p before bound item keeps 0 count (omega arith) g h

  pub nodes_of : (g : Going) → IsGoing p before g → g.world.config.nodes ≡ p.config.nodes
  nodes_of g h = let k = going-known p before g within h in ap (λ (c : Config). c.nodes) k.config

  pub tries_of-going : (g : Going) (n : ℕ) → n < p.config.nodes → IsGoing p before g → IsGoing p before (tries_of p.kill g n)
  tries_of-going g n there h =
      let k = going-known p before g within h in
      all_below p.config.slots (try_item p.kill n) (try_item-going n there) g.world.config.slots (ap (λ (c : Config). c.slots) k.config) g h

  pub deliveries_between-going : (sender : ℕ) → sender < p.config.nodes → (g : Going) (receiver : ℕ) → receiver < p.config.nodes → IsGoing p before g → IsGoing p before (deliveries_between p.kill sender g receiver)
  deliveries_between-going sender s g receiver r h = all_below 16 (delivery_item p.kill sender receiver) (delivery_item-going sender receiver s r) 16 refl g h

  pub deliveries_from-going : (g : Going) (sender : ℕ) → sender < p.config.nodes → IsGoing p before g → IsGoing p before (deliveries_from p.kill g sender)
  deliveries_from-going g sender s h = all_below p.config.nodes (deliveries_between p.kill sender) (deliveries_between-going sender s) g.world.config.nodes (nodes_of g h) g h

  pub views_and_installs-going : (g : Going) → IsGoing p before g → IsGoing p before (views_and_installs p.kill g)
  views_and_installs-going g h = all_below p.config.nodes (install_item p.kill) install_item-going g.world.config.nodes (nodes_of g h) (view_item p.kill g) (view_item-going g h)

  pub begins_and_tries-going : (g : Going) → IsGoing p before g → IsGoing p before (begins_and_tries p.kill g)
  begins_and_tries-going g h =
      let k = going-known p before g within h in
      let begun = all_below (length p.txs) (begin_item p.kill) begin_item-going (length g.world.txs) (ap (λ (ts : List TxDecl). length ts) k.declared) g h in
      all_below p.config.nodes (tries_of p.kill) tries_of-going g.world.config.nodes (nodes_of g h) (each_number (begin_item p.kill) g (below (length g.world.txs))) begun

  deliveries_and_ticks-going : (g : Going) → IsGoing p before g → IsGoing p before (deliveries_and_ticks p.kill g)
  deliveries_and_ticks-going g h =
      let delivered = all_below p.config.nodes (deliveries_from p.kill) deliveries_from-going g.world.config.nodes (nodes_of g h) g h in
      all_below p.config.nodes (tick_item p.kill) tick_item-going g.world.config.nodes (nodes_of g h) (each_number (deliveries_from p.kill) g (all_nodes g)) delivered

  pub round-going : (g : Going) → IsGoing p before g → IsGoing p before (round p.kill g)
  unfolding round
  round-going g h =
      let first = views_and_installs-going g h in
      let second = begins_and_tries-going (views_and_installs p.kill g) first in
      deliveries_and_ticks-going (begins_and_tries p.kill (views_and_installs p.kill g)) second

  rounds-going : (n : ℕ) (g : Going) → IsGoing p before g → IsGoing p before (rounds_of n p.kill g)
  unfolding rounds_of
  rounds-going zero g h = h
  rounds-going (suc n) g h = rounds-going n (round p.kill g) (round-going g h)

-- where a drive begins
pub start-going : (p : Plan) (before : List Step) → IsLiveRun p before → IsGoing p before (drive_start (run (start p.config p.txs) before) (count_of p.kill p.txs before))
start-going p before live =
    record {
      world = ap (λ (xs : List Step). run (start p.config p.txs) xs) (sym (append-nil before));
      live = subst (λ (xs : List Step). IsLiveRun p xs) (sym (append-nil before)) live;
      count = ap (λ (xs : List Step). count_of p.kill p.txs xs) (sym (append-nil before));
      ended = λ over. absurd cc;
    }

-- a drive behind a live run
pub drive-going : (p : Plan) (before : List Step) (rounds : ℕ) → IsWithin p → IsLiveRun p before
    → IsGoing p before (drive (run (start p.config p.txs) before) rounds p.kill (count_of p.kill p.txs before))
unfolding drive
drive-going p before rounds within live =
    rounds-going p before within (20 * rounds) (drive_start (run (start p.config p.txs) before) (count_of p.kill p.txs before)) (start-going p before live)
