-- A live run with one more step, and what is known of the world that it leads to.
use Rattle.std.specs.Prelude.{ℕ, ◌≡◌, ◌+◌, ◌<◌, ◌≤◌, Bool, true, false, ◌||◌, nat_lt, List, [], ◌∷◌, ◌++◌, length, All, Option, Some, None}
use Rattle.std.proofs.Common.{arith, refl, sym, ap, ◌∙◌, inl, inr, subst, length-append}
use Rattle.std.proofs.lemmas.Bool.{cases_eq, cond_both}
use Rattle.std.proofs.lemmas.List.Elements.{All-nil, All-cons, All-head, All-tail}
use Rattle.zeus_base.specs.Limits.{KeepsLimits}
use Rattle.zeus_base.specs.NodeLaws.{IsRising, IsBelow}
use Rattle.zeus_base.specs.declared.config.Config.{Config}
use Rattle.zeus_base.specs.declared.step.Step.{Step}
use Rattle.zeus_base.specs.declared.step.Step.TheVariants.{Begin, Try, Deliver, Tick, Stop, View, Install}
use Rattle.zeus_base.specs.TableLaws.{nth-put_same}
use Rattle.zeus_packet.specs.declared.letter.Letter.{Letter}
use Rattle.zeus_txn.specs.declared.tx.TxDecl.{TxDecl}
use Rattle.zeus_model.specs.declared.answer.Answer.{Answer}
use Rattle.zeus_model.specs.declared.answer.Answer.TheVariants.{NoPacket}
use Rattle.zeus_model.specs.declared.answer.Made.{Made}
use Rattle.zeus_model.specs.Scripts.{FitTxs}
use Rattle.zeus_model.specs.State.{Node}
use Rattle.zeus_model.specs.Tables.{nth, put}
use Rattle.zeus_model.specs.Local.{try_slot}
use Rattle.zeus_model.specs.Membership.{tick}
use Rattle.zeus_model.specs.World.{World, Event, no_node, node, tx_decl, link, last_view, begin_refused, begin_or_not, step_begin, tried_at, nth_letter, deliver_or_not, received_at, ticked_at, stopped_at, view_refused, view_or_not, step_install, installed_at, refuse_step, happens, stepped, run, start, start_node}
use Rattle.machine_moves.specs.Fits.{StepFits}
use Rattle.machine_moves.specs.SystemState.{system}
use Rattle.machine_moves.proofs.Lists.{nth-put_other}
use Rattle.machine_moves.proofs.Links.{In-from_link, nth_letter-In, HasEnds}
use Rattle.machine_moves.proofs.Receiving.{receive-answered}
use Rattle.machine_moves.proofs.Steps.{IsUsual}
use Rattle.machine_moves.proofs.Ticking.{tick-answered}
use Rattle.machine_moves.proofs.Trying.{begin-answered, try_slot-answered}
use Rattle.soundness.proofs.Runs.{IsReached, step-reached}
use Rattle.live_model.specs.Cell.{Kill}
use Rattle.live_model.specs.Cluster.{Plan}
use Rattle.live_model.specs.Drive.{is_due, counts_as, count_of}
use Rattle.live_replay.specs.LiveRun.{NoneMissed, is_stop, needs_stop, has_stop, StopsAtKill, IsLiveRun}
use Rattle.live_replay.specs.Replayed.{IsMissed}
use Rattle.live_replay.proofs.Serving.{start-mirrors, start-node, last_view-more}

-- ---- one more step

-- a run with one more step is the run and then that step
pub run-more : (w : World) (xs : List Step) (s : Step) → run w (xs ++ s ∷ []) ≡ stepped (run w xs) s
unfolding run
run-more w [] s = refl
run-more w (x ∷ xs) s = run-more (stepped w x) xs s

found-more : (w : World) (xs : List Step) (s : Step) → NoneMissed w xs → (IsMissed (happens (run w xs) s).answer → ⊥) → NoneMissed w (xs ++ s ∷ [])
unfolding NoneMissed run
found-more w [] s h last = (last, tt)
found-more w (x ∷ xs) s h last = (h.0, found-more (stepped w x) xs s h.1 last)

all-more : {A : Type 0} (P : A → Type 0) (xs : List A) (x : A) → All P xs → P x → All P (xs ++ x ∷ [])
all-more P [] x h last = All-cons P x [] last (All-nil P)
all-more P (y ∷ ys) x h last = All-cons P y (ys ++ x ∷ []) (All-head P y ys h) (all-more P ys x (All-tail P y ys h) last)

or_shift : (a b c : Bool) → ((a || b) || c) ≡ (b || (a || c))
or_shift true true c = refl
or_shift true false c = refl
or_shift false true c = refl
or_shift false false c = refl

stops-more : (kill : Option Kill) (txs : List TxDecl) (count : ℕ) (stopped : Bool) (xs : List Step) (s : Step) → StopsAtKill kill txs count stopped xs
    → is_stop s ≡ is_due kill txs (count_of kill txs xs + count) s → (needs_stop s ≡ true → (has_stop xs || stopped) ≡ true) → StopsAtKill kill txs count stopped (xs ++ s ∷ [])
unfolding StopsAtKill count_of has_stop
stops-more kill txs count stopped [] s h due behind = let same : 0 + count ≡ count = omega arith in (subst (λ (n : ℕ). is_stop s ≡ is_due kill txs n s) same due, behind, tt)
stops-more kill txs count stopped (x ∷ xs) s h due behind =
    let same : counts_as kill txs x + count_of kill txs xs + count ≡ count_of kill txs xs + (counts_as kill txs x + count) = omega arith in (
      h.0,
      h.1,
      stops-more kill txs (counts_as kill txs x + count) (is_stop x || stopped) xs s h.2
          (subst (λ (n : ℕ). is_stop s ≡ is_due kill txs n s) same due)
          (λ needs. sym (or_shift (is_stop x) (has_stop xs) stopped) ∙ behind needs),
    )

or_false : (b : Bool) → (b || false) ≡ b
or_false true = refl
or_false false = refl

-- a live run with one more step that fits, finds what it needs, and is the stop just where that is due
pub live-more : (p : Plan) (xs : List Step) (s : Step) → IsLiveRun p xs → StepFits p.config p.txs s → (IsMissed (happens (run (start p.config p.txs) xs) s).answer → ⊥)
    → is_stop s ≡ is_due p.kill p.txs (count_of p.kill p.txs xs) s → (needs_stop s ≡ true → has_stop xs ≡ true) → IsLiveRun p (xs ++ s ∷ [])
live-more p xs s h fits found due behind =
    let same : count_of p.kill p.txs xs ≡ count_of p.kill p.txs xs + 0 = omega arith in
    record {
      fit = all-more (StepFits p.config p.txs) xs s h.fit fits;
      found = found-more (start p.config p.txs) xs s h.found found;
      stops = stops-more p.kill p.txs 0 false xs s h.stops (subst (λ (n : ℕ). is_stop s ≡ is_due p.kill p.txs n s) same due) (λ needs. or_false (has_stop xs) ∙ behind needs);
    }

-- one more step of a run counts as itself and leaves the count of the others
pub count_of-more : (kill : Option Kill) (txs : List TxDecl) (xs : List Step) (s : Step) → count_of kill txs (xs ++ s ∷ []) ≡ count_of kill txs xs + counts_as kill txs s
unfolding count_of
count_of-more kill txs [] s = omega arith
count_of-more kill txs (x ∷ xs) s = let h = count_of-more kill txs xs s in omega arith

-- ---- what is known of the world

-- `stopped`: a stop was made
pub record IsKnownWorld (p : Plan) (w : World) (stopped : Bool) : Type 0 where
  pub config : w.config ≡ p.config
  pub declared : w.txs ≡ p.txs
  pub reached : IsReached w
  pub last : IsRising (last_view w.views) × IsBelow p.config.nodes (last_view w.views)
  pub first : 1 ≤ length w.views
  pub stops : (n : ℕ) → n < p.config.nodes → (node w n).stopped ≡ true → stopped ≡ true
  pub views : 1 < length w.views → stopped ≡ true

-- after a step that is no stop, and before which no stop is needed, views stay and nodes run as they did
pub record Quiet (w after : World) : Type 0 where
  pub config : after.config ≡ w.config
  pub declared : after.txs ≡ w.txs
  pub views : after.views ≡ w.views
  pub stopped : (n : ℕ) → (node after n).stopped ≡ (node w n).stopped

quiet-refused : (w : World) (a : Answer) → Quiet w (refuse_step w a).world
quiet-refused w a = record { config = refl; declared = refl; views = refl; stopped = λ n. refl }

stopped-put : (w : World) (n k : ℕ) (m : Node) → m.stopped ≡ (node w n).stopped → (nth no_node (put no_node w.nodes n m) k).stopped ≡ (node w k).stopped
stopped-put w n k m h =
    elim (cases_eq k n) [
      | inl same ↦ rw (same, nth-put_same no_node w.nodes n m) h
      | inr other ↦ ap (λ (x : Node). x.stopped) (nth-put_other no_node w.nodes n k m other)
    ]

-- a begin leaves views and stops as they are
pub quiet-begin : (o : Option Answer) (w : World) (k : ℕ) → IsUsual w → Quiet w (begin_or_not w k o).world
unfolding begin_or_not system
quiet-begin (Some a) w k u = quiet-refused w a
quiet-begin None w k u =
    let t = tx_decl w k in
    let r = begin-answered (system w) t.node t.slot k 0 t.tx u.steady in
    let keeps = r.keeps in
    record { config = refl; declared = refl; views = refl; stopped = λ n. stopped-put w t.node n _ keeps.stopped }

-- a try leaves views and stops as they are
pub quiet-try : (w : World) (n s : ℕ) → IsUsual w → s < w.config.slots → Quiet w (tried_at w n s (try_slot (node w n) s)).world
unfolding tried_at system
quiet-try w n s u less =
    let r = try_slot-answered (system w) n s 64 u.steady less in
    let keeps = r.keeps in
    record { config = refl; declared = refl; views = refl; stopped = λ k. stopped-put w n k _ keeps.stopped }

-- a delivery leaves views and stops as they are
pub quiet-deliver : (o : Option Letter) (w : World) (sender receiver i : ℕ) → IsUsual w → nth_letter (link w.links sender receiver) i ≡ o → Quiet w (deliver_or_not w sender receiver o).world
unfolding deliver_or_not received_at system HasEnds
quiet-deliver None w sender receiver i u is = quiet-refused w (NoPacket (length (link w.links sender receiver)))
quiet-deliver (Some l) w sender receiver i u is =
    let at = nth_letter-In (link w.links sender receiver) i l is in
    let ends = u.ends in
    let r = receive-answered (system w) receiver 64 l u.steady (In-from_link w.links l record { from = sender; to = receiver; is = at }) (ends sender receiver l at).1 u.few (omega arith) in
    let keeps = r.keeps in
    record { config = refl; declared = refl; views = refl; stopped = λ k. stopped-put w receiver k _ keeps.stopped }

-- a tick leaves views and stops as they are
pub quiet-tick : (w : World) (n : ℕ) → IsUsual w → Quiet w (ticked_at w n (tick (node w n))).world
unfolding ticked_at system
quiet-tick w n u =
    let r = tick-answered (system w) n 64 u.steady in
    let keeps = r.keeps in
    record { config = refl; declared = refl; views = refl; stopped = λ k. stopped-put w n k _ keeps.stopped }

known-quiet : (p : Plan) (w after : World) (stopped : Bool) → IsKnownWorld p w stopped → Quiet w after → IsReached after → IsKnownWorld p after stopped
known-quiet p w after stopped h q reached =
    record {
      config = q.config ∙ h.config;
      declared = q.declared ∙ h.declared;
      reached = reached;
      last = rw (q.views) h.last;
      first = rw (q.views) h.first;
      stops = λ n less is. h.stops n less (sym (q.stopped n) ∙ is);
      views = rw (q.views) h.views;
    }

-- after a stop nothing is left to say but that it was made
known-stopped : (p : Plan) (w after : World) (stopped : Bool) → stopped ≡ true → after.config ≡ w.config → after.txs ≡ w.txs → IsReached after → IsRising (last_view after.views) × IsBelow p.config.nodes (last_view after.views)
    → 1 ≤ length after.views → IsKnownWorld p w stopped → IsKnownWorld p after stopped
known-stopped p w after stopped is config declared reached last first h =
    record { config = config ∙ h.config; declared = declared ∙ h.declared; reached = reached; last = last; first = first; stops = λ n less at. is; views = λ more. is }

same-views : (p : Plan) (w after : World) (stopped : Bool) → IsKnownWorld p w stopped → after.config ≡ w.config → after.txs ≡ w.txs → after.views ≡ w.views → IsReached after → IsKnownWorld p after true
same-views p w after stopped h config declared views reached =
    record { config = config ∙ h.config; declared = declared ∙ h.declared; reached = reached; last = rw views h.last; first = rw views h.first; stops = λ n less at. refl; views = λ more. refl }

view-known : (o : Option Made) (p : Plan) (w : World) (set : List ℕ) (stopped : Bool) → IsKnownWorld p w stopped → stopped ≡ true → IsRising set × IsBelow p.config.nodes set → IsReached (view_or_not w set o).world
    → IsKnownWorld p (view_or_not w set o).world stopped
unfolding view_or_not
view-known (Some m) p w set stopped h is fits reached = known-stopped p w _ stopped is refl refl reached h.last h.first h
view-known None p w set stopped h is fits reached =
    known-stopped p w _ stopped is refl refl reached (rw (last_view-more w.views set) fits)
    (let more : length (w.views ++ set ∷ []) ≡ length w.views + 1 = length-append w.views (set ∷ []) in omega arith) h

install-known : (p : Plan) (w : World) (n e : ℕ) (stopped : Bool) → IsKnownWorld p w stopped → stopped ≡ true → IsReached (step_install w n e).world → IsKnownWorld p (step_install w n e).world stopped
unfolding step_install installed_at
install-known p w n e stopped h is =
    cond_both (nat_lt (length w.views) e) (refuse_step w _) _ (λ (x : Event). IsReached x.world → IsKnownWorld p x.world stopped)
    (λ _ reached. known-stopped p w _ stopped is refl refl reached h.last h.first h)
    (λ _ reached. known-stopped p w _ stopped is refl refl reached h.last h.first h)

-- if a world is known and a step fits, and comes after a stop where it needs one, then the world after it is known
pub step-known : (s : Step) (p : Plan) (w : World) (stopped : Bool) → IsKnownWorld p w stopped → StepFits p.config p.txs s → (needs_stop s ≡ true → stopped ≡ true)
    → IsKnownWorld p (stepped w s) (is_stop s || stopped)
unfolding happens step_begin is_stop needs_stop stopped_at StepFits
step-known (Begin k) p w stopped h fits behind =
    let r = h.reached in known-quiet p w (stepped w (Begin k)) stopped h (quiet-begin (begin_refused w k) w k r.usual) (step-reached p.config p.txs w (Begin k) h.config h.declared r fits)
step-known (Try n s) p w stopped h fits behind =
    let r = h.reached in
    known-quiet p w (stepped w (Try n s)) stopped h (quiet-try w n s r.usual (subst (λ (c : Config). s < c.slots) (sym h.config) fits.1)) (step-reached p.config p.txs w (Try n s) h.config h.declared r fits)
step-known (Deliver sender receiver i) p w stopped h fits behind =
    let r = h.reached in
    known-quiet p w (stepped w (Deliver sender receiver i)) stopped h (quiet-deliver (nth_letter (link w.links sender receiver) i) w sender receiver i r.usual refl)
    (step-reached p.config p.txs w (Deliver sender receiver i) h.config h.declared r fits)
step-known (Tick n) p w stopped h fits behind =
    let r = h.reached in known-quiet p w (stepped w (Tick n)) stopped h (quiet-tick w n r.usual) (step-reached p.config p.txs w (Tick n) h.config h.declared r fits)
step-known (Stop n) p w stopped h fits behind =
    let r = h.reached in same-views p w (stepped w (Stop n)) stopped h refl refl refl (step-reached p.config p.txs w (Stop n) h.config h.declared r fits)
step-known (View set) p w stopped h fits behind =
    let r = h.reached in view-known (view_refused w set) p w set stopped h (behind refl) fits (step-reached p.config p.txs w (View set) h.config h.declared r fits)
step-known (Install n e) p w stopped h fits behind =
    let r = h.reached in install-known p w n e stopped h (behind refl) (step-reached p.config p.txs w (Install n e) h.config h.declared r fits)

run-known : (xs : List Step) (p : Plan) (w : World) (count : ℕ) (stopped : Bool) → IsKnownWorld p w stopped → All (StepFits p.config p.txs) xs → StopsAtKill p.kill p.txs count stopped xs
    → IsKnownWorld p (run w xs) (has_stop xs || stopped)
unfolding run StopsAtKill has_stop
run-known [] p w count stopped h fit stops = h
run-known (s ∷ ss) p w count stopped h fit stops =
    let next = step-known s p w stopped h (All-head (StepFits p.config p.txs) s ss fit) stops.1 in
    subst (λ (b : Bool). IsKnownWorld p (run (stepped w s) ss) b) (sym (or_shift (is_stop s) (has_stop ss) stopped))
    (run-known ss p (stepped w s) (counts_as p.kill p.txs s + count) (is_stop s || stopped) next (All-tail (StepFits p.config p.txs) s ss fit) stops.2)

one_view : (c : Config) (txs : List TxDecl) → length (start c txs).views ≡ 1
unfolding start
one_view c txs = refl

start_runs : (c : Config) (n : ℕ) → (start_node c n).stopped ≡ false
unfolding start_node
start_runs c n = refl

start-known : (p : Plan) → KeepsLimits p.config → FitTxs p.config 0 p.txs → IsKnownWorld p (start p.config p.txs) false
start-known p keeps fit =
    let m = start-mirrors p.config p.txs keeps fit in
    let one = one_view p.config p.txs in
    record {
      config = m.config;
      declared = m.declared;
      reached = m.reached;
      last = m.last;
      first = omega arith;
      stops = λ n less is.
          let runs : (node (start p.config p.txs) n).stopped ≡ false = ap (λ (x : Node). x.stopped) (start-node p.config p.txs n less) ∙ start_runs p.config n in absurd cc;
      views = λ more. absurd (omega arith);
    }

-- what is known after a live run
pub live-known : (p : Plan) (xs : List Step) → KeepsLimits p.config → FitTxs p.config 0 p.txs → IsLiveRun p xs → IsKnownWorld p (run (start p.config p.txs) xs) (has_stop xs)
live-known p xs keeps fit h =
    subst (λ (b : Bool). IsKnownWorld p (run (start p.config p.txs) xs) b) (or_false (has_stop xs))
    (run-known xs p (start p.config p.txs) 0 false (start-known p keeps fit) h.fit h.stops)
