-- A node stops by its stop alone.
use Rattle.std.specs.Prelude.{ℕ, ◌≡◌, ◌-◌, ◌<◌, ◌≤◌, Bool, true, false, nat_lt, ◌==◌, List, [], ◌∷◌, ◌++◌, length, map, take, All, Option, Some, None, ◌⊎◌, if◌then◌else◌}
use Rattle.std.proofs.Common.{refl, sym, ap, ◌∙◌, inl, inr, subst, eq-eqb}
use Rattle.std.proofs.lemmas.Bool.{cases_eq, cond_both, ltb-true, ltb-false}
use Rattle.std.proofs.lemmas.List.Elements.{All-head, All-tail}
use Rattle.zeus_base.specs.declared.config.Config.{Config}
use Rattle.zeus_base.specs.declared.step.Step.{Step}
use Rattle.zeus_base.specs.declared.step.Step.TheVariants.{Begin, Try, Deliver, Tick, Stop, View, Install}
use Rattle.zeus_base.specs.TableLaws.{nth-put_same}
use Rattle.zeus_txn.specs.declared.tx.TxDecl.{TxDecl}
use Rattle.zeus_model.specs.declared.answer.Install.{Install as Installing}
use Rattle.zeus_model.specs.declared.answer.Install.TheVariants.{Installed, Stopped as InstallStopped, Old}
use Rattle.zeus_model.specs.declared.answer.Made.{Made}
use Rattle.zeus_model.specs.In.{In, here, there}
use Rattle.zeus_model.specs.Act.{Did, just, did_then}
use Rattle.zeus_model.specs.Commit.{finish}
use Rattle.zeus_model.specs.Membership.{install, stop}
use Rattle.zeus_model.specs.State.{Node}
use Rattle.zeus_model.specs.Tables.{nth, put}
use Rattle.zeus_model.specs.World.{World, Event, no_node, node, link, nth_letter, begin_refused, step_begin, stopped_at, view_refused, view_or_not, step_install, installed_at, refuse_step, happens, stepped, run}
use Rattle.machine_moves.specs.Fits.{StepFits}
use Rattle.machine_moves.specs.Move.{Move, installs}
use Rattle.machine_moves.specs.SystemState.{SystemState, system, view, IsLive, nothing}
use Rattle.machine_moves.proofs.Finish.{finish-reached}
use Rattle.machine_moves.proofs.Lists.{In-nothing, nth-put_other}
use Rattle.machine_moves.proofs.Reach.{Became-changed, Changes-became, changed, Reaches, IsReady}
use Rattle.machine_moves.proofs.Steady.{IsSteady, move_keep}
use Rattle.machine_moves.proofs.Steps.{IsStep, IsUsual, step_is_moves, viewed}
use Rattle.data_safety.specs.RunState.{run_state}
use Rattle.data_safety.proofs.steps.StepRuns.{moves_txs}
use Rattle.data_safety.proofs.steps.StepMoves.{step_is_run_moves}
use Rattle.soundness.proofs.Runs.{IsReached, step-reached}
use Rattle.live_model.specs.Cell.{CellEvent, Deed, Began, Tried, Took, Ticked, Halted, Saw, step_of}
use Rattle.live_model.specs.Merge.{Turn, cell_turn, service_turn, entry_of, turn_step}
use Rattle.live_replay.specs.Parts.{part, of_cell, cell_part}
use Rattle.live_replay.proofs.LiveRuns.{quiet-begin, quiet-try, quiet-deliver, quiet-tick}

-- ---- an install stops no node

installs-stopped : (s : SystemState) (n e : ℕ) → IsSteady s → IsLive s n → (s.node n).epoch < e → e ≤ length s.views → (finish (viewed s n e)).node.stopped ≡ (s.node n).stopped
installs-stopped s n e steady live less le =
    let m = viewed s n e in
    let u = changed s n m [] in
    let first = Became-changed s n m [] in
    let move : Move s u = installs n e less le (Changes-became s u n m [] nothing live first (λ l i. In-nothing l i)) in
    let ready : IsReady u n = record { steady = move_keep s u move steady; live = rw (first.node) live } in
    let r : Reaches u n (finish m).node (take 64 (finish m).sent) = subst (λ (x : Node). Reaches u n (finish x).node (take 64 (finish x).sent)) first.node (finish-reached u n 64 ready) in
    let keeps = r.keeps in
    keeps.stopped ∙ ap (λ (x : Node). x.stopped) first.node

install-stopped : (s : SystemState) (n e : ℕ) → IsSteady s → e ≤ length s.views → (install (s.node n) record { epoch = e; members = view s e }).node.stopped ≡ (s.node n).stopped
unfolding install
install-stopped s n e steady le =
    let m = s.node n in
    let installed : Did Installing = did_then (just (viewed s n e) Installed) finish in
    let later : Did Installing = if nat_lt m.epoch e then installed else just m (Old m.epoch) in
    cond_both m.stopped (just m InstallStopped) later (λ (d : Did Installing). d.node.stopped ≡ m.stopped)
    (λ _. refl)
    (λ live. cond_both (nat_lt m.epoch e) installed (just m (Old m.epoch)) (λ (d : Did Installing). d.node.stopped ≡ m.stopped)
    (λ less. installs-stopped s n e steady live (ltb-true m.epoch e less) le)
    (λ _. refl))

-- ---- steps

-- a node that is stopped after a step was so before, or this is its stop
unfoldable StopsBy : World → World → ℕ → Step → Type 0
StopsBy w after n s = (node after n).stopped ≡ true → ((node w n).stopped ≡ true) ⊎ (s ≡ Stop n)

put-stopped : (w : World) (n k : ℕ) (m : Node) → m.stopped ≡ (node w n).stopped → (nth no_node (put no_node w.nodes n m) k).stopped ≡ true → (node w k).stopped ≡ true
put-stopped w n k m same h =
    elim (cases_eq k n) [
      | inl is ↦
          let here : m.stopped ≡ true = rw (is, nth-put_same no_node w.nodes n m) at h in
          rw is (sym same ∙ here)
      | inr other ↦ rw (nth-put_other no_node w.nodes n k m other) at h
    ]

stop-by : (w : World) (m n : ℕ) → StopsBy w (stopped_at w m (stop (node w m))).world n (Stop m)
unfolding stopped_at StopsBy
stop-by w m n h =
    elim (cases_eq n m) [
      | inl is ↦ inr (ap Stop (sym is))
      | inr other ↦ inl (rw (nth-put_other no_node w.nodes m n (stop (node w m)).node other) at h)
    ]

view-by : (o : Option Made) (w : World) (set : List ℕ) (n : ℕ) (s : Step) → StopsBy w (view_or_not w set o).world n s
unfolding view_or_not StopsBy
view-by (Some m) w set n s h = inl h
view-by None w set n s h = inl h

install-by : (w : World) (m e n : ℕ) (s : Step) → IsUsual w → StopsBy w (step_install w m e).world n s
unfolding step_install installed_at system StopsBy
install-by w m e n s u =
    cond_both (nat_lt (length w.views) e) (refuse_step w _) _ (λ (x : Event). (node x.world n).stopped ≡ true → ((node w n).stopped ≡ true) ⊎ (s ≡ Stop n))
    (λ _ h. inl h)
    (λ le h. inl (put-stopped w m n (install (node w m) record { epoch = e; members = nth [] w.views (e - 1) }).node (install-stopped (system w) m e u.steady (ltb-false (length w.views) e le)) h))

step-by : (s : Step) (w : World) (n : ℕ) → IsUsual w → StepFits w.config w.txs s → StopsBy w (stepped w s) n s
unfolding happens step_begin StepFits StopsBy
step-by (Begin k) w n u fits h = let q = quiet-begin (begin_refused w k) w k u in inl (sym (q.stopped n) ∙ h)
step-by (Try m s) w n u fits h = let q = quiet-try w m s u fits.1 in inl (sym (q.stopped n) ∙ h)
step-by (Deliver sender receiver i) w n u fits h = let q = quiet-deliver (nth_letter (link w.links sender receiver) i) w sender receiver i u refl in inl (sym (q.stopped n) ∙ h)
step-by (Tick m) w n u fits h = let q = quiet-tick w m u in inl (sym (q.stopped n) ∙ h)
step-by (Stop m) w n u fits h = stop-by w m n h
step-by (View set) w n u fits h = view-by (view_refused w set) w set n (View set) h
step-by (Install m e) w n u fits h = install-by w m e n (Install m e) u h

-- ---- runs

run-by : (c : Config) (txs : List TxDecl) (steps : List Step) (w : World) (n : ℕ) → w.config ≡ c → w.txs ≡ txs → IsReached w → All (StepFits c txs) steps → (node (run w steps) n).stopped ≡ true
    → ((node w n).stopped ≡ true) ⊎ In (Stop n) steps
unfolding run StopsBy
run-by c txs [] w n config same r fits h = inl h
run-by c txs (s ∷ ss) w n config same r fits h =
    let first : StepFits c txs s = All-head (StepFits c txs) s ss fits in
    let fit : StepFits w.config w.txs s = rw (config, same) first in
    let moved : IsStep w (stepped w s) = step_is_moves w s txs r.usual (rw config first) in
    let kept : (stepped w s).txs ≡ w.txs = moves_txs (run_state w) (run_state (stepped w s)) (step_is_run_moves w s r.usual fit) in
    elim (run-by c txs ss (stepped w s) n (moved.config ∙ config) (kept ∙ same) (step-reached c txs w s config same r first) (All-tail (StepFits c txs) s ss fits) h) [
      | inl before ↦ elim (step-by s w n r.usual fit before) [
        | inl early ↦ inl early
        | inr is ↦ inr (here s ss (sym is))
      ]
      | inr later ↦ inr (there s ss later)
    ]

-- ---- turns

-- one of the events is a stop
abbrev pub HasHalted : List CellEvent → Type 0
HasHalted es = (e : CellEvent) × In e es × (e.deed ≡ Halted)

stop_of : (d : Deed) (me n : ℕ) → Stop n ≡ step_of me d → (d ≡ Halted) × (me ≡ n)
unfolding step_of
stop_of (Began j) me n h = absurd cc
stop_of (Tried s) me n h = absurd cc
stop_of (Took sender q) me n h = absurd cc
stop_of Ticked me n h = absurd cc
stop_of Halted me n h = (refl, cc)
stop_of (Saw v) me n h = absurd cc

halted_first : (b : Bool) (e : CellEvent) (es : List CellEvent) → b ≡ true → e.deed ≡ Halted → HasHalted ((if b then e ∷ [] else []) ++ es)
halted_first true e es h is = (e, here e es refl, is)
halted_first false e es h is = absurd cc

halted_later : (b : Bool) (e : CellEvent) (es : List CellEvent) → HasHalted es → HasHalted ((if b then e ∷ [] else []) ++ es)
halted_later true e es h = (h.0, there e es h.1, h.2)
halted_later false e es h = h

turn_halted : (me n : ℕ) (e : CellEvent) (ts : List Turn) → (In (Stop n) (map turn_step ts) → HasHalted (cell_part n ts)) → In (Stop n) (step_of me e.deed ∷ map turn_step ts)
    → HasHalted ((if me == n then e ∷ [] else []) ++ cell_part n ts)
turn_halted me n e ts later (here _ _ is) =
    let s = stop_of e.deed me n is in halted_first (me == n) e (cell_part n ts) (eq-eqb me n s.1) s.0
turn_halted me n e ts later (there _ _ is) = halted_later (me == n) e (cell_part n ts) (later is)

served_later : (n : ℕ) (set : List ℕ) (ss : List Step) → In (Stop n) (View set ∷ ss) → In (Stop n) ss
served_later n set ss (here _ _ is) = absurd cc
served_later n set ss (there _ _ is) = is

-- the stop of a node among the steps of turns is a stop of its cell
pub steps-halted : (n : ℕ) (ts : List Turn) → In (Stop n) (map turn_step ts) → HasHalted (cell_part n ts)
unfolding part of_cell entry_of
steps-halted n [] is = In-nothing (Stop n) is
steps-halted n (cell_turn m e ∷ ts) is = turn_halted m n e ts (steps-halted n ts) is
steps-halted n (service_turn e ∷ ts) is = steps-halted n ts (served_later n e.members (map turn_step ts) is)

-- if a node is live before a run and stopped after it, then the run has a stop of the node
pub run-halted : (c : Config) (txs : List TxDecl) (steps : List Step) (w : World) (n : ℕ) → w.config ≡ c → w.txs ≡ txs → IsReached w → All (StepFits c txs) steps → (node w n).stopped ≡ false
    → (node (run w steps) n).stopped ≡ true → In (Stop n) steps
run-halted c txs steps w n config same r fits runs h =
    elim (run-by c txs steps w n config same r fits h) [
      | inl early ↦ absurd (cc (early, runs))
      | inr is ↦ is
    ]
