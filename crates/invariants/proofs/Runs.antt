-- Over whole runs: every object is in order and every stream replicated, whatever the steps.
use Rattle.std.specs.Prelude.{ℕ, ◌≡◌, ◌<◌, List, [], ◌∷◌, length, All}
use Rattle.std.proofs.Common.{◌∙◌}
use Rattle.std.proofs.lemmas.List.Elements.{All-head, All-tail}
use Rattle.zeus_base.specs.Limits.{KeepsLimits}
use Rattle.zeus_base.specs.declared.config.Config.{Config}
use Rattle.zeus_base.specs.declared.order.Stream.{Stream}
use Rattle.zeus_base.specs.declared.step.Step.{Step}
use Rattle.zeus_txn.specs.declared.tx.TxDecl.{TxDecl}
use Rattle.zeus_model.specs.World.{World, start, stepped, run}
use Rattle.machine_moves.specs.Fits.{StepFits}
use Rattle.machine_moves.specs.SystemState.{system}
use Rattle.machine_moves.proofs.Runs.{usual_after}
use Rattle.machine_moves.proofs.Start.{start_usual, start-config}
use Rattle.machine_moves.proofs.Steps.{IsStep, IsUsual, step_is_moves}
use Rattle.invariants.specs.Streams.{stream_state}
use Rattle.invariants.specs.Objects.{object}
use Rattle.invariants.proofs.StreamKeeps.{IsKept, moves-replicate}
use Rattle.invariants.proofs.ObjectKeeps.{IsInOrder, moves-order}
use Rattle.invariants.proofs.Start.{start_object, start_stream}

-- what is kept by each sequence of moves is kept by each run
run_keeps : (c : Config) (txs : List TxDecl) (P : World → Type 0)
    → ((w : World) (s : Step) → w.config ≡ c → IsUsual w → StepFits c txs s → P w → P (stepped w s))
    → (steps : List Step) (w : World) → w.config ≡ c → IsUsual w → All (StepFits c txs) steps → P w → P (run w steps)
unfolding run
run_keeps c txs P keeps [] w is u fits p = p
run_keeps c txs P keeps (s ∷ ss) w is u fits p =
    let fit : StepFits c txs s = All-head (StepFits c txs) s ss fits in
    let step : IsStep w (stepped w s) = step_is_moves w s txs u (rw is fit) in
    run_keeps c txs P keeps ss (stepped w s) (step.config ∙ is) (usual_after w (stepped w s) u step) (All-tail (StepFits c txs) s ss fits) (keeps w s is u fit p)

-- the decided placements of an object are one chain, in every run
pub run_ownership : (c : Config) (txs : List TxDecl) (steps : List Step) (x : ℕ) → KeepsLimits c → All (StepFits c txs) steps → x < length c.objects
    → IsInOrder (object (system (run (start c txs) steps)) x)
run_ownership c txs steps x keeps fits within =
    run_keeps c txs (λ (w : World). IsInOrder (object (system w) x))
    (λ w s is u fit before. let step : IsStep w (stepped w s) = step_is_moves w s txs u (rw is fit) in moves-order (system w) (system (stepped w s)) x u.steady before step.moves)
    steps (start c txs) (start-config c txs) (start_usual c txs keeps) fits (start_object c txs x keeps within)

-- the entries of a stream pass in order and are kept by all that follow them, in every run
pub run_replication : (c : Config) (txs : List TxDecl) (steps : List Step) (t : Stream) → KeepsLimits c → All (StepFits c txs) steps
    → IsKept (stream_state (system (run (start c txs) steps)) t)
run_replication c txs steps t keeps fits =
    run_keeps c txs (λ (w : World). IsKept (stream_state (system w) t))
    (λ w s is u fit before. let step : IsStep w (stepped w s) = step_is_moves w s txs u (rw is fit) in moves-replicate (system w) (system (stepped w s)) t u.steady before step.moves)
    steps (start c txs) (start-config c txs) (start_usual c txs keeps) fits (start_stream c txs t)
