-- Over whole runs: each step is a sequence of moves, and the live nodes know their numbers.
use Rattle.std.specs.Prelude.{◌≡◌, List, [], ◌∷◌, All}
use Rattle.std.proofs.Common.{◌∙◌}
use Rattle.std.proofs.lemmas.List.Elements.{All-head, All-tail}
use Rattle.zeus_base.specs.Limits.{KeepsLimits}
use Rattle.zeus_base.specs.declared.config.Config.{Config}
use Rattle.zeus_base.specs.declared.step.Step.{Step}
use Rattle.zeus_txn.specs.declared.tx.TxDecl.{TxDecl}
use Rattle.zeus_model.specs.World.{World, start, stepped, run}
use Rattle.machine_moves.specs.SystemState.{system, IsNumbered}
use Rattle.machine_moves.specs.Move.{Moves}
use Rattle.machine_moves.specs.Fits.{StepFits}
use Rattle.machine_moves.proofs.Steady.{IsNumbered-steady, moves_keep}
use Rattle.machine_moves.proofs.Steps.{IsStep, IsUsual, step_is_moves}
use Rattle.machine_moves.proofs.Start.{start_usual, start-config}

-- a step that fits the configuration of the world
pub fitting_step : (c : Config) (txs : List TxDecl) (w : World) (s : Step) → w.config ≡ c → IsUsual w → StepFits c txs s → IsStep w (stepped w s)
fitting_step c txs w s is u fits = step_is_moves w s txs u (rw is fits)

-- if a usual world takes a step that is a sequence of moves, then the world after it is usual
pub usual_after : (w after : World) → IsUsual w → IsStep w after → IsUsual after
usual_after w after u step =
    record { steady = moves_keep (system w) (system after) step.moves u.steady; ends = step.ends; few = rw (step.config) u.few }

-- if a usual world runs steps that fit its configuration, then it stays usual and keeps the configuration
pub run_usual : (c : Config) (txs : List TxDecl) (steps : List Step) (w : World) → w.config ≡ c → IsUsual w → All (StepFits c txs) steps → IsUsual (run w steps) × ((run w steps).config ≡ c)
unfolding run
run_usual c txs [] w is u fits = (u, is)
run_usual c txs (s ∷ ss) w is u fits =
    let step = fitting_step c txs w s is u (All-head (StepFits c txs) s ss fits) in
    run_usual c txs ss (stepped w s) (step.config ∙ is) (usual_after w (stepped w s) u step) (All-tail (StepFits c txs) s ss fits)

-- if a configuration keeps its limits, then each run from its start by steps that fit ends in a usual world
pub reached_usual : (c : Config) (txs : List TxDecl) (steps : List Step) → KeepsLimits c → All (StepFits c txs) steps → IsUsual (run (start c txs) steps) × ((run (start c txs) steps).config ≡ c)
reached_usual c txs steps keeps fits = run_usual c txs steps (start c txs) (start-config c txs) (start_usual c txs keeps) fits

-- each step that fits, after steps that fit, is a sequence of moves
pub run_moves : (c : Config) (txs : List TxDecl) (steps : List Step) (s : Step) → KeepsLimits c → All (StepFits c txs) steps → StepFits c txs s → Moves (system (run (start c txs) steps)) (system (stepped (run (start c txs) steps) s))
run_moves c txs steps s keeps before fits =
    let reached = reached_usual c txs steps keeps before in
    let step = fitting_step c txs (run (start c txs) steps) s reached.1 reached.0 fits in
    step.moves

-- the live nodes of each run know their numbers and views
pub run_numbered : (c : Config) (txs : List TxDecl) (steps : List Step) → KeepsLimits c → All (StepFits c txs) steps → IsNumbered (system (run (start c txs) steps))
run_numbered c txs steps keeps before =
    let reached = (reached_usual c txs steps keeps before).0 in
    IsNumbered-steady (system (run (start c txs) steps)) reached.steady
