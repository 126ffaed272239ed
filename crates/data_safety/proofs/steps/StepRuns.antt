-- Over whole runs: each step is a sequence of moves of the run.
use Rattle.std.specs.Prelude.{◌≡◌, List, [], ◌∷◌, All}
use Rattle.std.proofs.Common.{refl, ◌∙◌}
use Rattle.std.proofs.lemmas.List.Elements.{All-head, All-tail}
use Rattle.zeus_base.specs.Limits.{KeepsLimits}
use Rattle.zeus_base.specs.declared.config.Config.{Config}
use Rattle.zeus_base.specs.declared.step.Step.{Step}
use Rattle.zeus_txn.specs.declared.tx.TxDecl.{TxDecl}
use Rattle.zeus_model.specs.World.{World, start, stepped, run}
use Rattle.machine_moves.specs.Fits.{StepFits}
use Rattle.machine_moves.proofs.Steps.{IsUsual}
use Rattle.machine_moves.proofs.Start.{start_usual, start-config}
use Rattle.machine_moves.proofs.Runs.{fitting_step, usual_after, reached_usual}
use Rattle.data_safety.specs.RunState.{RunState, run_state}
use Rattle.data_safety.specs.RunMoves.{RunMove, RunMoves, plain, stutters, begins, reads, refuses, commits_tx, passes_own_tx, passes_kept_tx, ended, onward}
use Rattle.data_safety.proofs.steps.StepMoves.{step_is_run_moves}

-- ---- the transactions stay

-- a move of a run leaves the declared transactions
pub move_txs : (old new : RunState) → RunMove old new → new.txs ≡ old.txs
move_txs old new (plain move is txs book) = txs
move_txs old new (stutters same txs book steps) = txs
move_txs old new (begins n s id c named tx at in_slot within fresh free ch txs book) = txs
move_txs old new (reads n s c is reader none ch txs book) = txs
move_txs old new (refuses n s c is reader ch txs book) = txs
move_txs old new (commits_tx n s c within is writer none ch txs book) = txs
move_txs old new (passes_own_tx n s some passes ch txs book) = txs
move_txs old new (passes_kept_tx n s out other some passes ch txs book) = txs

-- moves of a run leave the declared transactions
pub moves_txs : (old new : RunState) → RunMoves old new → new.txs ≡ old.txs
moves_txs old new (ended _) = refl
moves_txs old new (onward _ mid _ move moves) = moves_txs mid new moves ∙ move_txs old mid move

-- a step that fits the configuration and the transactions of the world
fitting_run : (c : Config) (txs : List TxDecl) (w : World) (s : Step) → w.config ≡ c → w.txs ≡ txs → IsUsual w → StepFits c txs s → RunMoves (run_state w) (run_state (stepped w s))
fitting_run c txs w s config same u fits = step_is_run_moves w s u (rw (config, same) fits)

run_txs : (c : Config) (txs : List TxDecl) (steps : List Step) (w : World) → w.config ≡ c → w.txs ≡ txs → IsUsual w → All (StepFits c txs) steps → (run w steps).txs ≡ txs
unfolding run
run_txs c txs [] w config same u fits = same
run_txs c txs (s ∷ ss) w config same u fits =
    let first = All-head (StepFits c txs) s ss fits in
    let step = fitting_step c txs w s config u first in
    run_txs c txs ss (stepped w s) (step.config ∙ config) (moves_txs (run_state w) (run_state (stepped w s)) (fitting_run c txs w s config same u first) ∙ same) (usual_after w (stepped w s) u step) (All-tail (StepFits c txs) s ss fits)

-- the start of a run has the run's transactions
pub start-txs : (c : Config) (txs : List TxDecl) → (start c txs).txs ≡ txs
unfolding start
start-txs c txs = refl

-- each step that fits, after steps that fit, is a sequence of moves of the run
pub steps_are_run_moves : (c : Config) (txs : List TxDecl) (steps : List Step) (s : Step) → KeepsLimits c → All (StepFits c txs) steps → StepFits c txs s → RunMoves (run_state (run (start c txs) steps)) (run_state (stepped (run (start c txs) steps) s))
steps_are_run_moves c txs steps s keeps before fits =
    let reached = reached_usual c txs steps keeps before in
    fitting_run c txs (run (start c txs) steps) s reached.1 (run_txs c txs steps (start c txs) (start-config c txs) (start-txs c txs) (start_usual c txs keeps) before) reached.0 fits
