-- Both clauses are the theorem over whole runs.
use Rattle.machine_moves.proofs.Runs.{run_moves, run_numbered}
use Rattle.machine_moves.proofs.steps_are_moves.Goals as goal

pub returns-clause-moves : goal.returns-clause-moves
returns-clause-moves c = run_moves

pub returns-clause-numbered : goal.returns-clause-numbered
returns-clause-numbered c = run_numbered
