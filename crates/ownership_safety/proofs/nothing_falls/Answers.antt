use Rattle.ownership_safety.proofs.Reached.{move-grows, run-rises}
use Rattle.ownership_safety.proofs.nothing_falls.Goals as goal

pub returns-clause-one : goal.returns-clause-one
returns-clause-one c = λ old new chain longer ownership move. move-grows old new chain longer ownership move

pub returns-clause-run : goal.returns-clause-run
returns-clause-run c = λ old new chain longer ownership run. run-rises old chain new longer ownership run
