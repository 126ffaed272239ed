use Rattle.std.proofs.Common.{refl}
use Rattle.worked_runs.proofs.Machine.{machine}
use Rattle.worked_runs.proofs.commit.full_pipeline.Goals as goal

pub returns-clause-script : goal.returns-clause-script
unfolding machine
returns-clause-script c = refl

pub returns-clause-printed : goal.returns-clause-printed
unfolding machine
returns-clause-printed c = refl
