use Rattle.std.proofs.Common.{refl}
use Rattle.worked_runs.proofs.Machine.{machine}
use Rattle.worked_runs.proofs.commit.write_here_read_there.Goals as goal

pub returns-clause-script : goal.returns-clause-script
unfolding machine
returns-clause-script c = refl

pub returns-clause-printed : goal.returns-clause-printed
unfolding machine
returns-clause-printed c = refl
