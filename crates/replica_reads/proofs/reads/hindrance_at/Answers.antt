use Rattle.replica_reads.proofs.Hindering.{hindered-missing, hindered-valid, hindered-unready}
use Rattle.replica_reads.proofs.reads.hindrance_at.Goals as goal

pub returns-in-None : goal.returns-in-None
returns-in-None c = hindered-missing _ _ c.in-None.ensures

pub returns-in-Valid : goal.returns-in-Valid
returns-in-Valid c = hindered-valid _ _ _ c.in-Some.ensures c.in-Valid.is

pub returns-in_default : goal.returns-in_default
returns-in_default c = hindered-unready _ _ _ c.in-Some.ensures c.in_default.not-Valid
