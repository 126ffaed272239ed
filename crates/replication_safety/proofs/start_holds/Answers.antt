-- What holds of every stream holds at its start, when no entry has passed.
use Rattle.replication_safety.proofs.Start.{start-Replication}
use Rattle.replication_safety.proofs.start_holds.Goals as goal

pub returns : goal.returns
returns c = record { start = start-Replication }
