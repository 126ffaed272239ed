use Rattle.zeus_lease.proofs.FaultLaw.{returned}
use Rattle.zeus_lease.proofs.reader.read_leases.Goals as goal

pub returns-clause-fault : goal.returns-clause-fault
returns-clause-fault c = λ f e. returned c.args.bytes.now c.script_of_bytes.result c.script_of_bytes.ensures f e
