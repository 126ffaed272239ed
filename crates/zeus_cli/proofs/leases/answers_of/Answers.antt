use Rattle.std.proofs.Common.{inr}
use Rattle.zeus_lease.specs.Reading.{script_read}
use Rattle.zeus_cli.specs.Leases.{IsLeaseAnswer, IsNoLeases}
use Rattle.zeus_cli.specs.Runs.{longest}
use Rattle.zeus_cli.proofs.LeasesRead.{leases_faulty}
use Rattle.zeus_cli.proofs.Refusing.{refused}
use Rattle.zeus_cli.proofs.leases.answers_of.Goals as goal

pub returns-in-Err-Fault : goal.returns-in-Err-Fault
returns-in-Err-Fault c =
    let of = leases_faulty c.in-Err-Fault.field-0 c.in-Err-Fault.fault c.args.bytes.now c.in-Err-Fault.field-0-is c.in-Err-Fault.ensures.only c.in-Err-Fault.ensures.read in
    refused script_read IsNoLeases longest c.args.bytes.now c.in-Err-Fault.fault of.1 of.0 c.refuse.result c.refuse.ensures.status c.refuse.ensures.line IsLeaseAnswer
    (λ before after status text h. inr h)
