use Rattle.std.proofs.Common.{inr}
use Rattle.zeus_lease.specs.Reading.{script_read}
use Rattle.zeus_cli.specs.Leases.{IsNoLeases}
use Rattle.zeus_cli.specs.Runs.{longest}
use Rattle.zeus_cli.proofs.LeasesRead.{leases_longer}
use Rattle.zeus_cli.proofs.Refusing.{refused_size}
use Rattle.zeus_cli.proofs.leases.run_leases.Goals as goal

pub returns-in_ok-refuse_size-in-TooLong-clause-answer : goal.returns-in_ok-refuse_size-in-TooLong-clause-answer
returns-in_ok-refuse_size-in-TooLong-clause-answer g c =
    inr (refused_size script_read IsNoLeases longest _ _ c.in_ok-bytes.field-0 _ _ leases_longer c.in-TooLong.is c.in_ok-bytes.ensures.input c.in_ok-refuse_size-in-TooLong.ensures.status c.in_ok-refuse_size-in-TooLong.ensures.line)
