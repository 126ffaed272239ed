use Rattle.std.proofs.Common.{inr}
use Rattle.zeus_audit.specs.Inputs.{input_audited}
use Rattle.zeus_cli.specs.Audits.{IsNoAuditInput, longest_audited}
use Rattle.zeus_cli.proofs.Auditing.{audit_longer}
use Rattle.zeus_cli.proofs.Refusing.{refused_size}
use Rattle.zeus_cli.proofs.audits.run_audit.Goals as goal

pub returns-in_ok-refuse_size-in-TooLong-clause-answer : goal.returns-in_ok-refuse_size-in-TooLong-clause-answer
returns-in_ok-refuse_size-in-TooLong-clause-answer g c =
    inr (refused_size input_audited IsNoAuditInput longest_audited _ _ c.in_ok-bytes.field-0 _ _ audit_longer c.in-TooLong.is c.in_ok-bytes.ensures.input c.in_ok-refuse_size-in-TooLong.ensures.status c.in_ok-refuse_size-in-TooLong.ensures.line)
