use Rattle.std.proofs.Common.{inl, inr}
use Rattle.zeus_audit.specs.Inputs.{input_audited}
use Rattle.zeus_cli.specs.Audits.{IsAuditAnswer, IsNoAuditInput, longest_audited}
use Rattle.zeus_cli.proofs.Auditing.{audit_faulty, audit_told}
use Rattle.zeus_cli.proofs.Refusing.{refused}
use Rattle.zeus_cli.proofs.audits.verdict_of.Goals as goal

pub returns-in-Err-Fault : goal.returns-in-Err-Fault
returns-in-Err-Fault c =
    let of = audit_faulty c.in-Err-Fault.field-0 c.in-Err-Fault.fault c.args.bytes.now c.in-Err-Fault.field-0-is c.in-Err-Fault.ensures in
    refused input_audited IsNoAuditInput longest_audited c.args.bytes.now c.in-Err-Fault.fault of.1 of.0 c.refuse.result c.refuse.ensures.status c.refuse.ensures.line IsAuditAnswer
    (λ before after status text h. inr h)

pub returns-in_ok-verdict_line-in-Ok : goal.returns-in_ok-verdict_line-in-Ok
returns-in_ok-verdict_line-in-Ok c = λ before after all.
    inl (audit_told c.args.bytes.now c.in-Ok.verdict before after _ _ c.in-Ok.ensures c.a_sound_report_is_a_serial_history.ensures all c.verdict_status.ensures c.in_ok-verdict_line-in-Ok.ensures)
