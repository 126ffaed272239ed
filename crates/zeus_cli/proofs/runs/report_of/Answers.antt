use Rattle.std.proofs.Common.{false, inr}
use Rattle.script_lang.specs.Reading.{script_read}
use Rattle.zeus_cli.specs.Runs.{IsNoScript, IsRunAnswer, longest}
use Rattle.zeus_cli.proofs.Reading.{script_faulty}
use Rattle.zeus_cli.proofs.Refusing.{refused}
use Rattle.zeus_cli.proofs.runs.report_of.Goals as goal

pub returns-in-Err-Fault : goal.returns-in-Err-Fault
returns-in-Err-Fault c =
    let of = script_faulty c.in-Err-Fault.field-0 c.in-Err-Fault.fault c.args.bytes.now c.in-Err-Fault.field-0-is c.in-Err-Fault.ensures.only c.in-Err-Fault.ensures.fault in
    refused (script_read false) IsNoScript longest c.args.bytes.now c.in-Err-Fault.fault of.1 of.0 c.refuse.result c.refuse.ensures.status c.refuse.ensures.line IsRunAnswer
    (λ before after status text h. inr h)
