use Rattle.std.proofs.Common.{◌≡◌, false, Ok, take, drop, arith}
use Rattle.std.proofs.lemmas.Grind.{common_steps}
use Rattle.script_lang.specs.Reading.{script_read}
use Rattle.zeus_audit.specs.Auditing.{audited}
use Rattle.zeus_audit.proofs.InputLaws.{input_read}
use Rattle.zeus_audit.proofs.input.audit_input.Goals as goal

pub audit-requires : goal.audit-requires
audit-requires c = record {
  script = c.in_ok-script.ensures.found.0.script.fits;
  few = grind (arith, common_steps);
}

pub returns-in-Ok : goal.returns-in-Ok
returns-in-Ok c =
    let bytes = c.args.bytes.now in
    let read : script_read false (take c.script_length-end.result bytes) ≡ Ok c.in_ok-script.script = grind (arith, common_steps, c.in_ok-script.ensures.fault) in
    let found : c.in-Ok.verdict ≡ audited c.in_ok-script.script (drop c.script_length-end.result bytes) = grind (arith, common_steps, c.in-Ok.ensures.verdict) in
    input_read bytes c.script_length-end.result c.in_ok-script.script c.in-Ok.verdict (omega arith) c.script_length-end.ensures.length read found
