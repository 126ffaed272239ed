use Rattle.std.proofs.Common.{false, inr}
use Rattle.script_lang.specs.Reading.{script_read}
use Rattle.zeus_cli.specs.Runs.{IsNoScript, longest}
use Rattle.zeus_cli.proofs.Reading.{script_longer}
use Rattle.zeus_cli.proofs.Refusing.{refused_size}
use Rattle.zeus_cli.proofs.runs.run_script.Goals as goal

pub returns-in_ok-refuse_size-in-TooLong-clause-answer : goal.returns-in_ok-refuse_size-in-TooLong-clause-answer
returns-in_ok-refuse_size-in-TooLong-clause-answer g c =
    inr (refused_size (script_read false) IsNoScript longest _ _ c.in_ok-bytes.field-0 _ _ script_longer c.in-TooLong.is c.in_ok-bytes.ensures.input c.in_ok-refuse_size-in-TooLong.ensures.status c.in_ok-refuse_size-in-TooLong.ensures.line)
