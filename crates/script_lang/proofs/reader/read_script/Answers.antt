use Rattle.script_lang.proofs.faults.FaultFirst.{returned}
use Rattle.script_lang.proofs.reader.read_script.Goals as goal

pub returns-clause-first : goal.returns-clause-first
returns-clause-first c = λ f e. (returned c.args.live c.args.bytes.now c.script_of_bytes.result c.script_of_bytes.ensures f e).first

pub returns-clause-kind : goal.returns-clause-kind
returns-clause-kind c = λ f e. (returned c.args.live c.args.bytes.now c.script_of_bytes.result c.script_of_bytes.ensures f e).kind

pub returns-clause-size : goal.returns-clause-size
returns-clause-size c = λ f e. (returned c.args.live c.args.bytes.now c.script_of_bytes.result c.script_of_bytes.ensures f e).size

pub returns-clause-word : goal.returns-clause-word
returns-clause-word c = λ f e. (returned c.args.live c.args.bytes.now c.script_of_bytes.result c.script_of_bytes.ensures f e).word
