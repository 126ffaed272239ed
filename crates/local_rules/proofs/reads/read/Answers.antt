use Rattle.local_rules.proofs.Reading.{none_fits, read-done, read-missing, read-unready}
use Rattle.local_rules.proofs.reads.read.Goals as goal

pub set_current-requires-clause-fits : goal.set_current-requires-clause-fits
set_current-requires-clause-fits c = none_fits c.args.node.now

pub returns-in-NoCopy : goal.returns-in-NoCopy
returns-in-NoCopy c = λ n h. read-missing n _ _ _ _ h _ _ _ _ _ c.in-NoCopy.is c.read_missing.ensures

pub returns-in-NotValid : goal.returns-in-NotValid
returns-in-NotValid c = λ n h. read-unready n _ _ _ _ h _ _ _ c.in-NotValid.is c.requires.sent

pub returns-in-Read : goal.returns-in-Read
returns-in-Read c = λ n h. read-done n _ _ _ _ h _ _ _ c.in-Read.is c.set_current.ensures c.requires.sent
