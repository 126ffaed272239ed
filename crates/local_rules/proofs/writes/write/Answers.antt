use Rattle.node_state.specs.EffectLaws.{adds_passes, adds_room}
use Rattle.local_rules.proofs.Writing.{write-asked, write-committed, write-full, write-held, write-worn}
use Rattle.local_rules.proofs.writes.write.Goals as goal

pub pass_own-requires-clause-sent : goal.pass_own-requires-clause-sent
pass_own-requires-clause-sent c = adds_room _ _ _ _ c.send_newest.ensures

pub pass_own-requires-clause-passed : goal.pass_own-requires-clause-passed
pass_own-requires-clause-passed c = rw (adds_passes _ _ _ c.send_newest.ensures) c.requires.passed

pub returns-in-PipeFull : goal.returns-in-PipeFull
returns-in-PipeFull c = λ n h. write-full n _ _ _ _ h _ c.in-PipeFull.is c.requires.sent

pub returns-in-NotOwner : goal.returns-in-NotOwner
returns-in-NotOwner c = λ n h. write-asked n _ _ _ _ h _ _ _ c.in-NotOwner.is c.ask_to_own.ensures

pub returns-in-Held : goal.returns-in-Held
returns-in-Held c = λ n h. write-held n _ _ _ _ h _ _ _ c.in-Held.is c.requires.sent

pub returns-in-WornOut : goal.returns-in-WornOut
returns-in-WornOut c = λ n h. write-worn n _ _ _ _ h _ c.in-WornOut.is c.requires.sent

pub returns-in-Committed : goal.returns-in-Committed
returns-in-Committed c = λ n h. write-committed n _ _ _ _ h _ _ _ _ _ _ c.in-Committed.is c.send_newest.ensures c.pass_own.ensures.acted
