use Rattle.node_state.specs.EffectLaws.{adds_nothing}
use Rattle.local_rules.specs.Entries.{entry_letters}
use Rattle.local_rules.proofs.writes.send_newest.Goals as goal

pub returns-in-Some : goal.returns-in-Some
unfolding entry_letters
returns-in-Some c = let e = c.in-Some.ensures in let s = c.send_each.ensures in rw (← e) (rw (c.meet-receivers.ensures, c.members.ensures) at s)

pub returns-in_default : goal.returns-in_default
unfolding entry_letters
returns-in_default c = rw (← c.in_default.ensures) (adds_nothing c.args.out.now c.requires.sent)
