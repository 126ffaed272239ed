use Rattle.std.proofs.Common.{length}
use Rattle.zeus_base.specs.Tables.{below}
use Rattle.zeus_model.specs.Membership.{letters_of, repeat_done}
use Rattle.tick_rules.proofs.Saying.{StillSends, letters_from}
use Rattle.tick_rules.proofs.timer.repeat_done.Given as goal

abbrev pub invariant-loop-slot : goal.invariant-loop-slot
invariant-loop-slot l = StillSends (letters_of (repeat_done l.node) (below (length l.node.slots))) (letters_from (repeat_done l.node) l.slot (length l.node.slots)) l.initial.out l.out
