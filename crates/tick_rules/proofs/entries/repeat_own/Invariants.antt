use Rattle.std.proofs.Common.{length}
use Rattle.zeus_base.specs.Tables.{below}
use Rattle.zeus_model.specs.Membership.{letters_of, repeat_own}
use Rattle.tick_rules.proofs.Saying.{StillSends, letters_from}
use Rattle.tick_rules.proofs.entries.repeat_own.Given as goal

abbrev pub invariant-loop-slot : goal.invariant-loop-slot
invariant-loop-slot l = StillSends (letters_of (repeat_own l.node) (below (length l.node.slots))) (letters_from (repeat_own l.node) l.slot (length l.node.slots)) l.initial.out l.out
