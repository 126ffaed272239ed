use Rattle.std.proofs.Common.{length}
use Rattle.zeus_base.specs.Tables.{below}
use Rattle.zeus_model.specs.Membership.{letters_of, repeat_leave}
use Rattle.tick_rules.proofs.Saying.{StillSends, letters_from}
use Rattle.tick_rules.proofs.leaves.repeat_leaves.Given as goal

abbrev pub invariant-loop-obj : goal.invariant-loop-obj
invariant-loop-obj l = StillSends (letters_of (repeat_leave l.node) (below (length l.node.entries))) (letters_from (repeat_leave l.node) l.obj (length l.node.entries)) l.initial.out l.out
