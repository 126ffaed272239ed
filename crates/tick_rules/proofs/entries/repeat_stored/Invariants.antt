use Rattle.std.proofs.Common.{length}
use Rattle.zeus_base.specs.Tables.{below}
use Rattle.zeus_model.specs.Commit.{outside}
use Rattle.zeus_model.specs.Membership.{letters_of, repeat_kept}
use Rattle.tick_rules.proofs.Saying.{StillSends, letters_from, of_stranger}
use Rattle.tick_rules.proofs.entries.repeat_stored.Given as goal

abbrev pub invariant-loop-other : goal.invariant-loop-other
invariant-loop-other l =
    StillSends (letters_of (repeat_kept l.node) (outside l.node))
    (letters_from (of_stranger (repeat_kept l.node) l.node.members (below (length l.node.slots))) l.other (length l.node.logs)) l.initial.out l.out
