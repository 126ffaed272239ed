use Rattle.std.proofs.Common.{length}
use Rattle.zeus_base.specs.Tables.{below}
use Rattle.zeus_model.specs.Commit.{streams_of}
use Rattle.zeus_model.specs.Membership.{letters_of, repeat_kept}
use Rattle.tick_rules.proofs.Saying.{StillSends, letters_from}
use Rattle.tick_rules.proofs.entries.repeat_streams.Given as goal

abbrev pub invariant-loop-slot : goal.invariant-loop-slot
invariant-loop-slot l =
    StillSends (letters_of (repeat_kept l.node) (streams_of l.other (below (length l.node.slots))))
    (letters_from (λ s. repeat_kept l.node record { node = l.other; slot = s }) l.slot (length l.node.slots)) l.initial.out l.out
