use Rattle.std.proofs.Common.{length}
use Rattle.zeus_base.specs.Tables.{below}
use Rattle.zeus_model.specs.Membership.{letters_of, repeat_requests}
use Rattle.zeus_model.specs.State.{slot}
use Rattle.tick_rules.proofs.Saying.{StillSends, letters_from}
use Rattle.tick_rules.proofs.timer.repeat_requests.Given as goal

abbrev pub invariant-loop-slot : goal.invariant-loop-slot
invariant-loop-slot l =
    StillSends (letters_of (λ s. repeat_requests l.node (slot l.node s).current) (below (length l.node.slots)))
    (letters_from (λ s. repeat_requests l.node (slot l.node s).current) l.slot (length l.node.slots)) l.initial.out l.out
