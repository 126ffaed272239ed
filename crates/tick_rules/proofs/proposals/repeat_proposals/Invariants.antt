use Rattle.std.proofs.Common.{length}
use Rattle.zeus_model.specs.Membership.{repeat_proposal, repeat_proposals}
use Rattle.zeus_model.specs.State.{entry}
use Rattle.tick_rules.proofs.Saying.{StillSends, letters_from}
use Rattle.tick_rules.proofs.proposals.repeat_proposals.Given as goal

abbrev pub invariant-loop-place : goal.invariant-loop-place
invariant-loop-place l = StillSends (repeat_proposals l.node) (letters_from (λ x. repeat_proposal l.node x (entry l.node x).proposal) l.place (length l.node.entries)) l.initial.out l.out
