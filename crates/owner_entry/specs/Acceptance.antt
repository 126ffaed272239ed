-- What becomes of a proposal that a node is given, where nothing stands against it but a stamp.
use Rattle.std.specs.Prelude.{ℕ, Option, Some, None, if◌then◌else◌}
use Rattle.zeus_base.specs.Order.{is_below}
use Rattle.zeus_base.specs.declared.order.Stamp.{Stamp}
use Rattle.zeus_packet.specs.declared.letter.Cause.{Cause}
use Rattle.zeus_packet.specs.declared.letter.Cause.TheVariants.{Proposed}
use Rattle.zeus_packet.specs.declared.place.Proposal.{Proposal}
use Rattle.zeus_model.specs.declared.answer.Outcome.{Outcome}
use Rattle.zeus_model.specs.declared.answer.Outcome.TheVariants.{Taken, Again, Older as OlderLetter, Settled as SettledLetter}
use Rattle.zeus_model.specs.Act.{Did}
use Rattle.zeus_model.specs.Ownership.{answer_settled, greater_cause, hold_or_refuse}
use Rattle.zeus_model.specs.State.{Node, entry}
use Rattle.owner_entry.specs.declared.entry.Accept.{Accept}
use Rattle.owner_entry.specs.declared.entry.Accept.TheVariants.{Held, HeldBefore, Older, Settled}

-- what becomes of a proposal, as the answer to the letter that brings it
unfoldable pub outcome_of : Accept → Outcome
outcome_of Held = Taken
outcome_of HeldBefore = Again
outcome_of (Older stamp) = OlderLetter stamp
outcome_of (Settled stamp) = SettledLetter stamp

-- a greater proposal's stamp, as a cause
unfoldable pub cause_of : Option Stamp → Option Cause
cause_of None = None
cause_of (Some stamp) = Some (Proposed stamp)

-- a proposal above the settled stamp is held where no greater one is held; the part of an invalidation's rule that
-- reads and sets the entry alone
unfoldable pub on_proposal : Node → ℕ → ℕ → Proposal → Did Outcome
on_proposal n from x p =
    if is_below (entry n x).stamp p.stamp
    then hold_or_refuse n from x p (greater_cause p.stamp (entry n x).proposal)
    else answer_settled n from x
