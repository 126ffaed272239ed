-- What becomes of an acknowledgement, and what a node decides, by the gathers alone.
use Rattle.std.specs.Prelude.{ℕ, ◌≡◌, List, Option, Some, None, if◌then◌else◌}
use Rattle.zeus_base.specs.declared.order.Stamp.{Stamp}
use Rattle.zeus_packet.specs.declared.place.Proposal.{Proposal}
use Rattle.zeus_packet.specs.declared.write.Content.{Content}
use Rattle.zeus_model.specs.declared.answer.Outcome.{Outcome}
use Rattle.zeus_model.specs.declared.answer.Outcome.TheVariants.{Taken, Again as AgainLetter, Older as OlderLetter}
use Rattle.zeus_model.specs.declared.state.Gather.{Gather}
use Rattle.zeus_model.specs.Ownership.{gather_for, greater_gather, is_decidable, is_noted, noted}
use Rattle.zeus_model.specs.State.{Node}
use Rattle.arbitration.specs.declared.gathers.Ack.{Ack}
use Rattle.arbitration.specs.declared.gathers.Ack.TheVariants.{New, Again, Older}
use Rattle.arbitration.specs.declared.gathers.Decision.{Decision}

-- a node that has these gathers, members and directory
pub record IsNodeWith (n : Node) (gs : List (Option Gather)) (ms ds : List ℕ) : Type 0 where
  pub gathers : n.gathers ≡ gs
  pub members : n.members ≡ ms
  pub directory : n.directory ≡ ds

-- what becomes of an acknowledgement, as the answer to the letter that brings it
unfoldable pub outcome_of : Ack → Outcome
outcome_of New = Taken
outcome_of Again = AgainLetter
outcome_of (Older stamp) = OlderLetter stamp

-- a gather with a greater stamp stands against an acknowledgement; else it is new where it brings a sender or a content
unfoldable pub ack_by : Gather → ℕ → Option Content → Option Stamp → Ack
ack_by g from content (Some stamp) = Older stamp
ack_by g from content None = if is_noted g from content then Again else New

abbrev pub ack_at : Option Gather → ℕ → Proposal → Option Content → Ack
ack_at g from p content = ack_by (gather_for p g) from content (greater_gather p.stamp g)

-- against a greater gather nothing changes; else the sender and the content are noted
unfoldable pub gathered_by : Option Gather → ℕ → Proposal → Option Content → Option Stamp → Option Gather
gathered_by g from p content (Some stamp) = g
gathered_by g from p content None = Some (noted (gather_for p g) from content)

abbrev pub gathered : Option Gather → ℕ → Proposal → Option Content → Option Gather
gathered g from p content = gathered_by g from p content (greater_gather p.stamp g)

-- a decision is of a proposal and the content that came
unfoldable pub decision_with : Proposal → Option Content → Option Decision
decision_with p None = None
decision_with p (Some c) = Some record { proposal = p; content = c }

-- what a node decides of what it has gathered, if it can
unfoldable pub decision_of : Node → Option Gather → Option Decision
decision_of n None = None
decision_of n (Some g) = if is_decidable n g then decision_with g.proposal g.content else None
