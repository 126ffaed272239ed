-- The node's rules of an acknowledgement and of a decision come down to what is said of the gathers.
use Rattle.std.specs.Prelude.{ℕ, ◌≡◌, Bool, true, false, Option, Some, None, if◌then◌else◌, refl}
use Rattle.zeus_base.specs.declared.order.Stamp.{Stamp}
use Rattle.zeus_packet.specs.declared.place.Proposal.{Proposal}
use Rattle.zeus_packet.specs.declared.write.Content.{Content}
use Rattle.zeus_model.specs.declared.answer.Outcome.TheVariants.{Taken, Again}
use Rattle.zeus_model.specs.declared.state.Gather.{Gather}
use Rattle.zeus_model.specs.Act.{Act, still, just, did_then}
use Rattle.zeus_model.specs.Ownership.{decide, decide_gathered, decide_on, decide_with, gather_for, gather_or_older, greater_gather, is_decidable, is_noted, take_ack}
use Rattle.zeus_model.specs.State.{Node, gather, with_gather}
use Rattle.arbitration.specs.declared.gathers.Decision.{Decision}
use Rattle.arbitration.specs.Gathering.{ack_at, ack_by, decision_of, decision_with, gathered, gathered_by, outcome_of}

-- against a greater gather the acknowledgement is older, and the node stays as it is
pub gather_or_older-greater : (n : Node) (from x : ℕ) (p : Proposal) (content : Option Content) (stamp : Stamp) → greater_gather p.stamp (gather n x) ≡ Some stamp → gather_or_older n from x p content (greater_gather p.stamp (gather n x)) ≡ just n (outcome_of (ack_at (gather n x) from p content))
unfolding gather_or_older ack_by outcome_of
gather_or_older-greater n from x p content stamp greater = rw greater refl

noted_answer : (b : Bool) → (if b then Again else Taken) ≡ outcome_of (if b then Rattle.arbitration.specs.declared.gathers.Ack.TheVariants.Again else Rattle.arbitration.specs.declared.gathers.Ack.TheVariants.New)
unfolding outcome_of
noted_answer true = refl
noted_answer false = refl

-- else it is gathered, and the node decides if it can
pub gather_or_older-gathered : (n : Node) (from x : ℕ) (p : Proposal) (content : Option Content) → greater_gather p.stamp (gather n x) ≡ None → gather_or_older n from x p content (greater_gather p.stamp (gather n x)) ≡ did_then (just (with_gather n x (gathered (gather n x) from p content)) (outcome_of (ack_at (gather n x) from p content))) (decide x)
unfolding gather_or_older take_ack ack_by gathered_by
gather_or_older-gathered n from x p content none =
    rw (none, noted_answer (is_noted (gather_for p (gather n x)) from content)) refl

-- a decision is carried out
unfoldable pub carried_out : Node → ℕ → Option Decision → Act
carried_out n x None = still n
carried_out n x (Some d) = decide_with n x d.proposal d.content

carried_out-content : (n : Node) (x : ℕ) (p : Proposal) (content : Option Content) → decide_on n x p content ≡ carried_out n x (decision_with p content)
unfolding decide_on carried_out decision_with
carried_out-content n x p None = refl
carried_out-content n x p (Some c) = refl

carried_out-where : (n : Node) (x : ℕ) (p : Proposal) (content : Option Content) (b : Bool) → (if b then decide_on n x p content else still n) ≡ carried_out n x (if b then decision_with p content else None)
unfolding carried_out
carried_out-where n x p content true = carried_out-content n x p content
carried_out-where n x p content false = refl

carried_out-gathered : (n : Node) (x : ℕ) (g : Option Gather) → decide_gathered n x g ≡ carried_out n x (decision_of n g)
unfolding decide_gathered carried_out decision_of
carried_out-gathered n x None = refl
carried_out-gathered n x (Some g) = carried_out-where n x g.proposal g.content (is_decidable n g)

-- what a node decides is just what it carries out
pub decide-carried_out : (n : Node) (x : ℕ) → decide x n ≡ carried_out n x (decision_of n (gather n x))
decide-carried_out n x = carried_out-gathered n x (gather n x)
