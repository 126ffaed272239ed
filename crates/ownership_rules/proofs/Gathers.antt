-- What a collector gathers and decides.
use Rattle.std.specs.Prelude.{if◌then◌else◌}
use Rattle.std.proofs.Common.{ℕ, ◌≡◌, ◌<◌, Bool, true, false, List, Option, Some, None, length, refl, ap, ◌∙◌}
use Rattle.zeus_base.specs.TableLaws.{put-nth}
use Rattle.zeus_base.specs.declared.order.Stamp.{Stamp}
use Rattle.zeus_packet.specs.Fits.{proposal_fits}
use Rattle.zeus_packet.specs.declared.place.Proposal.{Proposal}
use Rattle.zeus_packet.specs.declared.write.Content.{Content}
use Rattle.zeus_model.specs.declared.state.Gather.{Gather}
use Rattle.zeus_model.specs.Act.{Act, just}
use Rattle.zeus_model.specs.Ownership.{decide, decide_with, greater_gather, is_decidable, is_noted}
use Rattle.zeus_model.specs.State.{Node, gather, with_gather}
use Rattle.arbitration.specs.declared.gathers.Ack.TheVariants.{New, Again, Older}
use Rattle.arbitration.specs.declared.gathers.Decision.{Decision}
use Rattle.arbitration.specs.Gathering.{ack_by, decision_of, decision_with, gathered, gathered_by}
use Rattle.arbitration.specs.GatheringLaws.{carried_out, decide-carried_out}
use Rattle.node_ranges.specs.Ranges.{FitsGather, limits_of}

ack_where : (b : Bool) (stamp : Stamp) → Older stamp ≡ (if b then Again else New) → ⊥
ack_where true stamp e = cc
ack_where false stamp e = cc

-- an older acknowledgement has a greater gather against it
pub older-greater : (g : Gather) (from : ℕ) (content : Option Content) (o : Option Stamp) (stamp : Stamp) → Older stamp ≡ ack_by g from content o → o ≡ Some stamp
unfolding ack_by
older-greater g from content None stamp e = absurd (ack_where (is_noted g from content) stamp e)
older-greater g from content (Some other) stamp e = cc

-- if an acknowledgement is new, then no greater stamp stood against it
pub new-none : (g : Gather) (from : ℕ) (content : Option Content) (o : Option Stamp) → New ≡ ack_by g from content o → o ≡ None
unfolding ack_by
new-none g from content None e = refl
new-none g from content (Some other) e = absurd cc

-- if an acknowledgement is a repeated one, then no greater stamp stood against it
pub again-none : (g : Gather) (from : ℕ) (content : Option Content) (o : Option Stamp) → Again ≡ ack_by g from content o → o ≡ None
unfolding ack_by
again-none g from content None e = refl
again-none g from content (Some other) e = absurd cc

-- against a greater gather nothing is noted
pub gathered-older : (n : Node) (x from : ℕ) (p : Proposal) (content : Option Content) (stamp : Stamp) → x < length n.gathers → greater_gather p.stamp (gather n x) ≡ Some stamp → with_gather n x (gathered (gather n x) from p content) ≡ n
unfolding gathered_by
gathered-older n x from p content stamp less greater =
    rw greater (ap (λ (gs : List (Option Gather)). let m : Node = record n { gathers = gs } in m) (put-nth None n.gathers x less))

-- ---- decisions

decided-content : (p : Proposal) (content : Option Content) (d : Decision) → Some d ≡ decision_with p content → d.proposal ≡ p
unfolding decision_with
decided-content p None d e = absurd cc
decided-content p (Some c) d e = cc

decided-where : (b : Bool) (p : Proposal) (content : Option Content) (d : Decision) → Some d ≡ (if b then decision_with p content else None) → d.proposal ≡ p
decided-where true p content d e = decided-content p content d e
decided-where false p content d e = absurd cc

-- what is decided was gathered, so it fits
pub decided-fits : (n : Node) (g : Option Gather) (d : Decision) → Some d ≡ decision_of n g → FitsGather (limits_of n) g → proposal_fits (limits_of n) d.proposal ≡ true
unfolding decision_of FitsGather
decided-fits n None d e h = absurd cc
decided-fits n (Some g) d e h = rw (decided-where (is_decidable n g) g.proposal g.content d e) h.0

-- a node decides what it carries out
pub decide-some : (n : Node) (x : ℕ) (d : Decision) → Some d ≡ decision_of n (gather n x) → decide x n ≡ decide_with n x d.proposal d.content
unfolding carried_out
decide-some n x d e = decide-carried_out n x ∙ rw (← e) refl

-- if there is no decision of an object, then deciding it changes nothing
pub decide-none : (n : Node) (x : ℕ) → None ≡ decision_of n (gather n x) → decide x n ≡ Rattle.zeus_model.specs.Act.still n
unfolding carried_out
decide-none n x e = decide-carried_out n x ∙ rw (← e) refl
