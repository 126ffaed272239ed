-- Who decides on a placement, and what a proposal makes of one.
use Rattle.std.specs.Prelude.{ℕ, Bool, true, false, ◌&&◌, ◌==◌, List, Option, Some, None, if◌then◌else◌}
use Rattle.zeus_base.specs.Nodes.{has, with_node, without, meet, least, same_nodes}
use Rattle.zeus_base.specs.Order.{same_stamp}
use Rattle.zeus_packet.specs.declared.place.Place.{Place}
use Rattle.zeus_packet.specs.declared.place.Proposal.{Proposal}
use Rattle.zeus_packet.specs.declared.place.Want.{Want}
use Rattle.zeus_packet.specs.declared.place.Want.TheVariants.{Own, Read, Leave}

-- whether two placements are the same
unfoldable pub same_place : Place → Place → Bool
same_place a b = (a.owner == b.owner) && same_nodes a.replicas b.replicas

-- whether two wishes are the same
unfoldable pub same_want : Want → Want → Bool
same_want Own Own = true
same_want Read Read = true
same_want Leave Leave = true
same_want _ _ = false

-- proposals are compared whole
unfoldable pub same_proposal : Proposal → Proposal → Bool
same_proposal p q =
    same_stamp p.stamp q.stamp && (p.requester == q.requester) && same_stamp p.base q.base
    && same_place p.base_place q.base_place && same_want p.want q.want

-- the source of a placement, who can give its content: its owner where that is a member, else its least member replica
unfoldable pub source : Place → List ℕ → Option ℕ
source place members = if has place.owner members then Some place.owner else least (meet place.replicas members)

-- the set with the node, where there is one
unfoldable pub with_optional : Option ℕ → List ℕ → List ℕ
with_optional None ns = ns
with_optional (Some n) ns = with_node n ns

-- the arbiters of a placement, who must all acknowledge a change of it: the member directory nodes and the source
unfoldable pub arbiters : Place → List ℕ → List ℕ → List ℕ
arbiters place members directory = with_optional (source place members) (meet directory members)

-- the placement that a wish makes of another: Own brings the requester in as owner, Read as a replica, and Leave takes it out
unfoldable pub changed_place : Want → ℕ → Place → Place
changed_place Own requester place = record { owner = requester; replicas = with_node requester place.replicas }
changed_place Read requester place = record { owner = place.owner; replicas = with_node requester place.replicas }
changed_place Leave requester place = record { owner = place.owner; replicas = without requester place.replicas }

-- the placement that a proposal makes
unfoldable pub new_place : Proposal → Place
new_place p = changed_place p.want p.requester p.base_place
