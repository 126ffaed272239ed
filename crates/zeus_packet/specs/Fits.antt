-- Which letters keep the ranges of a configuration's limits.
use Rattle.std.specs.Prelude.{ℕ, Bool, true, not, ◌&&◌, ◌==◌, nat_lt, nat_le, List, [], ◌∷◌, length, Option, Some, None}
use Rattle.std.specs.List.{list_all, list_any}
use Rattle.zeus_base.specs.Nodes.{has}
use Rattle.zeus_base.specs.declared.config.Limits.{Limits}
use Rattle.zeus_base.specs.declared.order.Stamp.{Stamp}
use Rattle.zeus_base.specs.declared.order.Stream.{Stream}
use Rattle.zeus_base.specs.declared.value.Value.{Value}
use Rattle.zeus_base.specs.declared.value.Value.TheVariants.{Num, Text}
use Rattle.zeus_packet.specs.declared.letter.Body.{Body}
use Rattle.zeus_packet.specs.declared.letter.Body.TheVariants.{RInv, RAck, RVal, OReq, OInv, OAck, ONack, OVal, Recovered}
use Rattle.zeus_packet.specs.declared.letter.Cause.{Cause}
use Rattle.zeus_packet.specs.declared.letter.Cause.TheVariants.{OwnStream, Window, NotDirectory, Proposed, Owns, HasCopy, NotReader, NoSource, Degree, IsSource, WornOut, NoCopy, Held, NotValid, Kept, NotArbiter, NotCollector, OwnPlace}
use Rattle.zeus_packet.specs.declared.letter.Letter.{Letter}
use Rattle.zeus_packet.specs.declared.letter.RInv.{RInv as Inv}
use Rattle.zeus_packet.specs.declared.place.Place.{Place}
use Rattle.zeus_packet.specs.declared.place.Proposal.{Proposal}
use Rattle.zeus_packet.specs.declared.place.Want.{Want}
use Rattle.zeus_packet.specs.declared.place.Want.TheVariants.{Own, Read, Leave}
use Rattle.zeus_packet.specs.declared.write.Content.{Content}
use Rattle.zeus_packet.specs.declared.write.Write.{Write}

-- a set of nodes holds only nodes of the limits
unfoldable pub nodes_fit : Limits → List ℕ → Bool
nodes_fit limits ns = list_all (λ n. nat_lt n limits.nodes) ns

-- a stream has a node and a slot of the limits
unfoldable pub stream_fits : Limits → Stream → Bool
stream_fits limits s = nat_lt s.node limits.nodes && nat_lt s.slot limits.slots

-- the driver of a stamp is a node of the limits
unfoldable pub stamp_fits : Limits → Stamp → Bool
stamp_fits limits s = nat_lt s.driver limits.nodes

-- an object is below the number of objects
unfoldable pub object_fits : Limits → ℕ → Bool
object_fits limits x = nat_lt x limits.objects

-- the replicas of a placement contain its owner
unfoldable pub place_fits : Limits → Place → Bool
place_fits limits place = nat_lt place.owner limits.nodes && nodes_fit limits place.replicas && has place.owner place.replicas

-- only a replica that is not the owner may leave
unfoldable pub want_fits : Want → ℕ → Place → Bool
want_fits Own requester base = true
want_fits Read requester base = true
want_fits Leave requester base = not (base.owner == requester) && has requester base.replicas

-- the stamps, the requester, the base place and the wish of a proposal fit
unfoldable pub proposal_fits : Limits → Proposal → Bool
proposal_fits limits p =
    stamp_fits limits p.stamp && nat_lt p.requester limits.nodes && stamp_fits limits p.base
    && place_fits limits p.base_place && want_fits p.want p.requester p.base_place

-- version 1 has numbers alone
unfoldable pub value_fits : Limits → Value → Bool
value_fits limits (Num n) = true
value_fits limits (Text t) = limits.version == 2

-- a write has an object and a value of the limits
unfoldable pub write_fits : Limits → Write → Bool
write_fits limits w = object_fits limits w.obj && value_fits limits w.value

-- no object stands twice in the writes
unfoldable pub are_once : List Write → Bool
are_once [] = true
are_once (w ∷ ws) = not (list_any (λ v. v.obj == w.obj) ws) && are_once ws

-- there are 1 to 8 writes
unfoldable pub writes_fit : Limits → List Write → Bool
writes_fit limits ws = nat_le 1 (length ws) && nat_le (length ws) 8 && list_all (write_fits limits) ws && are_once ws

-- the number of an entry is below the last number of 32 bits, and what has passed is not above it
unfoldable pub inv_fits : Limits → Inv → Bool
inv_fits limits r =
    stream_fits limits r.stream && nat_lt r.number 4294967295 && nat_le r.done r.number && nodes_fit limits r.followers
    && writes_fit limits r.writes

-- if a content is sent along, then its value fits
unfoldable pub content_fits : Limits → Option Content → Bool
content_fits limits None = true
content_fits limits (Some c) = value_fits limits c.value

-- a cause that names a stamp or a slot names one of the limits
unfoldable pub cause_fits : Limits → Cause → Bool
cause_fits limits OwnStream = true
cause_fits limits Window = true
cause_fits limits NotDirectory = true
cause_fits limits (Proposed s) = stamp_fits limits s
cause_fits limits Owns = true
cause_fits limits HasCopy = true
cause_fits limits NotReader = true
cause_fits limits NoSource = true
cause_fits limits Degree = true
cause_fits limits IsSource = true
cause_fits limits WornOut = true
cause_fits limits NoCopy = true
cause_fits limits (Held s) = nat_lt s limits.slots
cause_fits limits (NotValid s) = true
cause_fits limits (Kept s) = nat_lt s limits.slots
cause_fits limits NotArbiter = true
cause_fits limits NotCollector = true
cause_fits limits OwnPlace = true

-- each field of a letter's body keeps its range
unfoldable pub body_fits : Limits → Body → Bool
body_fits limits (RInv r) = inv_fits limits r
body_fits limits (RAck s number) = stream_fits limits s
body_fits limits (RVal s done) = stream_fits limits s
body_fits limits (OReq x want) = object_fits limits x
body_fits limits (OInv x p) = object_fits limits x && proposal_fits limits p
body_fits limits (OAck x p content) = object_fits limits x && proposal_fits limits p && content_fits limits content
body_fits limits (ONack x stamp cause) = object_fits limits x && stamp_fits limits stamp && cause_fits limits cause
body_fits limits (OVal x stamp place) = object_fits limits x && stamp_fits limits stamp && place_fits limits place
body_fits limits Recovered = true

-- a letter fits the limits where its nodes, its epoch and each of its fields keep their ranges
unfoldable pub fits : Letter → Limits → Bool
fits letter limits =
    nat_lt letter.from limits.nodes && nat_lt letter.to limits.nodes && nat_le 1 letter.epoch && body_fits limits letter.body
