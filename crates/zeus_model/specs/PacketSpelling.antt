-- How a packet is spelled as bytes: field after field, numbers big-endian and of fixed width.
use Rattle.std.specs.Prelude.{ℕ, ◌+◌, ◌==◌, List, [], ◌∷◌, ◌++◌, length, Option, Some, None, if◌then◌else◌}
use Rattle.std.specs.Int.{w16, w32, w64, to_be_bytes}
use Rattle.zeus_base.specs.Bits.{bits_of}
use Rattle.zeus_base.specs.declared.order.Stamp.{Stamp}
use Rattle.zeus_base.specs.declared.order.Stream.{Stream}
use Rattle.zeus_base.specs.declared.value.Value.{Value}
use Rattle.zeus_base.specs.declared.value.Value.TheVariants.{Num, Text}
use Rattle.zeus_packet.specs.declared.letter.Body.{Body}
use Rattle.zeus_packet.specs.declared.letter.Body.TheVariants.{RInv, RAck, RVal, OReq, OInv, OAck, ONack, OVal, Recovered}
use Rattle.zeus_packet.specs.declared.letter.Cause.{Cause}
use Rattle.zeus_packet.specs.declared.letter.Cause.TheVariants.{OwnStream, Window, NotDirectory, Proposed, Owns, HasCopy, NotReader, NoSource, Degree, IsSource, WornOut, NoCopy, Held, NotValid, Kept, NotArbiter, NotCollector, OwnPlace}
use Rattle.zeus_packet.specs.declared.letter.Packet.{Packet}
use Rattle.zeus_packet.specs.declared.letter.RInv.{RInv as Inv}
use Rattle.zeus_packet.specs.declared.letter.State.{State}
use Rattle.zeus_packet.specs.declared.letter.State.TheVariants.{Valid, Invalid, Write as Writing}
use Rattle.zeus_packet.specs.declared.place.Place.{Place}
use Rattle.zeus_packet.specs.declared.place.Proposal.{Proposal}
use Rattle.zeus_packet.specs.declared.place.Want.{Want}
use Rattle.zeus_packet.specs.declared.place.Want.TheVariants.{Own, Read, Leave}
use Rattle.zeus_packet.specs.declared.write.Content.{Content}
use Rattle.zeus_packet.specs.declared.write.Write.{Write}

-- numbers of 16, 32 and 64 bits, the highest byte first
unfoldable pub u16_bytes : ℕ → List ℕ
u16_bytes n = to_be_bytes w16 n

unfoldable pub u32_bytes : ℕ → List ℕ
u32_bytes n = to_be_bytes w32 n

unfoldable pub u64_bytes : ℕ → List ℕ
u64_bytes n = to_be_bytes w64 n

-- a set is one byte with a bit for each node, the lowest for node 0
unfoldable pub set_bytes : List ℕ → List ℕ
set_bytes ns = bits_of ns ∷ []

-- a stream: the node and the slot
unfoldable pub stream_bytes : Stream → List ℕ
stream_bytes s = s.node ∷ s.slot ∷ []

-- a stamp: the version and the driver
unfoldable pub stamp_bytes : Stamp → List ℕ
stamp_bytes s = u64_bytes s.ver ++ s.driver ∷ []

-- a placement: the owner and the replicas
unfoldable pub place_bytes : Place → List ℕ
place_bytes p = p.owner ∷ set_bytes p.replicas

-- a proposal, but for its wish: the stamp, the requester, the stamp and the placement of the base
unfoldable pub proposal_bytes : Proposal → List ℕ
proposal_bytes p = stamp_bytes p.stamp ++ (p.requester ∷ stamp_bytes p.base ++ place_bytes p.base_place)

-- a value: in version 1 the number; in version 2 the byte 0 and the number, or a text's length and its bytes
unfoldable pub value_bytes : ℕ → Value → List ℕ
value_bytes version (Num n) = if version == 2 then 0 ∷ u64_bytes n else u64_bytes n
value_bytes version (Text t) = length t ∷ t

-- a write: the object, its version and its value
unfoldable pub write_bytes : ℕ → Write → List ℕ
write_bytes version w = u16_bytes w.obj ++ (u64_bytes w.ver ++ value_bytes version w.value)

-- writes one after the other
unfoldable pub writes_bytes : ℕ → List Write → List ℕ
writes_bytes version [] = []
writes_bytes version (w ∷ ws) = write_bytes version w ++ writes_bytes version ws

-- the content of a copy: 0 where there is none; else 1, its version and its value
unfoldable pub content_bytes : ℕ → Option Content → List ℕ
content_bytes version None = 0 ∷ []
content_bytes version (Some c) = 1 ∷ u64_bytes c.ver ++ value_bytes version c.value

-- the state of a copy, as one byte
unfoldable pub state_byte : State → ℕ
state_byte Valid = 0
state_byte Invalid = 1
state_byte Writing = 2

-- a cause: its number, and a stamp, a slot or a state where it names one
unfoldable pub cause_bytes : Cause → List ℕ
cause_bytes OwnStream = 0 ∷ []
cause_bytes Window = 1 ∷ []
cause_bytes NotDirectory = 2 ∷ []
cause_bytes (Proposed stamp) = 3 ∷ stamp_bytes stamp
cause_bytes Owns = 4 ∷ []
cause_bytes NoSource = 5 ∷ []
cause_bytes WornOut = 6 ∷ []
cause_bytes NoCopy = 7 ∷ []
cause_bytes (Held slot) = 8 ∷ slot ∷ []
cause_bytes (NotValid state) = 9 ∷ state_byte state ∷ []
cause_bytes (Kept slot) = 10 ∷ slot ∷ []
cause_bytes NotArbiter = 11 ∷ []
cause_bytes NotCollector = 12 ∷ []
cause_bytes OwnPlace = 13 ∷ []
cause_bytes HasCopy = 14 ∷ []
cause_bytes NotReader = 15 ∷ []
cause_bytes Degree = 16 ∷ []
cause_bytes IsSource = 17 ∷ []

-- a wish other than Own has a tag of its own, 16 above that of Own
unfoldable pub wish_tag : ℕ → Want → ℕ
wish_tag tag Own = tag
wish_tag tag Read = tag + 16
wish_tag tag Leave = tag + 16

-- a wish other than Own is one byte behind the object
unfoldable pub wish_bytes : Want → List ℕ
wish_bytes Own = []
wish_bytes Read = 1 ∷ []
wish_bytes Leave = 2 ∷ []

-- an entry: its stream, its number, what has passed, its followers, and its writes behind their count
unfoldable pub inv_bytes : ℕ → Inv → List ℕ
inv_bytes version r =
    stream_bytes r.stream
    ++ (u32_bytes r.number ++ (u32_bytes r.done ++ (set_bytes r.followers ++ (length r.writes ∷ writes_bytes version r.writes))))

-- what a letter says: its tag and its fields
unfoldable pub body_bytes : ℕ → Body → List ℕ
body_bytes version (RInv r) = 1 ∷ inv_bytes version r
body_bytes version (RAck stream number) = 2 ∷ stream_bytes stream ++ u32_bytes number
body_bytes version (RVal stream done) = 3 ∷ stream_bytes stream ++ u32_bytes done
body_bytes version (OReq obj want) = wish_tag 4 want ∷ u16_bytes obj ++ wish_bytes want
body_bytes version (OInv obj p) = wish_tag 5 p.want ∷ u16_bytes obj ++ (wish_bytes p.want ++ proposal_bytes p)
body_bytes version (OAck obj p content) = wish_tag 6 p.want ∷ u16_bytes obj ++ (wish_bytes p.want ++ (proposal_bytes p ++ content_bytes version content))
body_bytes version (ONack obj stamp cause) = 7 ∷ u16_bytes obj ++ (stamp_bytes stamp ++ cause_bytes cause)
body_bytes version (OVal obj stamp place) = 8 ∷ u16_bytes obj ++ (stamp_bytes stamp ++ place_bytes place)
body_bytes version Recovered = 9 ∷ []

-- a packet: the version of the format, the packet's number, its sender and receiver, its epoch, and what it says
unfoldable pub packet_bytes : ℕ → Packet → List ℕ
packet_bytes version p =
    version ∷ u32_bytes p.number
    ++ (p.letter.from ∷ p.letter.to ∷ u32_bytes p.letter.epoch ++ body_bytes version p.letter.body)
