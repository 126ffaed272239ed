-- Reading a packet from the front of bytes, field by field: the first field that is not whole, or out of its range, is the fault.
use Rattle.std.specs.Prelude.{ℕ, zero, suc, Bool, true, false, not, ◌&&◌, ◌≡◌, ◌-◌, ◌==◌, nat_lt, nat_le, List, [], ◌∷◌, ◌++◌, length, take, drop, Option, Some, None, Result, Ok, Err, if◌then◌else◌}
use Rattle.std.specs.Int.{w16, w32, w64, from_be_bytes}
use Rattle.std.specs.List.{list_all, list_any}
use Rattle.zeus_base.specs.Bits.{nodes_of}
use Rattle.zeus_base.specs.Nodes.{has}
use Rattle.zeus_base.specs.declared.config.Limits.{Limits}
use Rattle.zeus_base.specs.declared.order.Stamp.{Stamp}
use Rattle.zeus_base.specs.declared.order.Stream.{Stream}
use Rattle.zeus_base.specs.declared.value.Value.{Value}
use Rattle.zeus_base.specs.declared.value.Value.TheVariants.{Num, Text}
use Rattle.zeus_packet.specs.Fits.{nodes_fit}
use Rattle.zeus_packet.specs.declared.letter.Body.{Body}
use Rattle.zeus_packet.specs.declared.letter.Body.TheVariants.{RInv, RAck, RVal, OReq, OInv, OAck, ONack, OVal, Recovered}
use Rattle.zeus_packet.specs.declared.letter.Cause.{Cause}
use Rattle.zeus_packet.specs.declared.letter.Cause.TheVariants.{OwnStream, Window, NotDirectory, Proposed, Owns, HasCopy, NotReader, NoSource, Degree, IsSource, WornOut, NoCopy, Held, NotValid, Kept, NotArbiter, NotCollector, OwnPlace}
use Rattle.zeus_packet.specs.declared.letter.Packet.{Packet}
use Rattle.zeus_packet.specs.declared.letter.RInv.{RInv as Inv}
use Rattle.zeus_packet.specs.declared.letter.State.{State}
use Rattle.zeus_packet.specs.declared.letter.State.TheVariants.{Valid, Invalid, Write as Writing}
use Rattle.zeus_packet.specs.declared.place.Place.{Place}
use Rattle.zeus_packet.specs.declared.place.Proposal.{Proposal}
use Rattle.zeus_packet.specs.declared.place.Want.{Want}
use Rattle.zeus_packet.specs.declared.place.Want.TheVariants.{Own, Read, Leave}
use Rattle.zeus_packet.specs.declared.write.Content.{Content}
use Rattle.zeus_packet.specs.declared.write.Write.{Write}
use Rattle.zeus_wire.specs.declared.fault.Fault.{Fault}
use Rattle.zeus_wire.specs.declared.fault.Fault.TheVariants.{Short, Tag, Field}
use Rattle.zeus_wire.specs.declared.fault.WireFault.{WireFault}
use Rattle.zeus_wire.specs.declared.fault.WireFault.TheVariants as wire

-- a reader takes a field from the front of the bytes and gives it with the bytes behind it, or the first fault
abbrev pub Reader : Type 0 → Type 0
Reader A = List ℕ → Result (A × List ℕ) Fault

-- what was read goes to the next reader, with the bytes behind it; a fault stays
unfoldable pub and_then : {A B : Type 0} → Result (A × List ℕ) Fault → (A → Reader B) → Result (B × List ℕ) Fault
and_then (Ok x) next = next x.0 x.1
and_then (Err fault) next = Err fault

-- one reader after the other
infixl 10 ◌>>=◌
abbrev pub ◌>>=◌ : {A B : Type 0} → Reader A → (A → Reader B) → Reader B
r >>= next = λ bytes. and_then (r bytes) next

-- no byte is read for this value
abbrev pub gives : {A : Type 0} → A → Reader A
gives x = λ bytes. Ok (x, bytes)

-- a field that does not pass the test is out of its range, at its first byte
abbrev pub checked : {A : Type 0} → (A → Bool) → Reader A → Reader A
checked test r = λ bytes. and_then (r bytes) (λ x rest. if test x then Ok (x, rest) else Err (Field (length bytes)))

-- so many bytes
unfoldable pub bytes_at : ℕ → Reader (List ℕ)
bytes_at n = λ bytes. if nat_lt (length bytes) n then Err Short else Ok (take n bytes, drop n bytes)

-- a byte
unfoldable pub u8_at : Reader ℕ
u8_at [] = Err Short
u8_at (b ∷ rest) = Ok (b, rest)

-- numbers, the highest byte first
unfoldable pub u16_at : Reader ℕ
u16_at = do
  bytes ← bytes_at 2
  gives (from_be_bytes w16 bytes)

-- a number of four bytes
unfoldable pub u32_at : Reader ℕ
u32_at = do
  bytes ← bytes_at 4
  gives (from_be_bytes w32 bytes)

-- a number of eight bytes
unfoldable pub u64_at : Reader ℕ
u64_at = do
  bytes ← bytes_at 8
  gives (from_be_bytes w64 bytes)

-- a node, a slot and an object are below those of the limits
unfoldable pub node_at : Limits → Reader ℕ
node_at limits = checked (λ n. nat_lt n limits.nodes) u8_at

-- a slot is below the number of slots
unfoldable pub slot_at : Limits → Reader ℕ
slot_at limits = checked (λ s. nat_lt s limits.slots) u8_at

-- an object is below the number of objects
unfoldable pub object_at : Limits → Reader ℕ
object_at limits = checked (λ x. nat_lt x limits.objects) u16_at

-- a byte as the set of the nodes whose bits are set
unfoldable pub any_set_at : Reader (List ℕ)
any_set_at = do
  byte ← u8_at
  gives (nodes_of byte)

-- a set holds only nodes of the limits
unfoldable pub set_at : Limits → Reader (List ℕ)
set_at limits = checked (nodes_fit limits) any_set_at

-- a stream: the node and the slot
unfoldable pub stream_at : Limits → Reader Stream
stream_at limits = do
  node ← node_at limits
  slot ← slot_at limits
  gives (record { node = node; slot = slot })

-- a stamp: the version and the driver
unfoldable pub stamp_at : Limits → Reader Stamp
stamp_at limits = do
  ver ← u64_at
  driver ← node_at limits
  gives (record { ver = ver; driver = driver })

-- who leaves, if anyone, is not the owner of the base, and is one of its replicas
unfoldable pub may_own : Option ℕ → ℕ → Bool
may_own None n = true
may_own (Some leaver) n = not (n == leaver)

-- who leaves, if anyone, is in the set
unfoldable pub has_leaver : Option ℕ → List ℕ → Bool
has_leaver None ns = true
has_leaver (Some leaver) ns = has leaver ns

-- a placement: the replicas are nodes of the limits, the owner among them
unfoldable pub place_at : Limits → Option ℕ → Reader Place
place_at limits leaver = do
  owner ← checked (may_own leaver) (node_at limits)
  replicas ← checked (λ ns. has owner ns && has_leaver leaver ns) (set_at limits)
  gives (record { owner = owner; replicas = replicas })

-- who leaves by a proposal
unfoldable pub leaver_of : Want → ℕ → Option ℕ
leaver_of Own requester = None
leaver_of Read requester = None
leaver_of Leave requester = Some requester

-- a proposal of this wish
unfoldable pub proposal_at : Limits → Want → Reader Proposal
proposal_at limits want = do
  stamp ← stamp_at limits
  requester ← node_at limits
  base ← stamp_at limits
  place ← place_at limits (leaver_of want requester)
  gives (record { stamp = stamp; requester = requester; base = base; base_place = place; want = want })

-- the bytes of a text are from 33 to 126
abbrev pub is_printable : ℕ → Bool
is_printable b = nat_le 33 b && nat_le b 126

-- a value that is a number
unfoldable pub num_at : Reader Value
num_at = do
  n ← u64_at
  gives (Num n)

-- a text of so many bytes
unfoldable pub text_at : ℕ → Reader (List ℕ)
text_at len = checked (list_all is_printable) (bytes_at len)

-- a value that is a text
unfoldable pub text_value_at : ℕ → Reader Value
text_value_at len = do
  text ← text_at len
  gives (Text text)

-- behind the byte 0 a number, and behind another length up to 32 a text
unfoldable pub num_or_text_at : ℕ → Reader Value
num_or_text_at len = if len == 0 then num_at else text_value_at len

-- a value of version 2
unfoldable pub tagged_value_at : Reader Value
tagged_value_at = do
  len ← checked (λ len. nat_le len 32) u8_at
  num_or_text_at len

-- in version 1 a value is a number
unfoldable pub value_at : Limits → Reader Value
value_at limits = if limits.version == 2 then tagged_value_at else num_at

-- whether one of the writes is of the object
abbrev pub names : ℕ → List Write → Bool
names obj writes = list_any (λ w. w.obj == obj) writes

-- a write of an object that is not among those before it
unfoldable pub write_at : Limits → List Write → Reader Write
write_at limits before = do
  obj ← checked (λ x. not (names x before)) (object_at limits)
  ver ← u64_at
  value ← value_at limits
  gives (record { obj = obj; ver = ver; value = value })

-- so many writes more
unfoldable pub writes_at : Limits → ℕ → List Write → Reader (List Write)
writes_at limits zero before = gives before
writes_at limits (suc n) before = λ bytes. and_then (write_at limits before bytes) (λ w. writes_at limits n (before ++ w ∷ []))

-- a content
unfoldable pub some_content_at : Limits → Reader (Option Content)
some_content_at limits = do
  ver ← u64_at
  value ← value_at limits
  gives (Some (record { ver = ver; value = value }))

-- what stands behind the flag of a content
unfoldable pub content_if : Limits → ℕ → Reader (Option Content)
content_if limits flag = if flag == 0 then gives None else some_content_at limits

-- 0 for no content, 1 before a content
unfoldable pub content_at : Limits → Reader (Option Content)
content_at limits = do
  flag ← checked (λ flag. nat_le flag 1) u8_at
  content_if limits flag

-- the state of a number
unfoldable pub state_of : ℕ → State
state_of byte = if byte == 0 then Valid else (if byte == 1 then Invalid else Writing)

-- 0, 1 and 2 are valid, invalid and write
unfoldable pub state_at : Reader State
state_at = do
  byte ← checked (λ byte. nat_le byte 2) u8_at
  gives (state_of byte)

-- the causes of one byte alone
unfoldable pub plain_cause : ℕ → Cause
plain_cause byte =
    if byte == 0 then OwnStream
    else (if byte == 1 then Window
    else (if byte == 2 then NotDirectory
    else (if byte == 4 then Owns
    else (if byte == 5 then NoSource
    else (if byte == 6 then WornOut
    else (if byte == 7 then NoCopy
    else (if byte == 11 then NotArbiter
    else (if byte == 12 then NotCollector
    else (if byte == 13 then OwnPlace
    else (if byte == 14 then HasCopy
    else (if byte == 15 then NotReader
    else (if byte == 16 then Degree else IsSource))))))))))))

-- the cause that names a stamp
unfoldable pub proposed_at : Limits → Reader Cause
proposed_at limits = do
  stamp ← stamp_at limits
  gives (Proposed stamp)

-- the cause that names the slot that holds
unfoldable pub held_at : Limits → Reader Cause
held_at limits = do
  slot ← slot_at limits
  gives (Held slot)

-- the cause that names a state
unfoldable pub not_valid_at : Reader Cause
not_valid_at = do
  state ← state_at
  gives (NotValid state)

-- the cause that names the slot that keeps
unfoldable pub kept_at : Limits → Reader Cause
kept_at limits = do
  slot ← slot_at limits
  gives (Kept slot)

-- what stands behind a cause's number
unfoldable pub cause_behind : Limits → ℕ → Reader Cause
cause_behind limits byte =
    if byte == 3 then proposed_at limits
    else (if byte == 8 then held_at limits
    else (if byte == 9 then not_valid_at
    else (if byte == 10 then kept_at limits else gives (plain_cause byte))))

-- causes are numbered up to 17
unfoldable pub cause_at : Limits → Reader Cause
cause_at limits = do
  byte ← checked (λ byte. nat_le byte 17) u8_at
  cause_behind limits byte

-- the wish of a number
unfoldable pub want_of : ℕ → Want
want_of byte = if byte == 1 then Read else Leave

-- the wish of a request, a proposal or an acknowledgement: Own, or the byte 1 for Read or 2 for Leave
unfoldable pub want_at : Bool → Reader Want
want_at false = gives Own
want_at true = do
  byte ← checked (λ byte. nat_le 1 byte && nat_le byte 2) u8_at
  gives (want_of byte)

-- an entry: its number is below the last, what has passed is not above it, and there are 1 to 8 writes
unfoldable pub inv_at : Limits → Reader Inv
inv_at limits = do
  stream ← stream_at limits
  number ← checked (λ n. nat_lt n 4294967295) u32_at
  done ← checked (λ d. nat_le d number) u32_at
  followers ← set_at limits
  count ← checked (λ n. nat_le 1 n && nat_le n 8) u8_at
  writes ← writes_at limits count []
  gives (record { stream = stream; number = number; done = done; followers = followers; writes = writes })

-- an entry sent to a follower
unfoldable pub rinv_at : Limits → Reader Body
rinv_at limits = do
  inv ← inv_at limits
  gives (RInv inv)

-- the acknowledgement of an entry
unfoldable pub rack_at : Limits → Reader Body
rack_at limits = do
  stream ← stream_at limits
  number ← u32_at
  gives (RAck stream number)

-- what of a stream has passed
unfoldable pub rval_at : Limits → Reader Body
rval_at limits = do
  stream ← stream_at limits
  done ← u32_at
  gives (RVal stream done)

-- a request
unfoldable pub oreq_at : Limits → Bool → Reader Body
oreq_at limits has_wish = do
  obj ← object_at limits
  want ← want_at has_wish
  gives (OReq obj want)

-- a proposal that is to be held
unfoldable pub oinv_at : Limits → Bool → Reader Body
oinv_at limits has_wish = do
  obj ← object_at limits
  want ← want_at has_wish
  p ← proposal_at limits want
  gives (OInv obj p)

-- a proposal that is held, with the content of a copy if any
unfoldable pub oack_at : Limits → Bool → Reader Body
oack_at limits has_wish = do
  obj ← object_at limits
  want ← want_at has_wish
  p ← proposal_at limits want
  content ← content_at limits
  gives (OAck obj p content)

-- a refusal
unfoldable pub onack_at : Limits → Reader Body
onack_at limits = do
  obj ← object_at limits
  stamp ← stamp_at limits
  cause ← cause_at limits
  gives (ONack obj stamp cause)

-- a decided placement
unfoldable pub oval_at : Limits → Reader Body
oval_at limits = do
  obj ← object_at limits
  stamp ← stamp_at limits
  place ← place_at limits None
  gives (OVal obj stamp place)

-- the fields behind a tag; the count of bytes from the tag on tells its place, should it be none
unfoldable pub body_behind : Limits → ℕ → ℕ → Reader Body
body_behind limits left tag =
    if tag == 1 then rinv_at limits
    else (if tag == 2 then rack_at limits
    else (if tag == 3 then rval_at limits
    else (if tag == 4 then oreq_at limits false
    else (if tag == 5 then oinv_at limits false
    else (if tag == 6 then oack_at limits false
    else (if tag == 7 then onack_at limits
    else (if tag == 8 then oval_at limits
    else (if tag == 9 then gives Recovered
    else (if tag == 20 then oreq_at limits true
    else (if tag == 21 then oinv_at limits true
    else (if tag == 22 then oack_at limits true else (λ rest. Err (Tag left tag)))))))))))))

-- what a letter says: its tag and its fields
unfoldable pub body_at : Limits → Reader Body
body_at limits = λ bytes. and_then (u8_at bytes) (body_behind limits (length bytes))

-- a packet at the front of the bytes
unfoldable pub packet_at : Limits → Reader Packet
packet_at limits = do
  version ← checked (λ v. v == limits.version) u8_at
  number ← u32_at
  from ← node_at limits
  to ← node_at limits
  epoch ← checked (λ e. nat_le 1 e) u32_at
  body ← body_at limits
  gives (record { number = number; letter = record { from = from; to = to; epoch = epoch; body = body } })

-- the place of a fault among so many bytes: where so many of them were left, or where they end
unfoldable pub placed : ℕ → Fault → WireFault
placed count Short = wire.Short count
placed count (Tag left byte) = wire.BadTag (count - left) byte
placed count (Field left) = wire.BadField (count - left)

-- the packet at the front of the bytes and how many bytes it has
unfoldable pub counted : ℕ → Result (Packet × List ℕ) Fault → Result (Packet × ℕ) WireFault
counted count (Ok x) = Ok (x.0, count - length x.1)
counted count (Err fault) = Err (placed count fault)

-- the packet at the front of the bytes, or the first fault and its place
unfoldable pub decoded_front : Limits → List ℕ → Result (Packet × ℕ) WireFault
decoded_front limits bytes = counted (length bytes) (packet_at limits bytes)

-- a packet of fewer bytes than there are has bytes behind it
unfoldable pub without_rest : ℕ → Result (Packet × ℕ) WireFault → Result Packet WireFault
without_rest count (Ok x) = if nat_lt x.1 count then Err (wire.Extra x.1) else Ok x.0
without_rest count (Err fault) = Err fault

-- the packet that the bytes spell, or the first fault and its place
unfoldable pub decoded : Limits → List ℕ → Result Packet WireFault
decoded limits bytes = without_rest (length bytes) (decoded_front limits bytes)

-- what a reader of the program gave, with the bytes that it left, is what reading gives
abbrev pub IsRead : {A : Type 0} → Result A Fault → List ℕ → Result (A × List ℕ) Fault → Type 0
IsRead (Ok x) rest read = read ≡ Ok (x, rest)
IsRead (Err fault) rest read = read ≡ Err fault
