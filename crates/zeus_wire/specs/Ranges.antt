-- The limits that a packet can be read against, and the widths of a packet's numbers.
use Rattle.std.specs.Prelude.{ℕ, ◌+◌, ◌-◌, vec_capacity, vec_len, ◌≡◌, ◌<◌, ◌≤◌, ◌^◌, ◌==◌, List, [], ◌∷◌, Option, Some, None, slice_index, if◌then◌else◌}
use Rattle.std.specs.Global.{Vec}
use Rattle.zeus_base.specs.Bits.{bits_of, nodes_of}
use Rattle.zeus_base.specs.Texts.{IsText}
use Rattle.zeus_base.specs.declared.config.Limits.{Limits}
use Rattle.zeus_base.specs.declared.order.Stamp.{Stamp}
use Rattle.zeus_base.specs.declared.value.Value.{Value}
use Rattle.zeus_base.specs.declared.value.Value.TheVariants.{Num, Text}
use Rattle.zeus_packet.specs.declared.letter.Body.{Body}
use Rattle.zeus_packet.specs.declared.letter.Body.TheVariants.{RInv, RAck, RVal, OReq, OInv, OAck, ONack, OVal, Recovered}
use Rattle.zeus_packet.specs.declared.letter.Cause.{Cause}
use Rattle.zeus_packet.specs.declared.letter.Cause.TheVariants.{Proposed}
use Rattle.zeus_packet.specs.declared.letter.Packet.{Packet}
use Rattle.zeus_packet.specs.declared.letter.RInv.{RInv as Inv}
use Rattle.zeus_packet.specs.declared.place.Proposal.{Proposal}
use Rattle.zeus_packet.specs.declared.write.Content.{Content}
use Rattle.zeus_packet.specs.declared.write.Write.{Write}

-- limits have version 1 or 2, at most 8 nodes and slots, and at most 256 objects
pub record AreLimits (limits : Limits) : Type 0 where
  pub version : (1 ≤ limits.version) × (limits.version ≤ 2)
  pub nodes : limits.nodes ≤ 8
  pub slots : limits.slots ≤ 8
  pub objects : limits.objects ≤ 256

-- the largest limits of a version
abbrev pub largest : ℕ → Limits
largest version = record { version = version; nodes = 8; slots = 8; objects = 256 }

-- how many bytes the longest packet of a version has
unfoldable pub longest : ℕ → ℕ
longest version = if version == 2 then 368 else 168

-- how many bytes the longest value of a version has
unfoldable pub longest_value : ℕ → ℕ
longest_value version = if version == 2 then 33 else 8

-- how many bytes more a vector takes before it wants memory
abbrev pub room : Vec ℕ → ℕ
room out = vec_capacity out - vec_len out

-- the longest values of so many writes, with their objects and versions
unfoldable pub longest_writes : ℕ → List Write → ℕ
longest_writes version [] = 0
longest_writes version (w ∷ ws) = 10 + longest_value version + longest_writes version ws

-- each item is a byte
abbrev pub AreBytes : List ℕ → Type 0
AreBytes bytes = (i : ℕ) → slice_index bytes i < 256

-- a set is that of its byte
pub record IsSet (ns : List ℕ) : Type 0 where
  pub byte : bits_of ns < 256
  pub back : nodes_of (bits_of ns) ≡ ns

-- a number has 64 bits, a text is one
unfoldable pub IsValue : Value → Type 0
IsValue (Num n) = n < 2 ^ 64
IsValue (Text t) = IsText t

-- a stamp's version has 64 bits
abbrev pub IsStamp : Stamp → Type 0
IsStamp s = s.ver < 2 ^ 64

-- a proposal's stamps and replicas are such
pub record IsProposal (p : Proposal) : Type 0 where
  pub stamp : IsStamp p.stamp
  pub base : IsStamp p.base
  pub replicas : IsSet p.base_place.replicas

-- a write's version has 64 bits, and its value is one
pub record IsWrite (w : Write) : Type 0 where
  pub ver : w.ver < 2 ^ 64
  pub value : IsValue w.value

-- each of the writes is such
unfoldable pub AreWrites : List Write → Type 0
AreWrites [] = Unit {0}
AreWrites (w ∷ ws) = IsWrite w × AreWrites ws

-- a content's version has 64 bits, and its value is one
unfoldable pub IsContent : Option Content → Type 0
IsContent None = Unit {0}
IsContent (Some c) = (c.ver < 2 ^ 64) × IsValue c.value

-- a cause that names a stamp names such
unfoldable pub IsCause : Cause → Type 0
IsCause (Proposed s) = IsStamp s
IsCause _ = Unit {0}

-- an entry's numbers have 32 bits, and its followers and writes are such
pub record IsInv (r : Inv) : Type 0 where
  pub number : r.number < 2 ^ 32
  pub done : r.done < 2 ^ 32
  pub followers : IsSet r.followers
  pub writes : AreWrites r.writes

-- what a letter says has fields of their widths
unfoldable pub IsBody : Body → Type 0
IsBody (RInv r) = IsInv r
IsBody (RAck s number) = number < 2 ^ 32
IsBody (RVal s done) = done < 2 ^ 32
IsBody (OReq x want) = Unit {0}
IsBody (OInv x p) = IsProposal p
IsBody (OAck x p content) = IsProposal p × IsContent content
IsBody (ONack x stamp cause) = IsStamp stamp × IsCause cause
IsBody (OVal x stamp place) = IsStamp stamp × IsSet place.replicas
IsBody Recovered = Unit {0}

-- the numbers of a packet have their widths, its sets are sets of nodes, and its texts are short and printable
pub record IsPacket (p : Packet) : Type 0 where
  pub number : p.number < 2 ^ 32
  pub epoch : p.letter.epoch < 2 ^ 32
  pub body : IsBody p.letter.body
