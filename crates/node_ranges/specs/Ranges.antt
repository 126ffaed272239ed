-- What a node keeps of the ranges of a configuration's limits, and which letters fit them.
use Rattle.std.specs.Prelude.{ℕ, ◌≡◌, ◌+◌, ◌<◌, ◌≤◌, ◌^◌, true, false, List, [], length, All, Option, Some, None}
use Rattle.std.specs.List.{list_all}
use Rattle.zeus_base.specs.Nodes.{has}
use Rattle.zeus_base.specs.declared.config.Limits.{Limits}
use Rattle.zeus_base.specs.declared.order.Stream.{Stream}
use Rattle.zeus_packet.specs.Fits.{nodes_fit, stamp_fits, place_fits, proposal_fits, value_fits, write_fits, are_once, content_fits, fits}
use Rattle.zeus_packet.specs.declared.letter.Letter.{Letter}
use Rattle.zeus_packet.specs.declared.place.Proposal.{Proposal}
use Rattle.zeus_txn.specs.Ops.{named}
use Rattle.zeus_txn.specs.Tx.{IsTx}
use Rattle.zeus_txn.specs.declared.ops.Op.{Op}
use Rattle.zeus_txn.specs.declared.ops.Op.TheVariants.{Get, Put, Add, Need, Same}
use Rattle.zeus_model.specs.declared.state.Current.{Current}
use Rattle.zeus_model.specs.declared.state.Entry.{Entry}
use Rattle.zeus_model.specs.declared.state.Gather.{Gather}
use Rattle.zeus_model.specs.declared.state.Kept.{Kept}
use Rattle.zeus_model.specs.declared.state.Pending.{Pending}
use Rattle.zeus_model.specs.Commit.{as_kept}
use Rattle.zeus_model.specs.State.{Node, Slot, StreamLog, entry, copy, gather, slot, log, value_of}
use Rattle.zeus_model.specs.Tables.{nth}

-- each of the letters fits the limits
unfoldable pub AllFit : Limits → List Letter → Type 0
AllFit limits letters = All (λ l. fits l limits ≡ true) letters

-- the limits that a node shows by the sizes of its tables; its values are numbers or texts
abbrev pub limits_of : Node → Limits
limits_of n = record { version = 2; nodes = length n.logs; slots = length n.slots; objects = length n.entries }

-- there are at most 8 nodes, 8 slots and 256 objects
pub record AreLimits (limits : Limits) : Type 0 where
  pub nodes : limits.nodes ≤ 8
  pub slots : limits.slots ≤ 8
  pub objects : limits.objects ≤ 256

-- a proposal that is held fits
unfoldable pub FitsHeld : Limits → Option Proposal → Type 0
FitsHeld limits None = Unit {0}
FitsHeld limits (Some p) = proposal_fits limits p ≡ true

-- the settled stamp and placement fit, and so does a proposal
pub record FitsEntry (limits : Limits) (e : Entry) : Type 0 where
  pub stamp : stamp_fits limits e.stamp ≡ true
  pub place : place_fits limits e.place ≡ true
  pub proposal : FitsHeld limits e.proposal

-- what a gather has gathered fits: its proposal and the content that came
unfoldable pub FitsGather : Limits → Option Gather → Type 0
FitsGather limits None = Unit {0}
FitsGather limits (Some g) = (proposal_fits limits g.proposal ≡ true) × (content_fits limits g.content ≡ true)

-- the followers and the writes of an entry fit, and where it has followers it has writes: at most 8, of different objects
pub record FitsKept (limits : Limits) (k : Kept) : Type 0 where
  pub followers : nodes_fit limits k.followers ≡ true
  pub some : (m : ℕ) → has m k.followers ≡ true → 1 ≤ length k.writes
  pub few : length k.writes ≤ 8
  pub writes : list_all (write_fits limits) k.writes ≡ true
  pub once : are_once k.writes ≡ true

-- so do those of a pending entry, which its own node does not follow, and it names objects that there are
pub record FitsPending (limits : Limits) (me : ℕ) (p : Pending) : Type 0 where
  pub entry : FitsKept limits (as_kept p)
  pub others : has me p.followers ≡ false
  pub named : All (λ x. x < limits.objects) p.named

-- a value that an operation has fits
unfoldable pub OpFits : Limits → Op → Type 0
OpFits limits (Get x) = Unit {0}
OpFits limits (Put x v) = value_fits limits v ≡ true
OpFits limits (Add x d) = Unit {0}
OpFits limits (Need x n) = Unit {0}
OpFits limits (Same x v) = value_fits limits v ≡ true

-- a transaction is well made, and names objects that there are; its values fit
pub record FitsTx (limits : Limits) (tx : List Op) : Type 0 where
  pub made : IsTx tx
  pub named : All (λ x. x < limits.objects) (named tx)
  pub values : All (OpFits limits) tx

-- the current transaction of a slot fits
unfoldable pub FitsCurrent : Limits → Option Current → Type 0
FitsCurrent limits None = Unit {0}
FitsCurrent limits (Some c) = FitsTx limits c.tx

-- a slot's transactions fit; at most 16 are pending, and their numbers are below the last number of 32 bits
pub record FitsSlot (limits : Limits) (me : ℕ) (l : Slot) : Type 0 where
  pub current : FitsCurrent limits l.current
  pub few : length l.pending ≤ 16
  pub numbered : l.done + length l.pending < 2 ^ 32
  pub pending : All (FitsPending limits me) l.pending

-- at most 16 entries of a foreign stream are stored, they fit, and their numbers are below the last number of 32 bits
pub record FitsLog (limits : Limits) (l : StreamLog) : Type 0 where
  pub few : length l.kept ≤ 16
  pub numbered : 1 ≤ length l.kept → l.done + length l.kept < 2 ^ 32
  pub kept : All (FitsKept limits) l.kept

-- a node's tables have the sizes of the limits: by object, by slot, and by node and slot
pub record HasSizes (limits : Limits) (n : Node) : Type 0 where
  pub most : AreLimits limits
  pub entries : length n.entries ≡ limits.objects
  pub copies : length n.copies ≡ limits.objects
  pub gathers : length n.gathers ≡ limits.objects
  pub slots : length n.slots ≡ limits.slots
  pub nodes : length n.logs ≡ limits.nodes
  pub streams : (m : ℕ) → m < limits.nodes → length (nth [] n.logs m) ≡ limits.slots

-- a node is one of the nodes, in an epoch from 1 on, and the nodes that it knows as members, directory and reported are nodes too
pub record HasNodes (limits : Limits) (n : Node) : Type 0 where
  pub me : n.me < limits.nodes
  pub epoch : 1 ≤ n.epoch
  pub members : nodes_fit limits n.members ≡ true
  pub directory : nodes_fit limits n.directory ≡ true
  pub reported : nodes_fit limits n.reported ≡ true

-- a node keeps the ranges of the limits: its tables have their sizes, and all that stands in them fits
pub record KeepsRanges (limits : Limits) (n : Node) : Type 0 where
  pub sizes : HasSizes limits n
  pub nodes : HasNodes limits n
  pub entries : (x : ℕ) → x < limits.objects → FitsEntry limits (entry n x)
  pub copies : (x : ℕ) → value_fits limits (value_of (copy n x)) ≡ true
  pub gathers : (x : ℕ) → FitsGather limits (gather n x)
  pub slots : (s : ℕ) → FitsSlot limits n.me (slot n s)
  pub logs : (s : Stream) → FitsLog limits (log n s)

-- a node that keeps the ranges has sent letters that fit
pub record KeepsAndFits (limits : Limits) (n : Node) (letters : List Letter) : Type 0 where
  pub node : KeepsRanges limits n
  pub sent : AllFit limits letters
