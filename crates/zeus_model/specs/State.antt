-- The state of a node, and how single parts of it are read and set.
use Rattle.std.specs.Prelude.{ℕ, ◌+◌, Bool, true, false, ◌&&◌, ◌==◌, List, [], ◌∷◌, length, Option, Some, None, is_none, if◌then◌else◌}
use Rattle.zeus_base.specs.Nodes.{is_subset}
use Rattle.zeus_base.specs.declared.order.Stream.{Stream}
use Rattle.zeus_base.specs.declared.value.Value.{Value}
use Rattle.zeus_base.specs.declared.value.Value.TheVariants.{Num}
use Rattle.zeus_txn.specs.Ops.{mentions}
use Rattle.zeus_model.specs.declared.state.Copy.{Copy}
use Rattle.zeus_model.specs.declared.state.Current.{Current}
use Rattle.zeus_model.specs.declared.state.Entry.{Entry}
use Rattle.zeus_model.specs.declared.state.Gather.{Gather}
use Rattle.zeus_model.specs.declared.state.Kept.{Kept}
use Rattle.zeus_model.specs.declared.state.Pending.{Pending}
use Rattle.zeus_model.specs.Tables.{nth, put, first_of, below, where_true}

-- an own slot: its current transaction, how many of its entries have passed, and the pending ones behind these
pub record Slot : Type 0 where
  pub current : Option Current
  pub done : ℕ
  pub pending : List Pending

-- what a node has of a foreign stream: how many entries it knows to have passed, and the stored ones behind these
pub record StreamLog : Type 0 where
  pub done : ℕ
  pub kept : List Kept

pub record Node : Type 0 where
  pub me : ℕ
  pub epoch : ℕ
  pub members : List ℕ
  pub directory : List ℕ
  pub degree : Option ℕ
  pub reported : List ℕ
  pub stopped : Bool
  -- by object
  pub entries : List Entry
  pub copies : List (Option Copy)
  pub gathers : List (Option Gather)
  -- by slot
  pub slots : List Slot
  -- by node and slot
  pub logs : List (List StreamLog)

-- what stands past the end of the tables
abbrev pub no_entry : Entry
no_entry = record { stamp = record { ver = 0; driver = 0 }; place = record { owner = 0; replicas = [] }; proposal = None }

abbrev pub no_slot : Slot
no_slot = record { current = None; done = 0; pending = [] }

abbrev pub no_log : StreamLog
no_log = record { done = 0; kept = [] }

abbrev pub entry : Node → ℕ → Entry
entry n x = nth no_entry n.entries x

abbrev pub copy : Node → ℕ → Option Copy
copy n x = nth None n.copies x

abbrev pub gather : Node → ℕ → Option Gather
gather n x = nth None n.gathers x

abbrev pub slot : Node → ℕ → Slot
slot n s = nth no_slot n.slots s

abbrev pub log : Node → Stream → StreamLog
log n s = nth no_log (nth [] n.logs s.node) s.slot

abbrev pub with_entry : Node → ℕ → Entry → Node
with_entry n x e = record n { entries = put no_entry n.entries x e }

abbrev pub with_copies : Node → List (Option Copy) → Node
with_copies n copies = record n { copies = copies }

abbrev pub with_copy : Node → ℕ → Option Copy → Node
with_copy n x c = record n { copies = put None n.copies x c }

abbrev pub with_gather : Node → ℕ → Option Gather → Node
with_gather n x g = record n { gathers = put None n.gathers x g }

abbrev pub with_slot : Node → ℕ → Slot → Node
with_slot n s l = record n { slots = put no_slot n.slots s l }

abbrev pub with_log : Node → Stream → StreamLog → Node
with_log n s l = record n { logs = put [] n.logs s.node (put no_log (nth [] n.logs s.node) s.slot l) }

-- the stream of an own slot
abbrev pub own_stream : Node → ℕ → Stream
own_stream n s = record { node = n.me; slot = s }

-- the number that the next entry of a slot has
abbrev pub next_number : Slot → ℕ
next_number l = l.done + length l.pending

-- a node owns an object where its settled placement names it as owner and it holds no proposal for the object
unfoldable pub owns : Node → ℕ → Bool
owns n x = ((entry n x).place.owner == n.me) && is_none (entry n x).proposal

-- a node is open where every member has reported
unfoldable pub is_open : Node → Bool
is_open n = is_subset n.members n.reported

-- whether a pending entry names the object
unfoldable pub pending_names : ℕ → List Pending → Bool
pending_names x [] = false
pending_names x (p ∷ ps) = if mentions x p.named then true else pending_names x ps

-- the slot that holds an object: one that has a pending entry whose transaction names it
unfoldable pub holder : Node → ℕ → Option ℕ
holder n x = first_of (λ s. where_true (pending_names x (slot n s).pending) s) (below (length n.slots))

-- the value of a node's copy
unfoldable pub value_of : Option Copy → Value
value_of None = Num 0
value_of (Some c) = c.value

-- the version of a node's copy
unfoldable pub version_of : Option Copy → ℕ
version_of None = 0
version_of (Some c) = c.ver
