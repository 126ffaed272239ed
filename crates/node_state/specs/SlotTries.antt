-- The try of a slot's current transaction at a node, before a letter is sent.
use Rattle.std.specs.Prelude.{All, ℕ, ◌+◌, ◌-◌, slice_get, ◌≡◌, ◌<◌, length, true, false, List, Option, Some, None}
use Rattle.zeus_base.specs.declared.order.Stream.{Stream}
use Rattle.zeus_packet.specs.declared.letter.RInv.{RInv as Invalidation}
use Rattle.zeus_model.specs.declared.state.Pending.{Pending}
use Rattle.zeus_txn.specs.Ops.{is_write, named}
use Rattle.zeus_txn.specs.declared.ops.Op.{Op}
use Rattle.zeus_model.specs.declared.state.Copy.{Copy}
use Rattle.zeus_model.specs.declared.state.Current.{Current}
use Rattle.zeus_model.specs.declared.state.Entry.{Entry}
use Rattle.zeus_model.specs.Local.{hindrance, run_here, write_cause, write_row}
use Rattle.zeus_model.specs.State.{Node, Slot, no_slot, slot}
use Rattle.zeus_model.specs.Tables.{put}
use Rattle.object_table.specs.Holding.{AreHeld}
use Rattle.object_table.specs.Table.{Table}
use Rattle.replica_reads.specs.Reads.{read_told}
use Rattle.replica_reads.specs.declared.reads.ReadTry.{ReadTry}
use Rattle.local_txn.specs.Tries.{after_try, tried_as}
use Rattle.local_txn.specs.declared.attempt.WriteTry.{WriteTry}
use Rattle.local_txn.specs.declared.attempt.WriteTry.TheVariants.{PipeFull, NotOwner, Held, WornOut, Committed}
use Rattle.node_state.specs.declared.attempt.SlotTry.{SlotTry}
use Rattle.node_state.specs.declared.attempt.SlotTry.TheVariants.{Nothing, Read, Write}

-- the current transaction, if there is one, names objects that there are
unfoldable pub IsCurrentWithin : ℕ → Option Current → Type 0
IsCurrentWithin objects None = Unit {0}
IsCurrentWithin objects (Some c) = All (λ x. x < objects) (named c.tx)

-- a node with this number, these entries, the table's copies and this slot, whose slots hold what the table says
pub record IsNodeAt (me : ℕ) (entries : List Entry) (table : Table) (s : ℕ) (l : Slot) (n : Node) : Type 0 where
  pub number : n.me ≡ me
  pub known : n.entries ≡ entries
  pub copies : n.copies ≡ table.copies
  pub there : s < length n.slots
  pub own : slot n s ≡ l
  pub held : AreHeld n table.holds

-- the node with these copies and this slot
abbrev pub with_tables : Node → ℕ → List (Option Copy) → Slot → Node
with_tables n s copies l = record n { copies = copies; slots = put no_slot n.slots s l }

-- the current transaction of the slot after a try to commit it
unfoldable pub current_after : WriteTry → Option Current → Option Current
current_after PipeFull c = c
current_after (NotOwner x) c = c
current_after (Held x s) c = c
current_after WornOut c = c
current_after (Committed number reply) c = None

-- the slot's current transaction, of this number, is read-only; the try of it on the node's copies gives this and changes nothing
pub record IsReadTried (n : Node) (s id : ℕ) (t : ReadTry) (m : Node) : Type 0 where
  pub tx : List Op
  pub current : (slot n s).current ≡ Some (record { id = id; tx = tx })
  pub reads : is_write tx ≡ false
  pub told : t ≡ read_told (hindrance n tx) (run_here n tx).reply
  pub stays : m ≡ n

-- the slot's current transaction, of this number, is a write transaction; the try of it gives this answer and node
pub record IsWriteTried (n : Node) (s id : ℕ) (t : WriteTry) (m : Node) : Type 0 where
  pub tx : List Op
  pub current : (slot n s).current ≡ Some (record { id = id; tx = tx })
  pub writes : is_write tx ≡ true
  pub told : tried_as id t ≡ (write_row n s (record { id = id; tx = tx }) (write_cause n s tx)).answer
  pub becomes : m ≡ after_try n s (record { id = id; tx = tx }) (write_cause n s tx)

-- the slot has no current transaction, and the node stays
pub record IsNothingTried (n : Node) (s : ℕ) (m : Node) : Type 0 where
  pub current : (slot n s).current ≡ None
  pub stays : m ≡ n

-- the try of a slot's current transaction gives this, and leaves this node
unfoldable pub IsTried : Node → ℕ → SlotTry → Node → Type 0
IsTried n s Nothing m = IsNothingTried n s m
IsTried n s (Read id t) m = IsReadTried n s id t m
IsTried n s (Write id t) m = IsWriteTried n s id t m

-- the try of a slot's current transaction at the node leaves this table and this slot
pub record TriesSlot (n : Node) (s : ℕ) (table : Table) (l : Slot) (t : SlotTry) : Type 0 where
  -- the node with them is the one that the try leaves, by the rules
  pub tried : IsTried n s t (with_tables n s table.copies l)
  -- and its slots hold what the table says
  pub held : AreHeld (with_tables n s table.copies l) table.holds

-- ---- the entry that a commit made

-- the pending entry at this place, as the stream of the slot sends it
unfoldable pub entry_letter : Stream → Slot → ℕ → Option Pending → Option Invalidation
entry_letter stream l place None = None
entry_letter stream l place (Some p) =
    Some (record { stream = stream; number = l.done + place; done = l.done; followers = p.followers; writes = p.writes })

-- the last pending entry
abbrev pub newest_of : Stream → Slot → Option Invalidation
newest_of stream l = entry_letter stream l (length l.pending - 1) (slice_get l.pending (length l.pending - 1))
