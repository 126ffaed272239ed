-- The write part of a try.
use Rattle.std.specs.Prelude.{ℕ, ◌≡◌, ◌≢◌, ◌+◌, ◌-◌, ◌^◌, ◌<◌, Bool, false, ◌&&◌, not, ◌==◌, List, [], ◌∷◌, length, Option, Some, None, is_none}
use Rattle.std.specs.List.{list_any}
use Rattle.zeus_base.specs.Nodes.{without}
use Rattle.zeus_base.specs.declared.value.Value.{Value}
use Rattle.zeus_packet.specs.declared.write.Write.{Write}
use Rattle.zeus_txn.specs.Ops.{named, object_of, stores}
use Rattle.zeus_txn.specs.declared.ops.Op.{Op}
use Rattle.zeus_model.specs.declared.answer.Tried.{Tried}
use Rattle.zeus_model.specs.declared.answer.Tried.TheVariants as rules
use Rattle.zeus_model.specs.declared.state.Copy.{Copy}
use Rattle.zeus_model.specs.declared.state.Current.{Current}
use Rattle.zeus_model.specs.declared.state.Entry.{Entry}
use Rattle.zeus_model.specs.declared.state.Pending.{Pending}
use Rattle.zeus_model.specs.Local.{committed, held_elsewhere, new_writes, replicas_of, rewritten_copy, run_here, write_cause, write_row}
use Rattle.zeus_model.specs.State.{Node, holder, no_entry, slot, version_of}
use Rattle.zeus_model.specs.Tables.{first_of, nth, put, where_true}
use Rattle.zeus_model.specs.World.{no_node}
use Rattle.object_table.specs.declared.hold.Hold.{Hold}
use Rattle.object_table.specs.Entries.{AreEntriesWithin, AreNamed}
use Rattle.object_table.specs.Table.{CanHold, Table, after_write, each_held, held, hold_slot}
use Rattle.commit_pipeline.specs.Pipes.{Waiting}
use Rattle.local_txn.specs.declared.causes.HeldBy.{HeldBy}
use Rattle.local_txn.specs.declared.attempt.WriteTry.{WriteTry}
use Rattle.local_txn.specs.declared.attempt.WriteTry.TheVariants.{PipeFull, NotOwner, Held, WornOut, Committed}

-- a node with this number, these entries, the table's copies and this slot, of which other slots hold what the table says
pub record IsNodeOf (me : ℕ) (entries : List Entry) (table : Table) (s : ℕ) (waiting : Waiting) (n : Node) : Type 0 where
  pub number : n.me ≡ me
  pub known : n.entries ≡ entries
  pub copies : n.copies ≡ table.copies
  pub holders : (x : ℕ) → held_elsewhere s x (holder n x) ≡ held_elsewhere s x (hold_slot (nth None table.holds x))
  pub done : (slot n s).done ≡ waiting.done
  pub pending : (slot n s).pending ≡ waiting.pending

-- what becomes of a try, as the answer to the try of a slot with this transaction
unfoldable pub tried_as : ℕ → WriteTry → Tried
tried_as id PipeFull = rules.PipeFull
tried_as id (NotOwner x) = rules.NotOwner x
tried_as id (Held x s) = rules.Held x s
tried_as id WornOut = rules.WornOut
tried_as id (Committed number reply) = rules.Committed id number reply

-- the writes of the transaction on the node's own copies
abbrev pub writes_here : Node → List Op → List Write
writes_here n tx = new_writes n (run_here n tx).writes

-- the followers of its entry: the replicas of the written objects, without the node
abbrev pub followers_here : Node → List Op → List ℕ
followers_here n tx = without n.me (replicas_of n (writes_here n tx))

-- the node after a try and before its stream advances: where nothing stands against it the transaction is committed
unfoldable pub after_try : Node → ℕ → Current → Option Tried → Node
after_try n s c (Some cause) = n
after_try n s c None = committed n s c (run_here n c.tx) (followers_here n c.tx) (writes_here n c.tx)

-- the holds after a try: where nothing stands against it the slot holds each named object once more
unfoldable pub holds_after : ℕ → List (Option Hold) → List Op → Option Tried → List (Option Hold)
holds_after s holds tx (Some cause) = holds
holds_after s holds tx None = each_held s holds (named tx)

-- the try of this transaction at the node gives this answer by the rules, and leaves this table and these entries that wait
pub record IsWriteTry (n : Node) (s : ℕ) (c : Current) (old new : Table) (rest : Waiting) (t : WriteTry) : Type 0 where
  -- what stands against the transaction, or its commit
  pub answer : tried_as c.id t ≡ (write_row n s c (write_cause n s c.tx)).answer
  -- the writes of a commit stand in the copies
  pub copies : new.copies ≡ (after_try n s c (write_cause n s c.tx)).copies
  -- the entry of a commit is the last that waits
  pub pending : rest.pending ≡ (slot (after_try n s c (write_cause n s c.tx)) s).pending
  -- a commit holds each named object once more
  pub holds : new.holds ≡ holds_after s old.holds c.tx (write_cause n s c.tx)

-- a slot's try of this transaction, at a node with this number and these entries: from one table to another, and from the
-- entries of the slot that wait to those that then wait
pub record TriesWrite (me : ℕ) (entries : List Entry) (s : ℕ) (c : Current) (old new : Table) (waiting rest : Waiting) (t : WriteTry) : Type 0 where
  -- at every node with these entries, copies and this slot, whose other slots hold what the table says
  pub acts : (n : Node) → IsNodeOf me entries old s waiting n → IsWriteTry n s c old new rest t
  -- no entry passes
  pub done : rest.done ≡ waiting.done
  -- what the slot holds is named by its entries that wait
  pub named : AreNamed s new.holds rest.pending
  -- what another slot holds stays named by its entries
  pub others : (i : ℕ) (ps : List Pending) → i ≢ s → AreNamed i old.holds ps → AreNamed i new.holds ps
  -- there are as many objects as before
  pub objects : length new.copies ≡ length old.copies
  -- where the entries that wait are of objects that there are, those that then wait are
  pub within : AreEntriesWithin (length old.copies) waiting.pending → AreEntriesWithin (length old.copies) rest.pending

-- ---- what stands against it, by the entries, the holds and the copies

-- a node with this number, these entries and these copies alone
abbrev pub node_of : ℕ → List Entry → List (Option Copy) → Node
node_of me entries copies = record no_node { me = me; entries = entries; copies = copies }

-- what stands against a write try, if anything, as the answer of a try
unfoldable pub cause_as : ℕ → Option WriteTry → Option Tried
cause_as id None = None
cause_as id (Some t) = Some (tried_as id t)

-- whether a node with these entries owns the object
unfoldable pub owns_at : ℕ → List Entry → ℕ → Bool
owns_at me entries x = ((nth no_entry entries x).place.owner == me) && is_none (nth no_entry entries x).proposal

-- what stands against an object that the node does not own
unfoldable pub owner_at : ℕ → List Entry → ℕ → Option Tried
owner_at me entries x = where_true (not (owns_at me entries x)) (rules.NotOwner x)

-- the object that was found not owned, if any, as the answer of a try
unfoldable pub told_not_owned : Option ℕ → Option Tried
told_not_owned None = None
told_not_owned (Some x) = Some (rules.NotOwner x)

-- what stands against an object that another slot holds
unfoldable pub held_at : ℕ → List (Option Hold) → ℕ → Option Tried
held_at s holds x = held_elsewhere s x (hold_slot (nth None holds x))

-- the hold of another slot that was found, if any, as the answer of a try
unfoldable pub told_held : Option HeldBy → Option Tried
told_held None = None
told_held (Some h) = Some (rules.Held h.object h.slot)

-- whether an operation stores at an object whose version is at its end
unfoldable pub worn_at : List (Option Copy) → Op → Bool
worn_at copies op = stores op && (version_of (nth None copies (object_of op)) == 2 ^ 64 - 1)

-- nothing of the slot, the holds and the copies stands against the transaction
pub record IsClear (s : ℕ) (table : Table) (waiting : Waiting) (tx : List Op) : Type 0 where
  pub room : length waiting.pending < 16
  pub numbered : waiting.done + length waiting.pending < 2 ^ 32 - 1
  pub free : None ≡ first_of (held_at s table.holds) (named tx)
  pub unworn : list_any (worn_at table.copies) tx ≡ false

-- ---- the commit

-- the entry that the transaction makes
abbrev pub entry_here : Node → ℕ → List Op → Pending
entry_here n id tx =
    record {
      id = id;
      reply = (run_here n tx).reply;
      named = named tx;
      followers = followers_here n tx;
      writes = writes_here n tx;
      acks = [];
    }

-- the versions of the objects are not at their end
unfoldable pub AreRising : List (Option Copy) → List (ℕ × Value) → Type 0
AreRising copies [] = Unit {0}
AreRising copies (w ∷ ws) = (version_of (nth None copies w.0) ≢ 2 ^ 64 - 1) × AreRising copies ws

-- the write makes the next version of an object that there is, whose version is not at its end
pub record IsNext (copies : List (Option Copy)) (w : Write) : Type 0 where
  pub within : w.obj < length copies
  pub rises : version_of (nth None copies w.obj) ≢ 2 ^ 64 - 1
  pub next : w.ver ≡ version_of (nth None copies w.obj) + 1

-- so does each of the writes, behind those before it
unfoldable pub AreNext : List (Option Copy) → List Write → Type 0
AreNext copies [] = Unit {0}
AreNext copies (w ∷ ws) = IsNext copies w × AreNext (after_write rewritten_copy copies w) ws

-- the slot can hold each of the objects, of which there are so many, behind those before it
unfoldable pub CanHoldEach : ℕ → ℕ → List (Option Hold) → List ℕ → Type 0
CanHoldEach s objects holds [] = Unit {0}
CanHoldEach s objects holds (x ∷ xs) =
    (x < objects) × (CanHold s (nth None holds x) × CanHoldEach s objects (put None holds x (Some (held s (nth None holds x)))) xs)
