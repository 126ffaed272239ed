-- A slot's transactions: begun, tried, read from the copies, or committed at their owner.
use Rattle.std.specs.Prelude.{ℕ, ◌+◌, ◌-◌, ◌^◌, not, ◌==◌, nat_lt, List, [], ◌∷◌, ◌++◌, length, Option, Some, None, is_none, if◌then◌else◌}
use Rattle.zeus_base.specs.Nodes.{without, meet, join, least}
use Rattle.zeus_base.specs.declared.value.Value.{Value}
use Rattle.zeus_packet.specs.declared.letter.Body.TheVariants.{RInv, OReq}
use Rattle.zeus_packet.specs.declared.letter.Letter.{Letter}
use Rattle.zeus_packet.specs.declared.letter.RInv.{RInv as Invalidation}
use Rattle.zeus_packet.specs.declared.letter.State.{State}
use Rattle.zeus_packet.specs.declared.letter.State.TheVariants.{Write}
use Rattle.zeus_packet.specs.declared.place.Want.{Want}
use Rattle.zeus_packet.specs.declared.place.Want.TheVariants.{Own, Read as ReadCopy}
use Rattle.zeus_packet.specs.declared.write.Write.{Write as WriteOf}
use Rattle.zeus_txn.specs.Ops.{named, written, is_write}
use Rattle.zeus_txn.specs.Run.{run}
use Rattle.zeus_txn.specs.declared.ops.Op.{Op}
use Rattle.zeus_txn.specs.declared.reply.Ran.{Ran}
use Rattle.zeus_model.specs.declared.answer.Begin.{Begin}
use Rattle.zeus_model.specs.declared.answer.Begin.TheVariants.{Begun, Stopped, Busy}
use Rattle.zeus_model.specs.declared.answer.Tried.{Tried}
use Rattle.zeus_model.specs.declared.answer.Tried.TheVariants.{Stopped as TryStopped, Nothing, NoCopy, NotValid, Read, PipeFull, NotOwner, Held, WornOut, Committed}
use Rattle.zeus_model.specs.declared.state.Copy.{Copy}
use Rattle.zeus_model.specs.declared.state.Current.{Current}
use Rattle.zeus_model.specs.Tables.{or_else, where_true, first_of}
use Rattle.zeus_model.specs.State.{Node, Slot, entry, copy, slot, with_slot, with_copies, own_stream, next_number, owns, holder, value_of, version_of}
use Rattle.zeus_model.specs.Act.{Did, just, sends, did_then, letter, to_each}
use Rattle.zeus_model.specs.Ownership.{not_valid}
use Rattle.zeus_model.specs.Commit.{advance_own, each_write}

-- the slot with another current transaction, or none
abbrev pub with_current : Node → ℕ → Option Current → Node
with_current n s c = with_slot n s record { current = c; done = (slot n s).done; pending = (slot n s).pending }

unfoldable pub begin_free : Node → ℕ → Current → Option Current → Did Begin
begin_free n s c (Some other) = just n (Busy other.id)
begin_free n s c None = just (with_current n s (Some c)) Begun

-- begin: a free slot of a running node takes the transaction
unfoldable pub begin : Node → ℕ → ℕ → List Op → Did Begin
begin n s id tx = if n.stopped then just n Stopped else begin_free n s record { id = id; tx = tx } (slot n s).current

-- the least member directory node not below the given one
unfoldable pub least_from : ℕ → List ℕ → Option ℕ
least_from me ns = first_of (λ n. where_true (not (nat_lt n me)) n) ns

-- requests go to the least member directory node not below the node, else to the least one, else to nobody
unfoldable pub driver : Node → Option ℕ
driver n = or_else (least_from n.me (meet n.directory n.members)) (least (meet n.directory n.members))

unfoldable pub ask : Node → Want → List ℕ → Option ℕ → List Letter
ask n want xs None = []
ask n want [] (Some d) = []
ask n want (x ∷ xs) (Some d) = letter n d (OReq x want) ∷ ask n want xs (Some d)

-- requests for the objects, in order
abbrev pub requests : Node → Want → List ℕ → List Letter
requests n want xs = ask n want xs (driver n)

-- the objects of the list that the node does not own
unfoldable pub not_owned : Node → List ℕ → List ℕ
not_owned n [] = []
not_owned n (x ∷ xs) = if owns n x then not_owned n xs else x ∷ not_owned n xs

-- the objects of the list of which the node has no copy
unfoldable pub not_copied : Node → List ℕ → List ℕ
not_copied n [] = []
not_copied n (x ∷ xs) = if is_none (copy n x) then x ∷ not_copied n xs else not_copied n xs

-- what hinders a read: that there is no copy, or that the copy is not valid
pub data Hindrance : Type 0 where
  Missing : ℕ → Hindrance
  Unready : ℕ → State → Hindrance

unfoldable pub unready : ℕ → Option State → Option Hindrance
unready x None = None
unready x (Some s) = Some (Unready x s)

unfoldable pub hindrance_at : ℕ → Option Copy → Option Hindrance
hindrance_at x None = Some (Missing x)
hindrance_at x (Some c) = unready x (not_valid c.state)

-- the first named object that hinders a read
unfoldable pub hindrance : Node → List Op → Option Hindrance
hindrance n tx = first_of (λ x. hindrance_at x (copy n x)) (named tx)

-- what the transaction does on the node's own copies
abbrev pub run_here : Node → List Op → Ran
run_here n tx = run (λ x. value_of (copy n x)) tx

-- without a degree a read of an object that the node has no copy of is refused for good; with one it asks for copies
unfoldable pub read_missing : Node → ℕ → Current → ℕ → Option ℕ → Did Tried
read_missing n s c x None = just (with_current n s None) (NoCopy c.id x)
read_missing n s c x (Some degree) = sends n (NoCopy c.id x) (requests n ReadCopy (not_copied n (named c.tx)))

unfoldable pub read_row : Node → ℕ → Current → Option Hindrance → Did Tried
read_row n s c (Some (Missing x)) = read_missing n s c x n.degree
read_row n s c (Some (Unready x state)) = just n (NotValid x state)
read_row n s c None = just (with_current n s None) (Read c.id (run_here n c.tx).reply)

-- a slot has room for 16 pending entries
unfoldable pub full_cause : Slot → Option Tried
full_cause l = where_true (length l.pending == 16) PipeFull

-- a write transaction needs to own each object that it names
unfoldable pub owner_cause : Node → List Op → Option Tried
owner_cause n tx = first_of (λ x. where_true (not (owns n x)) (NotOwner x)) (named tx)

unfoldable pub held_elsewhere : ℕ → ℕ → Option ℕ → Option Tried
held_elsewhere s x None = None
held_elsewhere s x (Some other) = where_true (not (other == s)) (Held x other)

-- no other slot may hold an object that it names
unfoldable pub holder_cause : Node → ℕ → List Op → Option Tried
holder_cause n s tx = first_of (λ x. held_elsewhere s x (holder n x)) (named tx)

-- numbers and versions end
unfoldable pub worn_cause : Node → ℕ → List Op → Option Tried
worn_cause n s tx =
    or_else (where_true (next_number (slot n s) == 2 ^ 32 - 1) WornOut)
    (first_of (λ x. where_true (version_of (copy n x) == 2 ^ 64 - 1) WornOut) (written tx))

-- why a write transaction is not committed: the first that applies
unfoldable pub write_cause : Node → ℕ → List Op → Option Tried
write_cause n s tx =
    or_else (full_cause (slot n s)) (or_else (owner_cause n tx) (or_else (holder_cause n s tx) (worn_cause n s tx)))

-- the versions of the written objects rise by one
unfoldable pub new_writes : Node → List (ℕ × Value) → List WriteOf
new_writes n [] = []
new_writes n (w ∷ ws) = record { obj = w.0; ver = version_of (copy n w.0) + 1; value = w.1 } ∷ new_writes n ws

-- the replicas of the written objects by the settled placements
unfoldable pub replicas_of : Node → List WriteOf → List ℕ
replicas_of n [] = []
replicas_of n (w ∷ ws) = join (entry n w.obj).place.replicas (replicas_of n ws)

-- the own copy after a write
unfoldable pub rewritten_copy : WriteOf → Option Copy → Option Copy
rewritten_copy w None = None
rewritten_copy w (Some c) = Some record { value = w.value; ver = w.ver; state = Write }

-- the entry that a committed transaction makes, sent with the stream's done
abbrev pub invalidation : Node → ℕ → List ℕ → List WriteOf → Invalidation
invalidation n s followers writes =
    record { stream = own_stream n s; number = next_number (slot n s); done = (slot n s).done; followers = followers; writes = writes }

abbrev pub committed : Node → ℕ → Current → Ran → List ℕ → List WriteOf → Node
committed n s c ran followers writes =
    with_slot (with_copies n (each_write rewritten_copy n.copies writes)) s
    record {
      current = None;
      done = (slot n s).done;
      pending = (slot n s).pending ++ record { id = c.id; reply = ran.reply; named = named c.tx; followers = followers; writes = writes; acks = [] } ∷ [];
    }

unfoldable pub commit_entry : Node → ℕ → Current → Ran → List ℕ → List WriteOf → Did Tried
commit_entry n s c ran followers writes =
    did_then
    (sends (committed n s c ran followers writes) (Committed c.id (next_number (slot n s)) ran.reply)
    (to_each n (meet followers n.members) (RInv (invalidation n s followers writes))))
    (λ m. advance_own m s)

-- a commit writes the own copies, adds the entry to the pipeline and sends it to the followers; then the stream advances
unfoldable pub commit : Node → ℕ → Current → Ran → Did Tried
commit n s c ran =
    commit_entry n s c ran (without n.me (replicas_of n (new_writes n ran.writes))) (new_writes n ran.writes)

unfoldable pub write_row : Node → ℕ → Current → Option Tried → Did Tried
write_row n s c None = commit n s c (run_here n c.tx)
write_row n s c (Some (NotOwner x)) = sends n (NotOwner x) (requests n Own (not_owned n (named c.tx)))
write_row n s c (Some other) = just n other

unfoldable pub try_current : Node → ℕ → Option Current → Did Tried
try_current n s None = just n Nothing
try_current n s (Some c) =
    if is_write c.tx then write_row n s c (write_cause n s c.tx) else read_row n s c (hindrance n c.tx)

-- try: a running node tries the slot's current transaction
unfoldable pub try_slot : Node → ℕ → Did Tried
try_slot n s = if n.stopped then just n TryStopped else try_current n s (slot n s).current
