-- The try of a slot, by what its current transaction is.
use Rattle.std.proofs.Common.{ℕ, ◌≡◌, ◌≤◌, ◌<◌, Bool, true, false, Option, Some, None, length, refl, ◌∙◌}
use Rattle.std.specs.Prelude.{if◌then◌else◌}
use Rattle.zeus_base.specs.TableLaws.{length-put}
use Rattle.zeus_txn.specs.Ops.{is_write}
use Rattle.zeus_model.specs.Act.{just}
use Rattle.zeus_model.specs.declared.answer.Tried.{Tried}
use Rattle.zeus_model.specs.declared.answer.Tried.TheVariants as rules
use Rattle.zeus_model.specs.declared.state.Current.{Current}
use Rattle.zeus_model.specs.Local.{hindrance, read_row, try_current, try_slot, write_cause, write_row}
use Rattle.zeus_model.specs.State.{Node, no_slot, slot}
use Rattle.local_txn.specs.Tries.{after_try}
use Rattle.local_txn.specs.declared.attempt.WriteTry.{WriteTry}
use Rattle.replica_reads.specs.declared.reads.ReadTry.{ReadTry}
use Rattle.node_state.specs.declared.attempt.SlotTry.{SlotTry}
use Rattle.node_state.specs.declared.attempt.SlotTry.TheVariants.{Nothing, Read, Write}
use Rattle.node_state.specs.declared.effect.Effect.{Effect}
use Rattle.node_state.specs.Done.{IsDone}
use Rattle.node_state.specs.EffectLaws.{adds_nothing}
use Rattle.node_state.specs.SlotTries.{IsReadTried, IsTried, IsWriteTried}

-- ---- what the try of the tables gives

after_try-slots : (n : Node) (s : ℕ) (c : Current) (o : Option Tried) → s < length n.slots → length (after_try n s c o).slots ≡ length n.slots
unfolding after_try
after_try-slots n s c None h = length-put no_slot n.slots s _ h
after_try-slots n s c (Some t) h = refl

-- as many slots are there
pub tried-slots : (n m : Node) (s : ℕ) (t : SlotTry) → s < length n.slots → IsTried n s t m → s < length m.slots
unfolding IsTried
tried-slots n m s Nothing h tried = rw tried.stays h
tried-slots n m s (Read id t) h tried = rw tried.stays h
tried-slots n m s (Write id t) h tried = rw (tried.becomes, after_try-slots n s _ (write_cause n s tried.tx) h) h

-- if the try of a slot gives what a read gives, then its current transaction is a read that was tried
pub is_read : (n m : Node) (s id : ℕ) (t : SlotTry) (r : ReadTry) → t ≡ Read id r → IsTried n s t m → IsReadTried n s id r m
unfolding IsTried
is_read n m s id t r e tried = rw e at tried

-- if the try of a slot gives what a write gives, then its current transaction is a write that was tried
pub is_written : (n m : Node) (s id : ℕ) (t : SlotTry) (w : WriteTry) → t ≡ Write id w → IsTried n s t m → IsWriteTried n s id w m
unfolding IsTried
is_written n m s id t w e tried = rw e at tried

-- ---- the try

if_true : {A : Type 0} (b : Bool) (x y : A) → b ≡ true → (if b then x else y) ≡ x
if_true b x y e = rw e refl

if_false : {A : Type 0} (b : Bool) (x y : A) → b ≡ false → (if b then x else y) ≡ y
if_false b x y e = rw e refl

stopped_is : (n : Node) (s : ℕ) → n.stopped ≡ true → try_slot n s ≡ just n rules.Stopped
unfolding try_slot
stopped_is n s e = if_true n.stopped _ _ e

running_is : (n : Node) (s : ℕ) → n.stopped ≡ false → try_slot n s ≡ try_current n s (slot n s).current
unfolding try_slot
running_is n s e = if_false n.stopped _ _ e

nothing_is : (n : Node) (s : ℕ) (o : Option Current) → o ≡ None → try_current n s o ≡ just n rules.Nothing
unfolding try_current
nothing_is n s o e = rw e refl

read_is : (n : Node) (s : ℕ) (c : Current) (o : Option Current) → o ≡ Some c → is_write c.tx ≡ false → try_current n s o ≡ read_row n s c (hindrance n c.tx)
unfolding try_current
read_is n s c o e reads = rw e (if_false (is_write c.tx) _ _ reads)

write_is : (n : Node) (s : ℕ) (c : Current) (o : Option Current) → o ≡ Some c → is_write c.tx ≡ true → try_current n s o ≡ write_row n s c (write_cause n s c.tx)
unfolding try_current
write_is n s c o e writes = rw e (if_true (is_write c.tx) _ _ writes)

-- if a node has stopped, then a try is answered so and does nothing
pub try-stopped : (n : Node) (s : ℕ) (out : Effect) → n.stopped ≡ true → length out.sent ≤ 64 → IsDone (try_slot n s) rules.Stopped n out out
try-stopped n s out e room = rw (stopped_is n s e) record { says = refl; becomes = refl; adds = adds_nothing out room }

-- if a live node's slot has no current transaction, then a try is answered `Nothing` and does nothing
pub try-nothing : (n m : Node) (s : ℕ) (t : SlotTry) (out : Effect) → n.stopped ≡ false → t ≡ Nothing → IsTried n s t m → length out.sent ≤ 64 → IsDone (try_slot n s) rules.Nothing m out out
unfolding IsTried
try-nothing n m s t out e is tried room =
    let none = rw is at tried in
    rw (running_is n s e ∙ nothing_is n s (slot n s).current none.current) record { says = refl; becomes = none.stays; adds = adds_nothing out room }

-- if the current transaction of a slot only reads, then the try does what the row of reads says
pub try-read : (n m k : Node) (s id : ℕ) (t : ReadTry) (answer : Tried) (a b : Effect) → n.stopped ≡ false → (h : IsReadTried n s id t m) → IsDone (read_row n s (record { id = id; tx = h.tx }) (hindrance n h.tx)) answer k a b → IsDone (try_slot n s) answer k a b
try-read n m k s id t answer a b e h done =
    rw (running_is n s e ∙ read_is n s (record { id = id; tx = h.tx }) (slot n s).current h.current h.reads) done

-- if the current transaction of a slot writes, then the try does what the row of writes says
pub try-write : (n m k : Node) (s id : ℕ) (t : WriteTry) (answer : Tried) (a b : Effect) → n.stopped ≡ false → (h : IsWriteTried n s id t m) → IsDone (write_row n s (record { id = id; tx = h.tx }) (write_cause n s h.tx)) answer k a b → IsDone (try_slot n s) answer k a b
try-write n m k s id t answer a b e h done =
    rw (running_is n s e ∙ write_is n s (record { id = id; tx = h.tx }) (slot n s).current h.current h.writes) done
