-- The own slots of a node, read and set by index.
use Rattle.std.proofs.Common.{ℕ, ◌≡◌, ◌<◌, Option, length, refl, sym}
use Rattle.std.proofs.Math.ListN.{get_or, set}
use Rattle.zeus_base.specs.TableLaws.{nth_read, put-set}
use Rattle.zeus_model.specs.declared.state.Current.{Current}
use Rattle.zeus_model.specs.State.{Node, Slot, no_slot, slot, with_slot}
use Rattle.zeus_model.specs.Local.{with_current}

-- if a slot is one of the node's, then reading it by its number gives it
pub slot_read : (n : Node) (s : ℕ) (l : Slot) → s < length n.slots → l ≡ get_or n.slots s l → slot n s ≡ l
slot_read n s l h e = nth_read no_slot n.slots s l h e

-- if a slot is one of the node's, then writing it by its number gives the slots with it
pub slot_written : (n : Node) (s : ℕ) (l : Slot) → s < length n.slots → set n.slots s l ≡ (with_slot n s l).slots
slot_written n s l h = sym (put-set no_slot n.slots s l h)

-- the slot has another current transaction
pub current_written : (n : Node) (s : ℕ) (l m : Slot) (c : Option Current) → s < length n.slots → l ≡ get_or n.slots s l → m ≡ record l { current = c } → (let r : Node = record n { slots = set n.slots s m } in r) ≡ with_current n s c
current_written n s l m c h e is = rw (slot_written n s m h, is, ← slot_read n s l h e) refl
