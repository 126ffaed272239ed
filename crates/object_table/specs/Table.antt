-- The copies of a node and the holds of its slots, by object.
use Rattle.std.specs.Prelude.{ℕ, ◌+◌, ◌-◌, ◌≡◌, ◌≤◌, ◌<◌, Bool, false, nat_lt, nat_le, List, [], ◌∷◌, length, All, Option, Some, None, if◌then◌else◌}
use Rattle.zeus_base.specs.declared.value.Value.{Value}
use Rattle.zeus_packet.specs.declared.write.Write.{Write}
use Rattle.zeus_model.specs.declared.state.Copy.{Copy}
use Rattle.zeus_model.specs.State.{version_of}
use Rattle.zeus_model.specs.Tables.{nth, put}
use Rattle.object_table.specs.declared.hold.Hold.{Hold}

-- what a node keeps by object: its copy, and which slot holds the object how often
pub record Table : Type 0 where
  pub copies : List (Option Copy)
  pub holds : List (Option Hold)

-- an object that is held is held 1 to 16 times
unfoldable pub IsCounted : Option Hold → Type 0
IsCounted None = Unit {0}
IsCounted (Some h) = (1 ≤ h.count) × (h.count ≤ 16)

-- there are as many places for holds as for copies, and each hold counts from 1 to 16
pub record IsTable (t : Table) : Type 0 where
  pub places : length t.holds ≡ length t.copies
  pub counted : All IsCounted t.holds

-- the copies after a write has changed the copy of its object
abbrev pub after_write : (Write → Option Copy → Option Copy) → List (Option Copy) → Write → List (Option Copy)
after_write f copies w = put None copies w.obj (f w (nth None copies w.obj))

-- the write of this value with the object's next version
abbrev pub next_write : List (Option Copy) → ℕ → Value → Write
next_write copies x value = record { obj = x; ver = version_of (nth None copies x) + 1; value = value }

-- whether there is a copy of a lower version
unfoldable pub is_lower : Option Copy → ℕ → Bool
is_lower None ver = false
is_lower (Some c) ver = nat_lt c.ver ver

-- the slot that holds the object
unfoldable pub hold_slot : Option Hold → Option ℕ
hold_slot None = None
hold_slot (Some h) = Some h.slot

-- how often the object is held
unfoldable pub hold_count : Option Hold → ℕ
hold_count None = 0
hold_count (Some h) = h.count

-- a slot can hold an object that is free, or that it holds fewer than 16 times itself
unfoldable pub CanHold : ℕ → Option Hold → Type 0
CanHold s None = Unit {0}
CanHold s (Some h) = (h.slot ≡ s) × (h.count < 16)

-- the slot holds the object once more
unfoldable pub held : ℕ → Option Hold → Hold
held s None = record { slot = s; count = 1 }
held s (Some h) = record { slot = s; count = h.count + 1 }

-- the object is held once less, and free where that was once
unfoldable pub unheld : Option Hold → Option Hold
unheld None = None
unheld (Some h) = if nat_le h.count 1 then None else Some (record { slot = h.slot; count = h.count - 1 })

-- the holds after a slot holds each of the objects once more
unfoldable pub each_held : ℕ → List (Option Hold) → List ℕ → List (Option Hold)
each_held s holds [] = holds
each_held s holds (x ∷ xs) = each_held s (put None holds x (Some (held s (nth None holds x)))) xs

-- the holds after each of the objects is held once less
unfoldable pub each_unheld : List (Option Hold) → List ℕ → List (Option Hold)
each_unheld holds [] = holds
each_unheld holds (x ∷ xs) = each_unheld (put None holds x (unheld (nth None holds x))) xs

-- the writes are of objects that there are
unfoldable pub AreWithin : ℕ → List Write → Type 0
AreWithin objects [] = Unit {0}
AreWithin objects (w ∷ ws) = (w.obj < objects) × AreWithin objects ws
