-- The objects that the slots of a node hold, by their pending entries.
use Rattle.std.specs.Prelude.{ℕ, ◌≡◌, ◌≤◌, ◌==◌, List, [], ◌∷◌, Option, Some, None, if◌then◌else◌}
use Rattle.zeus_txn.specs.RunLaws.{AreDistinct}
use Rattle.zeus_model.specs.declared.state.Pending.{Pending}
use Rattle.zeus_model.specs.State.{Node, slot}
use Rattle.zeus_model.specs.Tables.{nth}
use Rattle.object_table.specs.declared.hold.Hold.{Hold}
use Rattle.object_table.specs.Entries.{naming}

-- how often the slot holds an object: never where it is free or another slot holds it
unfoldable pub held_times : ℕ → Option Hold → ℕ
held_times s None = 0
held_times s (Some h) = if h.slot == s then h.count else 0

-- an object that is held is held at least once
unfoldable pub IsPositive : Option Hold → Type 0
IsPositive None = Unit {0}
IsPositive (Some h) = 1 ≤ h.count

-- no other slot holds the object
unfoldable pub IsFreeFor : ℕ → Option Hold → Type 0
IsFreeFor s None = Unit {0}
IsFreeFor s (Some h) = h.slot ≡ s

-- no entry names an object twice
unfoldable pub NameOnce : List Pending → Type 0
NameOnce [] = Unit {0}
NameOnce (p ∷ ps) = AreDistinct p.named × NameOnce ps

-- each slot of the node holds an object once for each of its pending entries that names it, which does so once
pub record AreHeld (n : Node) (holds : List (Option Hold)) : Type 0 where
  pub counts : (s x : ℕ) → naming x (slot n s).pending ≡ held_times s (nth None holds x)
  pub positive : (x : ℕ) → IsPositive (nth None holds x)
  pub once : (s : ℕ) → NameOnce (slot n s).pending
