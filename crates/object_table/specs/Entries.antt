-- What pending entries write and name.
use Rattle.std.specs.Prelude.{ℕ, ◌≡◌, ◌+◌, ◌<◌, ◌≤◌, List, [], ◌∷◌, ◌++◌, All, Option, Some, None, if◌then◌else◌}
use Rattle.zeus_txn.specs.Ops.{mentions}
use Rattle.zeus_model.specs.declared.state.Pending.{Pending}
use Rattle.zeus_model.specs.Tables.{nth}
use Rattle.object_table.specs.declared.hold.Hold.{Hold}
use Rattle.object_table.specs.Table.{AreWithin, hold_count, hold_slot}

-- each object that the entry writes or names is one that there is
pub record IsWithin (objects : ℕ) (p : Pending) : Type 0 where
  pub writes : AreWithin objects p.writes
  pub named : All (λ x. x < objects) p.named

-- so is each of the entries
unfoldable pub AreEntriesWithin : ℕ → List Pending → Type 0
AreEntriesWithin objects [] = Unit {0}
AreEntriesWithin objects (p ∷ ps) = IsWithin objects p × AreEntriesWithin objects ps

-- the objects that the entries name, in order
unfoldable pub named_of : List Pending → List ℕ
named_of [] = []
named_of (p ∷ ps) = p.named ++ named_of ps

-- how many of the entries name the object
unfoldable pub naming : ℕ → List Pending → ℕ
naming x [] = 0
naming x (p ∷ ps) = (if mentions x p.named then 1 else 0) + naming x ps

-- the slot holds no object more often than entries name it
abbrev pub AreNamed : ℕ → List (Option Hold) → List Pending → Type 0
AreNamed s holds ps = (x : ℕ) → hold_slot (nth None holds x) ≡ Some s → hold_count (nth None holds x) ≤ naming x ps
