-- The history run one after another.
use Rattle.std.specs.Prelude.{ℕ, ◌≤◌, ◌*◌, List, None, length}
use Rattle.zeus_txn.specs.Map.{content}
use Rattle.zeus_txn.specs.declared.map.Versioned.{Versioned}
use Rattle.zeus_txn.specs.declared.ops.Op.{Op}
use Rattle.zeus_model.specs.Book.{Point, reply_or}
use Rattle.zeus_model.specs.Tables.{nth}
use Rattle.zeus_model.specs.World.{World, tx_decl}

-- the point that stands for none
abbrev pub no_point : Point
no_point = record { id = 0; reply = reply_or None }

-- the operations of the point at a place of the history
unfoldable pub ops_at : World → ℕ → List Op
ops_at w place = (tx_decl w (nth no_point w.book.points place).id).tx

-- the map has all objects, and their versions are as so many transactions can make them
pub record HasVersions (objects count : ℕ) (map : List Versioned) : Type 0 where
  pub size : objects ≤ length map
  pub few : (x : ℕ) → (content map x).ver ≤ 8 * count
