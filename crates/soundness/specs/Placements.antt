-- One latest placement for each object, and copies just where it places them.
use Rattle.std.specs.Prelude.{ℕ, ◌≡◌, ◌<◌, true, false, length, Some, is_some, ◌↔◌}
use Rattle.zeus_base.specs.Nodes.{has}
use Rattle.zeus_base.specs.Order.{is_below}
use Rattle.zeus_model.specs.declared.state.Copy.{Copy}
use Rattle.zeus_model.specs.Sound.{IsLive, IsUpToDate, latest_entry, latest_place, left}
use Rattle.zeus_model.specs.State.{copy, entry}
use Rattle.zeus_model.specs.World.{World, node}

-- two nodes have settled the object at the same stamp and the same placement
pub record AgreeOn (w : World) (x a b : ℕ) : Type 0 where
  pub stamp : (entry (node w a) x).stamp ≡ (entry (node w b) x).stamp
  pub place : (entry (node w a) x).place ≡ (entry (node w b) x).place

-- the latest placement of the object is the only one that is settled at the greatest stamp
pub record IsLatest (w : World) (x : ℕ) : Type 0 where
  -- no node has settled a greater stamp
  pub greatest : (n : ℕ) → n < w.config.nodes → is_below (latest_entry w x).stamp (entry (node w n) x).stamp ≡ false
  -- some node has settled it
  pub settled : (n : ℕ) × (n < w.config.nodes) × (entry (node w n) x ≡ latest_entry w x)
  -- whoever has settled the object at this stamp has settled this placement
  pub one : (n : ℕ) → n < w.config.nodes → (entry (node w n) x).stamp ≡ (latest_entry w x).stamp → (entry (node w n) x).place ≡ latest_place w x

-- where the objects of a world are
pub record IsPlaced (w : World) : Type 0 where
  -- nodes that have settled an object at one version have settled the same stamp and the same placement
  pub one_placement : (x a b : ℕ) → x < length w.config.objects → a < w.config.nodes → b < w.config.nodes
      → (entry (node w a) x).stamp.ver ≡ (entry (node w b) x).stamp.ver → AgreeOn w x a b
  -- each object has one latest placement
  pub latest : (x : ℕ) → x < length w.config.objects → IsLatest w x
  -- the live nodes that have a copy are exactly the live nodes of the latest placement
  pub copies_where_placed : (x n : ℕ) → x < length w.config.objects → IsLive w n → (is_some (copy (node w n) x) ≡ true) ↔ (has n (latest_place w x).replicas ≡ true)
  -- each copy of a live node is up to date
  pub live_copies : (x n : ℕ) (c : Copy) → x < length w.config.objects → IsLive w n → copy (node w n) x ≡ Some c → IsUpToDate c (left w x)
