-- What the membership service knows of a world.
use Rattle.std.specs.Prelude.{ℕ, true, ◌≡◌, ◌<◌, ◌^◌, List, length}
use Rattle.zeus_base.specs.Nodes.{has}
use Rattle.zeus_model.specs.World.{World, last_view, node}

-- there is a view, and each epoch has a number of 32 bits
pub record AreViews (views : List (List ℕ)) : Type 0 where
  pub some : 0 < length views
  pub few : length views < 2 ^ 32

-- a world that has these views, and in which just those nodes of the last view have stopped that are in the set
pub record IsWorldWith (w : World) (made : List (List ℕ)) (stopped : List ℕ) : Type 0 where
  pub views : w.views ≡ made
  pub stops : (n : ℕ) → has n (last_view made) ≡ true → (node w n).stopped ≡ has n stopped
