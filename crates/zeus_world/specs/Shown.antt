-- The world that a run holds.
use Rattle.std.specs.Prelude.{◌≡◌}
use Rattle.zeus_model.specs.World.{World}
use Rattle.history_book.specs.Books.{BookState}
use Rattle.lossy_fabric.specs.Links.{letters}
use Rattle.reached_worlds.specs.Reached.{IsReached}
use Rattle.zeus_world.specs.declared.world.World.TheInside.{Inside}

-- the world that a run's fields show
abbrev pub shown : Inside → World
shown w =
    record {
      config = w.config.now;
      txs = w.txs.now;
      nodes = w.nodes.items;
      links = letters w.links;
      views = w.views;
      book = w.book.book;
    }

-- some steps lead to the world, and the book is one of its configuration
pub record IsKept (w : World) (b : BookState) : Type 0 where
  pub reached : IsReached w
  pub nodes : b.nodes ≡ w.config.nodes
  pub slots : b.slots ≡ w.config.slots
