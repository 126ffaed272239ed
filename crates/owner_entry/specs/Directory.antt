-- What a node knows of who owns and keeps each object.
use Rattle.std.specs.Prelude.{ℕ, List, Option}
use Rattle.zeus_model.specs.declared.state.Entry.{Entry}

-- the nodes of the directory, the degree (how many member replicas a reader leaves behind; none: no reader leaves), and
-- the entries by object
pub record Directory : Type 0 where
  pub nodes : List ℕ
  pub degree : Option ℕ
  pub entries : List Entry
