-- The ranges of a storm's numbers.
use Rattle.std.specs.Prelude.{◌≤◌, ◌<◌, ◌^◌}
use Rattle.storm.specs.declared.numbers.StormNumbers.{StormNumbers}

-- 1 to 8 nodes and slots, 1 to 256 objects, at most 10,000 transactions and 50,000 steps, a loss of at most 100 in a hundred,
-- and at most 7 stops; the words begin anywhere
pub record AreInRange (n : StormNumbers) : Type 0 where
  pub nodes : (1 ≤ n.nodes) × (n.nodes ≤ 8)
  pub slots : (1 ≤ n.slots) × (n.slots ≤ 8)
  pub objects : (1 ≤ n.objects) × (n.objects ≤ 256)
  pub txs : n.txs ≤ 10000
  pub steps : n.steps ≤ 50000
  pub loss : n.loss ≤ 100
  pub stops : n.stops ≤ 7
  pub start : n.start < 2 ^ 64
