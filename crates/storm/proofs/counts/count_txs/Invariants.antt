use Rattle.std.proofs.Common.{◌≡◌}
use Rattle.storm.specs.Counts.{counted}
use Rattle.storm.proofs.counts.count_txs.Given as goal

abbrev pub invariant-loop-id : goal.invariant-loop-id
invariant-loop-id l = l.counts ≡ counted l.world l.id
