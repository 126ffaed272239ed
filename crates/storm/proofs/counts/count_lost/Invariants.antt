use Rattle.std.proofs.Common.{◌≡◌}
use Rattle.zeus_model.specs.Readers.{is_lost}
use Rattle.storm.specs.Counts.{count}
use Rattle.storm.proofs.counts.count_lost.Given as goal

abbrev pub invariant-loop-obj : goal.invariant-loop-obj
invariant-loop-obj l = l.lost ≡ count (is_lost l.world) l.obj
