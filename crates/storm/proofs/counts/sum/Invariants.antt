use Rattle.std.proofs.Common.{◌≡◌, ◌%◌, ◌^◌}
use Rattle.storm.specs.Counts.{summed}
use Rattle.storm.proofs.counts.sum.Given as goal

abbrev pub invariant-loop-obj : goal.invariant-loop-obj
invariant-loop-obj l = l.sum ≡ summed l.map l.obj % 2 ^ 64
