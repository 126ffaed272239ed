-- What is written and the text of the numbers that are left stay the text of all.
use Rattle.std.proofs.Common.{◌≡◌, ◌++◌, drop, map, decimal}
use Rattle.zeus_model.specs.Spelling.{spaced}
use Rattle.zeus_lease.proofs.print.write_ticks.Given as goal

abbrev pub invariant-loop-tick : goal.invariant-loop-tick
invariant-loop-tick l = l.out.items ++ spaced (map decimal (drop l.tick-index l.ticks)) ≡ l.fn.out.items ++ spaced (map decimal l.ticks)
