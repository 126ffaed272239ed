use Rattle.std.proofs.Common.{◌≡◌, ◌≤◌, length}
use Rattle.ring_tests.proofs.tests.count_out.Given as goal

abbrev pub invariant-loop : goal.invariant-loop
invariant-loop g l = record { seen : l.seen ≡ length l.taker.taken; within : l.seen ≤ l.count }
