use Rattle.std.proofs.Common.{◌≡◌, length}
use Rattle.ring_tests.proofs.tests.count_in.Given as goal

abbrev pub invariant-loop : goal.invariant-loop
invariant-loop g l = l.next ≡ length l.out.put
