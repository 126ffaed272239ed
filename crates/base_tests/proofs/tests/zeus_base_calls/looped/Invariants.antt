use Rattle.std.proofs.Common.{◌≡◌, ◌++◌}
use Rattle.base_tests.proofs.tests.zeus_base_calls.looped.Given as goal

abbrev pub invariant-loop-node : goal.invariant-loop-node
invariant-loop-node l = l.all.items ++ l.node-iterator ≡ l.fn.set
