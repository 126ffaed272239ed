use Rattle.std.proofs.Common.{◌≡◌}
use Rattle.zeus_base.specs.Tables.{below}
use Rattle.zeus_base.proofs.node_set.NodeSet.below.Given as goal

abbrev pub invariant-loop-node : goal.invariant-loop-node
invariant-loop-node l = l.nodes ≡ below l.node
