use Rattle.std.proofs.Common.{arith}
use Rattle.node_ranges.specs.NodeSets.{nodes_fit-below}
use Rattle.node_ranges.specs.Ranges.{limits_of}
use Rattle.tick_rule_tests.proofs.tests.tick_rules_calls.says_again_that_it_has_reported.Goals as goal

pub take_view-requires-clause-members : goal.take_view-requires-clause-members
take_view-requires-clause-members g c = rw c.below.ensures (nodes_fit-below (limits_of c.in_ok-node.node) 2 (omega arith))
