use Rattle.std.proofs.Common.{arith}
use Rattle.node_ranges.specs.Ranges.{limits_of}
use Rattle.tick_rule_tests.proofs.tests.tick_rules_calls.drives_a_held_proposal_again.Goals as goal

pub hold-requires-clause-proposal : goal.hold-requires-clause-proposal
hold-requires-clause-proposal g c = c.proposal.ensures (limits_of c.in_ok-node.node) (omega arith)
