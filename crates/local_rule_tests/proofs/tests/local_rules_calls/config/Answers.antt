use Rattle.zeus_base.specs.Nodes.{with_node}
use Rattle.local_rule_tests.proofs.LocalStart.{two_nodes-limits}
use Rattle.local_rule_tests.proofs.tests.local_rules_calls.config.Goals as goal

pub returns-clause-limits : goal.returns-clause-limits
unfolding with_node
returns-clause-limits c =
    rw (c.from_vec.ensures, c.in_ok-vec.ensures.items, c.insert.ensures, c.insert-zero.ensures, c.empty.ensures) (two_nodes-limits c.args.degree c.requires)
