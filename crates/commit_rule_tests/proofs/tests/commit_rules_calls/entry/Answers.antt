use Rattle.std.proofs.Common.{refl}
use Rattle.zeus_base.specs.Nodes.{with_node}
use Rattle.commit_rule_tests.proofs.tests.commit_rules_calls.entry.Goals as goal

pub returns : goal.returns
unfolding with_node
returns c = rw (c.insert.ensures, c.empty.ensures, c.push.ensures, c.new-writes.ensures) refl
