use Rattle.std.proofs.Common.{refl, ◌∙◌}
use Rattle.zeus_base.specs.Tables.{numbers_from}
use Rattle.commit_rule_tests.proofs.CommitStart.{two_nodes-fit}
use Rattle.commit_rule_tests.proofs.tests.commit_rules_calls.a_node_with_nothing_to_replay_reports_in_a_new_view.Goals as goal

pub take_view-requires-clause-members : goal.take_view-requires-clause-members
unfolding numbers_from
take_view-requires-clause-members g c = two_nodes-fit _ _ c.in_ok-node.ensures (c.below.ensures ∙ refl)
