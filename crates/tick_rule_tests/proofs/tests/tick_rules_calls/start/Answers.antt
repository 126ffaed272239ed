use Rattle.std.proofs.Common.{length, ap, ◌∙◌}
use Rattle.zeus_model.specs.State.{Node}
use Rattle.tick_rule_tests.proofs.TickStart.{start-entries, start-logs}
use Rattle.tick_rule_tests.proofs.tests.tick_rules_calls.start.Goals as goal

pub returns-clause-nodes : goal.returns-clause-nodes
returns-clause-nodes c = ap (λ (n : Node). length n.logs) c.in_ok-new.ensures ∙ start-logs _ c.args.me ∙ c.in_ok-config.ensures.nodes

pub returns-clause-objects : goal.returns-clause-objects
returns-clause-objects c = ap (λ (n : Node). length n.entries) c.in_ok-new.ensures ∙ start-entries _ c.args.me ∙ c.in_ok-config.ensures.objects
