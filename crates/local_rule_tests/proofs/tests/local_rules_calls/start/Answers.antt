use Rattle.std.proofs.Common.{length, ap, ◌∙◌}
use Rattle.zeus_model.specs.State.{Node}
use Rattle.local_rule_tests.proofs.StartSizes.{start-entries, start-slots}
use Rattle.local_rule_tests.proofs.tests.local_rules_calls.start.Goals as goal

pub returns-clause-slots : goal.returns-clause-slots
returns-clause-slots c = ap (λ (n : Node). length n.slots) c.in_ok-new.ensures ∙ start-slots _ c.args.me ∙ c.in_ok-config.ensures.slots

pub returns-clause-objects : goal.returns-clause-objects
returns-clause-objects c = ap (λ (n : Node). length n.entries) c.in_ok-new.ensures ∙ start-entries _ c.args.me ∙ c.in_ok-config.ensures.objects
