use Rattle.commit_rule_tests.proofs.CommitStart.{start-limits}
use Rattle.commit_rule_tests.proofs.tests.commit_rules_calls.start.Goals as goal

pub returns : goal.returns
returns c =
    start-limits c.in_ok-config.config c.args.me _ c.in_ok-config.ensures.limits (rw c.in_ok-config.ensures.nodes c.requires) c.in_ok-config.ensures.nodes c.in_ok-config.ensures.slots c.in_ok-config.ensures.objects c.in_ok-new.ensures
