use Rattle.tick_rule_tests.proofs.TickStart.{proposal-fits}
use Rattle.tick_rule_tests.proofs.tests.tick_rules_calls.proposal.Goals as goal

pub returns : goal.returns
returns c = λ limits two. rw c.below.ensures (proposal-fits limits two)
