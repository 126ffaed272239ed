use Rattle.commit_rule_tests.proofs.CommitStart.{first_entry-fits}
use Rattle.commit_rule_tests.proofs.tests.commit_rules_calls.a_follower_stores_an_entry_and_acknowledges_it.Goals as goal

pub on_rinv-outcome-requires-clause-fits : goal.on_rinv-outcome-requires-clause-fits
on_rinv-outcome-requires-clause-fits g c = rw c.entry-first.ensures (first_entry-fits _ c.in_ok-node.ensures)
