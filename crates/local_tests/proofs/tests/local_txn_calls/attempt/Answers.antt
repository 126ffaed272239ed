use Rattle.std.proofs.Common.{◌∙◌}
use Rattle.local_tests.proofs.tests.local_txn_calls.attempt.Goals as goal

pub returns-clause-copies : goal.returns-clause-copies
returns-clause-copies c = c.try_write.ensures.does.objects ∙ c.requires.copies

pub returns-clause-named : goal.returns-clause-named
returns-clause-named c = c.try_write.ensures.does.named
