use Rattle.object_table.specs.HeldLaws.{named-free}
use Rattle.local_tests.proofs.tests.local_txn_calls.an_owner_commits_until_another_slot_holds.Goals as goal

pub attempt-requires-clause-named : goal.attempt-requires-clause-named
attempt-requires-clause-named d c = rw (c.in_ok-tables.ensures.holds) (named-free 0 3 _)
