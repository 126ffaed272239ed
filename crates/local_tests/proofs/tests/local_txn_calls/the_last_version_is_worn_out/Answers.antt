use Rattle.object_table.specs.HeldLaws.{named-free}
use Rattle.local_tests.proofs.tests.local_txn_calls.the_last_version_is_worn_out.Goals as goal

pub attempt-requires-clause-named : goal.attempt-requires-clause-named
attempt-requires-clause-named d c =
    rw (c.place_copy.ensures.holds, c.in_ok-tables.ensures.holds) (named-free 0 3 _)
