use Rattle.std.proofs.Common.{arith}
use Rattle.zeus_base.specs.Tables.{nth}
use Rattle.object_table.specs.Table.{CanHold}
use Rattle.object_table.specs.HeldLaws.{named-beside, named-free}
use Rattle.local_tests.proofs.tests.local_txn_calls.an_object_that_another_slot_holds_is_not_written.Goals as goal

pub hold-requires-clause-room : goal.hold-requires-clause-room
unfolding CanHold nth
hold-requires-clause-room d c = rw (c.in_ok-tables.ensures.holds) tt

pub attempt-requires-clause-named : goal.attempt-requires-clause-named
attempt-requires-clause-named d c =
    rw (c.hold.ensures.holds, c.in_ok-tables.ensures.holds) (named-beside 1 0 _ 1 _ (λ e. omega arith) (named-free 0 3 _))
