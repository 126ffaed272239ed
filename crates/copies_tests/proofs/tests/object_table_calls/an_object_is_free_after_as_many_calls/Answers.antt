use Rattle.std.proofs.Common.{refl, arith}
use Rattle.zeus_base.specs.Tables.{nth, put}
use Rattle.object_table.specs.Table.{CanHold, held, unheld}
use Rattle.copies_tests.proofs.tests.object_table_calls.an_object_is_free_after_as_many_calls.Goals as goal

pub hold-requires-clause-room : goal.hold-requires-clause-room
unfolding CanHold nth
hold-requires-clause-room d c = rw (c.in_ok-copies.ensures.holds, c.in_ok-config.ensures) tt

pub hold-requires-2-clause-room : goal.hold-requires-2-clause-room
unfolding CanHold held nth put
hold-requires-2-clause-room d c =
    rw (c.hold.ensures.holds, c.in_ok-copies.ensures.holds, c.in_ok-config.ensures) (refl, omega arith)

pub hold-requires-3-clause-room : goal.hold-requires-3-clause-room
unfolding CanHold held nth put
hold-requires-3-clause-room d c =
    rw (c.hold-2.ensures.holds, c.hold.ensures.holds, c.in_ok-copies.ensures.holds, c.in_ok-config.ensures) tt

pub hold-requires-4-clause-room : goal.hold-requires-4-clause-room
unfolding CanHold held unheld nth put
hold-requires-4-clause-room d c =
    rw (c.unhold-2.ensures.holds, c.unhold.ensures.holds, c.hold-3.ensures.holds, c.hold-2.ensures.holds, c.hold.ensures.holds, c.in_ok-copies.ensures.holds, c.in_ok-config.ensures) tt
