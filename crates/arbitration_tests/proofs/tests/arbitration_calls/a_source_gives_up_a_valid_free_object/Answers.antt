use Rattle.zeus_base.specs.Tables.{nth}
use Rattle.object_table.specs.Table.{CanHold}
use Rattle.arbitration_tests.proofs.tests.arbitration_calls.a_source_gives_up_a_valid_free_object.Goals as goal

pub hold-requires-clause-room : goal.hold-requires-clause-room
unfolding CanHold nth
hold-requires-clause-room g c = rw (c.apply.ensures.holds, c.in_ok-copies.ensures.holds, c.in_ok-config.ensures) tt
