use Rattle.std.proofs.Common.{arith}
use Rattle.zeus_base.specs.Tables.{nth}
use Rattle.object_table.specs.StartLaws.{start-version}
use Rattle.object_table.specs.Table.{CanHold}
use Rattle.commit_tests.proofs.tests.reliable_commit_calls.written.Goals as goal

pub write-requires-clause-room : goal.write-requires-clause-room
write-requires-clause-room c = rw (c.in_ok-copies.ensures.copies, start-version) (λ e. omega arith)

pub hold-requires-clause-room : goal.hold-requires-clause-room
unfolding CanHold nth
hold-requires-clause-room c = rw (c.write.ensures.holds, c.in_ok-copies.ensures.holds, c.requires) tt
