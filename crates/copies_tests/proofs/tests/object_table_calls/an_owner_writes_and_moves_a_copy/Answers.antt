use Rattle.std.proofs.Common.{arith}
use Rattle.object_table.specs.StartLaws.{start-version}
use Rattle.copies_tests.proofs.tests.object_table_calls.an_owner_writes_and_moves_a_copy.Goals as goal

pub write-requires-clause-room : goal.write-requires-clause-room
write-requires-clause-room d c = rw (c.in_ok-copies.ensures.copies, start-version) (λ e. omega arith)
