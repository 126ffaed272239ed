use Rattle.std.proofs.Common.{[]}
use Rattle.object_table.specs.EntryLaws.{within-none, within-push}
use Rattle.commit_tests.proofs.tests.reliable_commit_calls.pipe.Goals as goal

pub returns-in-Ok : goal.returns-in-Ok
returns-in-Ok c =
    rw (c.in-Ok.ensures.after, c.in_ok-pipe.ensures) (within-push 1 [] c.pending.result (within-none 1) c.pending.ensures)
