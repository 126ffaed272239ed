use Rattle.commit_tests.proofs.StreamStart.{start_if}
use Rattle.commit_tests.proofs.tests.reliable_commit_calls.no_streams.Goals as goal

pub returns : goal.returns
returns c = start_if c.new.result (rw (c.requires.nodes, c.requires.slots) at c.new.ensures)
