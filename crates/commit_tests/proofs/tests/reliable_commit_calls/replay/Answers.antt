use Rattle.std.proofs.Common.{◌∙◌}
use Rattle.commit_tests.proofs.tests.reliable_commit_calls.replay.Goals as goal

pub returns-clause-followed : goal.returns-clause-followed
returns-clause-followed c =
    rw c.requires.objects at (c.advance_kept.ensures.does.streams (record { node = 0; slot = 0 }) (rw c.requires.objects c.requires.followed))

pub returns-clause-objects : goal.returns-clause-objects
returns-clause-objects c = c.advance_kept.ensures.does.objects ∙ c.requires.objects
