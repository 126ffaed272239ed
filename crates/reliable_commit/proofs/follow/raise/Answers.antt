use Rattle.std.proofs.Common.{arith}
use Rattle.reliable_commit.proofs.Raising.{raised_copies-low, raised_logs-low}
use Rattle.reliable_commit.proofs.follow.raise.Goals as goal

pub returns-else-done-clause-copies : goal.returns-else-done-clause-copies
returns-else-done-clause-copies c = raised_copies-low _ _ _ (omega (arith, c.done.ensures.passed, c.if-done.false))

pub returns-else-done-clause-logs : goal.returns-else-done-clause-logs
returns-else-done-clause-logs c = raised_logs-low _ c.args.s.now _ (omega (arith, c.done.ensures.passed, c.if-done.false))
