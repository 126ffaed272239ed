-- So many are settled as the loop has come to.
use Rattle.std.proofs.Common.{◌≡◌}
use Rattle.random_schedule.specs.Ready.{AreSettled}
use Rattle.random_schedule.proofs.closing.skip_settled.Given as goal

abbrev pub invariant-loop-id : goal.invariant-loop-id
invariant-loop-id l = AreSettled l.world l.settled × (l.settled ≡ l.id)
