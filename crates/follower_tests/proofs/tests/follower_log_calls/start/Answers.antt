use Rattle.follower_log.specs.StreamLaws.{IsStreamOf-start}
use Rattle.follower_tests.proofs.tests.follower_log_calls.start.Goals as goal

pub returns : goal.returns
returns g c = λ s h k. rw c.in_ok-logs.ensures (IsStreamOf-start _ _ s h k)
