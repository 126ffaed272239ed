use Rattle.zeus_base.specs.declared.order.Stream.{Stream}
use Rattle.follower_log.specs.Streams.{IsStreamOf}
use Rattle.follower_tests.proofs.tests.follower_log_calls.first_other.Given as goal

-- the streams that there were
abbrev pub invariant-loop-call : goal.invariant-loop-call
invariant-loop-call g l = (t : Stream) → IsStreamOf l.fn.logs t → IsStreamOf l.logs t
