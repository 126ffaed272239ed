use Rattle.std.proofs.Common.{◌≤◌, length, take, arith}
use Rattle.zeus_io.proofs.Bytes.{fill_front}
use Rattle.zeus_io.proofs.planned.MemSourceSource.read.Goals as goal

-- what is moved is no longer than the part of the buffer that is lent
pub returns-clause-filled : goal.returns-clause-filled
returns-clause-filled c =
    let within : c.give.result ≤ length (take c.min-most.result c.args.buf.now) = omega arith in
    rw (← c.self.view_is) (fill_front _ _ _ _ _ c.give.ensures.filled within)
