use Rattle.std.proofs.Common.{◌≡◌, Err, Ok, arith}
use Rattle.std.proofs.lemmas.Result.{err_from_is_err_and}
use Rattle.std.proofs.lemmas.List.{length_push}
use Rattle.zeus_wire.specs.Reading.{write_at}
use Rattle.zeus_wire.proofs.WriteLists.{goes_on, ends, is_done}
use Rattle.zeus_wire.proofs.reading.values.read_writes.Goals as goal

pub returns-in_err-write : goal.returns-in_err-write
returns-in_err-write c =
    let p = err_from_is_err_and c.from_residual.result c.from_residual.ensures.1 in
    let fault : write_at c.args.limits c.loop.writes c.loop.input ≡ Err c.in_err-write.field-0.0 = rw c.as_slice.ensures at c.in_err-write.ensures in
    rw (p.1, p.2) (ends c.args.limits c.args.count c.loop.counter c.loop.writes c.loop.input c.in_err-write.field-0.0 _ c.loop-test.true fault c.loop.invariant.1)

pub loop-preserved : goal.loop-preserved
loop-preserved c =
    let read : write_at c.args.limits c.loop.writes c.loop.input ≡ Ok (c.in_ok-write.write, c.read_write.new.input) = rw c.as_slice.ensures at c.in_ok-write.ensures in
    rw c.push.ensures (omega (arith, c.loop.invariant.0, length_push c.loop.writes c.in_ok-write.write), goes_on c.args.limits c.args.count c.loop.counter c.loop.writes c.loop.input c.in_ok-write.write c.read_write.new.input _ c.loop-test.true read c.loop.invariant.1)

pub returns : goal.returns
returns c = is_done c.args.limits c.args.count c.loop.counter c.loop.writes c.loop.input _ c.loop-test.false c.loop.invariant.1
