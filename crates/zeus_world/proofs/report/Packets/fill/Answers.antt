use Rattle.std.proofs.Common.{◌<◌, length, get_or, add-one, ap, arith}
use Rattle.zeus_world.proofs.Numbering.{taken_more}
use Rattle.zeus_world.proofs.report.Packets.fill.Goals as goal

pub loop-place-preserved : goal.loop-place-preserved
loop-place-preserved c =
    let place = c.loop-place.place in
    let there : place < length c.args.sent.now = omega arith in
    let number = ap (λ numbers. get_or numbers place 0) c.numbers.ensures in
    let letter = rw c.letters.ensures at c.index-letters-place.is in
    record {
      packets = rw (c.push.ensures.packets, c.loop-place.invariant.packets, c.duplicate-letter.ensures, add-one) (taken_more c.args.sent.now place _ _ there number letter);
      room = omega arith;
    }
