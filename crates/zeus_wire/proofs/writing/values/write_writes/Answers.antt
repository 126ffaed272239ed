use Rattle.std.proofs.Common.{drop, ◌+◌, arith, refl}
use Rattle.zeus_wire.proofs.Room.{at_write, at_end, first_fits, first_room, first_done, all_done}
use Rattle.zeus_wire.proofs.writing.values.write_writes.Goals as goal

pub write_write-requires-clause-fits : goal.write_write-requires-clause-fits
write_write-requires-clause-fits c =
    let here = at_write c.args.version c.args.writes.now c.loop-write.write-index c.write-item.result c.args.out.now c.loop-write.out c.loop-write-test.true c.write-item.is c.loop-write.invariant in
    first_fits c.args.version c.args.writes.now (drop (c.loop-write.write-index + 1) c.args.writes.now) c.write-item.result c.args.out.now c.loop-write.out here

pub write_write-requires-clause-room : goal.write_write-requires-clause-room
write_write-requires-clause-room c =
    let here = at_write c.args.version c.args.writes.now c.loop-write.write-index c.write-item.result c.args.out.now c.loop-write.out c.loop-write-test.true c.write-item.is c.loop-write.invariant in
    first_room c.args.version c.args.writes.now (drop (c.loop-write.write-index + 1) c.args.writes.now) c.write-item.result c.args.out.now c.loop-write.out here

pub loop-write-init : goal.loop-write-init
loop-write-init c = record { fits = c.requires.fits; bytes = refl; enough = c.requires.room; spent = omega arith; writes = λ are. are }

pub loop-write-preserved : goal.loop-write-preserved
loop-write-preserved c =
    let here = at_write c.args.version c.args.writes.now c.loop-write.write-index c.write-item.result c.args.out.now c.loop-write.out c.loop-write-test.true c.write-item.is c.loop-write.invariant in
    first_done c.args.version c.args.writes.now (drop (c.loop-write.write-index + 1) c.args.writes.now) c.write-item.result c.args.out.now c.loop-write.out c.write_write.new.out here c.write_write.ensures.bytes c.write_write.ensures.room c.write_write.ensures.write

pub returns-clause-bytes : goal.returns-clause-bytes
returns-clause-bytes c =
    (all_done c.args.version c.args.writes.now c.args.out.now c.loop-write.out (at_end c.args.version c.args.writes.now c.loop-write.write-index c.args.out.now c.loop-write.out c.loop-write-test.false c.loop-write.invariant)).0

pub returns-clause-room : goal.returns-clause-room
returns-clause-room c =
    (all_done c.args.version c.args.writes.now c.args.out.now c.loop-write.out (at_end c.args.version c.args.writes.now c.loop-write.write-index c.args.out.now c.loop-write.out c.loop-write-test.false c.loop-write.invariant)).1

pub returns-clause-writes : goal.returns-clause-writes
returns-clause-writes c =
    (all_done c.args.version c.args.writes.now c.args.out.now c.loop-write.out (at_end c.args.version c.args.writes.now c.loop-write.write-index c.args.out.now c.loop-write.out c.loop-write-test.false c.loop-write.invariant)).2
