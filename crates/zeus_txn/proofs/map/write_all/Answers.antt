use Rattle.std.proofs.Common.{◌≡◌, ◌+◌, drop, arith}
use Rattle.zeus_base.specs.Tables.{put}
use Rattle.zeus_txn.specs.declared.map.Versioned.{Versioned}
use Rattle.zeus_txn.specs.Map.{no_content, content, written_map}
use Rattle.zeus_txn.specs.MapLaws.{CanWrite, CanWrite-put}
use Rattle.zeus_txn.proofs.Rests.{drop-here, drop-end}
use Rattle.zeus_txn.proofs.map.write_all.Goals as goal

pub loop-write-preserved : goal.loop-write-preserved
unfolding written_map CanWrite
loop-write-preserved c =
    let rest = drop-here c.args.writes.now c.loop-write.write-index c.write-item.result c.loop-write-test.true c.write-item.is in
    let can = rw rest at c.loop-write.invariant.can in
    let written = rw rest at c.loop-write.invariant.written in
    let w = c.write-item.result in
    let next : Versioned = record { ver = (content c.loop-write.items w.0).ver + 1; value = w.1 } in
    let put_here : c.rewrite.new.items ≡ put no_content c.loop-write.items w.0 next = c.rewrite.ensures in
    record {
      written = rw put_here written;
      can = rw put_here (CanWrite-put c.loop-write.items w.0 next (drop (c.loop-write.write-index + 1) c.args.writes.now) can.0 can.2 can.3);
    }

pub rewrite-requires-clause-object : goal.rewrite-requires-clause-object
unfolding CanWrite
rewrite-requires-clause-object c =
    let can = rw (drop-here c.args.writes.now c.loop-write.write-index c.write-item.result c.loop-write-test.true c.write-item.is) at c.loop-write.invariant.can in
    can.0

pub rewrite-requires-clause-version : goal.rewrite-requires-clause-version
unfolding CanWrite
rewrite-requires-clause-version c =
    let can = rw (drop-here c.args.writes.now c.loop-write.write-index c.write-item.result c.loop-write-test.true c.write-item.is) at c.loop-write.invariant.can in
    can.1

pub returns : goal.returns
unfolding written_map
returns c =
    let none = drop-end c.args.writes.now c.loop-write.write-index (omega arith) in
    rw none at c.loop-write.invariant.written
