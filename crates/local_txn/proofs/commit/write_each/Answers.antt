use Rattle.std.proofs.Common.{◌∙◌}
use Rattle.local_txn.proofs.Committing.{each_write-end, each_write-step, next_here, written_is}
use Rattle.local_txn.proofs.commit.write_each.Goals as goal

pub write-requires-clause-place : goal.write-requires-clause-place
write-requires-clause-place c =
    let list = c.as_slice-write-items.ensures in
    let here = rw list at c.loop-write-test.true in
    let is = rw list at c.write-item.is in
    (next_here c.loop-write.copies.copies c.args.writes.now c.loop-write.write-index c.write-item.result here is c.loop-write.invariant.next).0.within

pub write-requires-clause-room : goal.write-requires-clause-room
write-requires-clause-room c =
    let list = c.as_slice-write-items.ensures in
    let here = rw list at c.loop-write-test.true in
    let is = rw list at c.write-item.is in
    (next_here c.loop-write.copies.copies c.args.writes.now c.loop-write.write-index c.write-item.result here is c.loop-write.invariant.next).0.rises

pub loop-write-preserved : goal.loop-write-preserved
loop-write-preserved c =
    let list = c.as_slice-write-items.ensures in
    let here = rw list at c.loop-write-test.true in
    let is = rw list at c.write-item.is in
    let next = next_here c.loop-write.copies.copies c.args.writes.now c.loop-write.write-index c.write-item.result here is c.loop-write.invariant.next in
    let written = written_is c.loop-write.copies.copies _ c.write-item.result next.0 c.write.ensures.copies in
    record {
      same = rw written (each_write-step c.loop-write.copies.copies c.args.writes.now _ _ here is ∙ c.loop-write.invariant.same);
      next = rw written next.1;
      holds = c.write.ensures.holds ∙ c.loop-write.invariant.holds;
      objects = c.write.ensures.objects ∙ c.loop-write.invariant.objects;
    }

pub returns-clause-copies : goal.returns-clause-copies
returns-clause-copies c =
    let past = rw c.as_slice-write-items.ensures at c.loop-write-test.false in
    each_write-end c.loop-write.copies.copies c.args.writes.now _ past ∙ c.loop-write.invariant.same
