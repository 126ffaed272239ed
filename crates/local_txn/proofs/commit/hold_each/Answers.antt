use Rattle.std.proofs.Common.{◌∙◌}
use Rattle.local_txn.proofs.Committing.{each_held-end, each_held-step, hold_here}
use Rattle.local_txn.proofs.commit.hold_each.Goals as goal

pub hold-requires-clause-place : goal.hold-requires-clause-place
hold-requires-clause-place c =
    let list = c.as_slice-object-items.ensures.list in
    let here = rw list at c.loop-object-test.true in
    let is = rw list at c.object-item.is in
    (hold_here _ _ _ c.args.objects.now c.loop-object.object-index _ here is c.loop-object.invariant.can).0

pub hold-requires-clause-room : goal.hold-requires-clause-room
hold-requires-clause-room c =
    let list = c.as_slice-object-items.ensures.list in
    let here = rw list at c.loop-object-test.true in
    let is = rw list at c.object-item.is in
    (hold_here _ _ _ c.args.objects.now c.loop-object.object-index _ here is c.loop-object.invariant.can).1.0

pub loop-object-preserved : goal.loop-object-preserved
loop-object-preserved c =
    let list = c.as_slice-object-items.ensures.list in
    let here = rw list at c.loop-object-test.true in
    let is = rw list at c.object-item.is in
    let can = hold_here _ _ _ c.args.objects.now c.loop-object.object-index _ here is c.loop-object.invariant.can in
    record {
      same = rw c.hold.ensures.holds (each_held-step _ _ c.args.objects.now _ _ here is ∙ c.loop-object.invariant.same);
      can = rw (c.hold.ensures.holds, c.hold.ensures.copies) can.1.1;
      copies = c.hold.ensures.copies ∙ c.loop-object.invariant.copies;
    }

pub returns-clause-holds : goal.returns-clause-holds
returns-clause-holds c =
    let past = rw c.as_slice-object-items.ensures.list at c.loop-object-test.false in
    each_held-end _ _ c.args.objects.now _ past ∙ c.loop-object.invariant.same
