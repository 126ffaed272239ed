use Rattle.std.proofs.Common.{◌≡◌, drop, length}
use Rattle.object_table.specs.Table.{each_held}
use Rattle.local_txn.specs.Tries.{CanHoldEach}
use Rattle.local_txn.proofs.commit.hold_each.Given as goal

-- the objects that are left have the same end
abbrev pub invariant-loop-object : goal.invariant-loop-object
invariant-loop-object l = record {
  same : each_held l.slot l.copies.holds (drop l.object-index l.objects) ≡ each_held l.slot l.initial.copies.holds l.objects;
  can : CanHoldEach l.slot (length l.copies.copies) l.copies.holds (drop l.object-index l.objects);
  copies : l.copies.copies ≡ l.initial.copies.copies;
}
