use Rattle.std.proofs.Common.{◌≡◌, drop}
use Rattle.object_table.specs.Table.{each_unheld}
use Rattle.reliable_commit.proofs.writes.unhold_each.Given as goal

-- the objects that are left have the same end
abbrev pub invariant-loop-object : goal.invariant-loop-object
invariant-loop-object l = record {
  same : each_unheld l.copies.holds (drop l.object-index l.objects) ≡ each_unheld l.initial.copies.holds l.objects;
  copies : l.copies.copies ≡ l.initial.copies.copies;
}
