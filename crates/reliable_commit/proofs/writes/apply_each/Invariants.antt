use Rattle.std.proofs.Common.{◌≡◌, length, drop}
use Rattle.zeus_model.specs.Commit.{applied, each_write}
use Rattle.reliable_commit.proofs.writes.apply_each.Given as goal

-- the writes that are left have the same end
abbrev pub invariant-loop-write : goal.invariant-loop-write
invariant-loop-write l = record {
  same : each_write applied l.copies.copies (drop l.write-index l.writes) ≡ each_write applied l.initial.copies.copies l.writes;
  holds : l.copies.holds ≡ l.initial.copies.holds;
  objects : length l.copies.copies ≡ length l.initial.copies.copies;
}
