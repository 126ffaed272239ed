use Rattle.std.proofs.Common.{◌≡◌, drop, length}
use Rattle.zeus_model.specs.Commit.{each_write}
use Rattle.zeus_model.specs.Local.{rewritten_copy}
use Rattle.local_txn.specs.Tries.{AreNext}
use Rattle.local_txn.proofs.commit.write_each.Given as goal

-- the writes that are left have the same end
abbrev pub invariant-loop-write : goal.invariant-loop-write
invariant-loop-write l = record {
  same :
      each_write rewritten_copy l.copies.copies (drop l.write-index l.writes)
      ≡ each_write rewritten_copy l.initial.copies.copies l.writes;
  next : AreNext l.copies.copies (drop l.write-index l.writes);
  holds : l.copies.holds ≡ l.initial.copies.holds;
  objects : length l.copies.copies ≡ length l.initial.copies.copies;
}
