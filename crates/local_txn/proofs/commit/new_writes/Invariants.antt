use Rattle.std.proofs.Common.{◌≡◌, [], length, take}
use Rattle.zeus_model.specs.Local.{new_writes}
use Rattle.local_txn.specs.Tries.{node_of}
use Rattle.local_txn.proofs.commit.new_writes.Given as goal

abbrev pub invariant-loop-place : goal.invariant-loop-place
invariant-loop-place l = record {
  items : l.writes ≡ new_writes (node_of 0 [] l.copies.copies) (take l.place l.values);
  size : length l.writes ≡ l.place;
}
