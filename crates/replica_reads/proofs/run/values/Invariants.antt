use Rattle.std.proofs.Common.{None, ◌≡◌, length, map, take}
use Rattle.zeus_txn.specs.Ops.{named}
use Rattle.zeus_model.specs.State.{value_of}
use Rattle.zeus_model.specs.Tables.{nth}
use Rattle.replica_reads.proofs.run.values.Given as goal

abbrev pub invariant-loop-place : goal.invariant-loop-place
invariant-loop-place l = record {
  items : l.values ≡ map (λ x. value_of (nth None l.copies.copies x)) (take l.place (named l.tx));
  size : length l.values ≡ l.place;
}
