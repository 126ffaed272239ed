use Rattle.std.proofs.Common.{◌≡◌, drop}
use Rattle.zeus_txn.specs.Map.{written_map}
use Rattle.zeus_txn.specs.MapLaws.{CanWrite}
use Rattle.zeus_txn.proofs.map.write_all.Given as goal

abbrev pub invariant-loop-write : goal.invariant-loop-write
invariant-loop-write l =
    record {
      written : written_map l.items (drop l.write-index l.writes) ≡ written_map l.initial.items l.writes;
      can : CanWrite l.items (drop l.write-index l.writes);
    }
