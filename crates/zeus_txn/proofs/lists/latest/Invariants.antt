use Rattle.std.proofs.Common.{◌≡◌, drop}
use Rattle.zeus_txn.specs.Run.{latest}
use Rattle.zeus_txn.proofs.lists.latest.Given as goal

abbrev pub invariant-loop-write : goal.invariant-loop-write
invariant-loop-write l = latest (drop l.write-index l.writes) l.obj l.found ≡ latest l.writes l.obj l.found
