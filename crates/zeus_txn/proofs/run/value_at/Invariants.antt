use Rattle.std.proofs.Common.{◌≡◌, drop}
use Rattle.zeus_txn.specs.Run.{value_at}
use Rattle.zeus_txn.proofs.run.value_at.Given as goal

abbrev pub invariant-loop-place : goal.invariant-loop-place
invariant-loop-place l = value_at (drop l.place l.named) (drop l.place l.values) l.obj ≡ value_at l.named l.values l.obj
