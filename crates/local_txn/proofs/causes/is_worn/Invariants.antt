use Rattle.std.proofs.Common.{◌≡◌, drop}
use Rattle.std.specs.List.{list_any}
use Rattle.local_txn.specs.Tries.{worn_at}
use Rattle.local_txn.proofs.causes.is_worn.Given as goal

-- the operations that are left have one such if all have
abbrev pub invariant-loop-op : goal.invariant-loop-op
invariant-loop-op l = list_any (worn_at l.copies.copies) (drop l.op-index l.tx) ≡ list_any (worn_at l.copies.copies) l.tx
