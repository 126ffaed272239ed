use Rattle.std.proofs.Common.{◌≡◌, None, drop}
use Rattle.zeus_txn.specs.Ops.{named}
use Rattle.zeus_model.specs.Local.{hindrance_at}
use Rattle.zeus_model.specs.Tables.{first_of, nth}
use Rattle.replica_reads.specs.Reads.{hindrance_among}
use Rattle.replica_reads.proofs.reads.first_hindrance.Given as goal

-- the objects that are left have the same first hindrance
abbrev pub invariant-loop-object : goal.invariant-loop-object
invariant-loop-object l =
    first_of (λ y. hindrance_at y (nth None l.copies.copies y)) (drop l.object-index (named l.tx)) ≡ hindrance_among l.copies.copies l.tx
