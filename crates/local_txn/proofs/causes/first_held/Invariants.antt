use Rattle.std.proofs.Common.{◌≡◌, drop}
use Rattle.zeus_model.specs.Tables.{first_of}
use Rattle.local_txn.specs.Tries.{held_at}
use Rattle.local_txn.proofs.causes.first_held.Given as goal

-- the objects that are left have the same first one
abbrev pub invariant-loop-object : goal.invariant-loop-object
invariant-loop-object l =
    first_of (held_at l.slot l.copies.holds) (drop l.object-index l.objects) ≡ first_of (held_at l.slot l.copies.holds) l.objects
