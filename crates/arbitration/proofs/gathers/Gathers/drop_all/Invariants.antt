use Rattle.std.proofs.Common.{◌≡◌}
use Rattle.arbitration.proofs.Noting.{emptied}
use Rattle.arbitration.proofs.gathers.Gathers.drop_all.Given as goal

abbrev pub invariant-loop-place : goal.invariant-loop-place
invariant-loop-place l = l.self-inside.gathers.items ≡ emptied l.place l.initial.self-inside.gathers.items
