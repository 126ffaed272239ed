use Rattle.std.proofs.Common.{◌≡◌}
use Rattle.zeus_lease.proofs.Clocks.{front_on}
use Rattle.zeus_lease.proofs.state.go_on.Given as goal

-- the clocks of the nodes before have gone on
abbrev pub invariant-loop-place : goal.invariant-loop-place
invariant-loop-place l = l.nodes ≡ front_on l.place l.fn.nodes l.ticks
