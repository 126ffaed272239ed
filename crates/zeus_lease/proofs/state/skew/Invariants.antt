use Rattle.std.proofs.Common.{◌≡◌, length}
use Rattle.zeus_lease.specs.Machine.{skew, skewed_beside}
use Rattle.zeus_lease.proofs.Searching.{first_from}
use Rattle.zeus_lease.proofs.state.skew.Given as goal

-- the clocks that are left have the same first one
abbrev pub invariant-loop-fast : goal.invariant-loop-fast
invariant-loop-fast l = first_from (skewed_beside l.percent l.ticks (length l.ticks)) (length l.ticks) l.fast ≡ skew l.percent l.ticks (length l.ticks)
