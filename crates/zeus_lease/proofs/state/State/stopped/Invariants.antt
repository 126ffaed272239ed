use Rattle.std.proofs.Common.{ℕ, ◌≡◌}
use Rattle.std.specs.Prelude.{nat_le, ◌&&◌, nat_lt}
use Rattle.zeus_base.specs.Nodes.{has}
use Rattle.zeus_lease.specs.Kept.{shown}
use Rattle.zeus_lease.specs.Machine.{node}
use Rattle.zeus_lease.proofs.state.State.stopped.Given as goal

-- of the nodes before, just those are in the set that count as stopped
abbrev pub invariant-loop-place : goal.invariant-loop-place
invariant-loop-place l = (n : ℕ) → has n l.stopped ≡ (nat_lt n l.place && nat_le (node (shown l.self) n).expiry l.self.service)
