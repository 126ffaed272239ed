use Rattle.std.proofs.Common.{◌≡◌}
use Rattle.zeus_model.specs.Ownership.{keeper}
use Rattle.node_state.specs.Shown.{shown}
use Rattle.node_state.proofs.Searching.{keeper_from}
use Rattle.node_state.proofs.state.NodeState.keeper.Given as goal

-- the slots that are left have the same keeper
abbrev pub invariant-loop-slot : goal.invariant-loop-slot
invariant-loop-slot l = keeper_from (shown l.self-inside) l.obj l.slot ≡ keeper (shown l.self-inside) l.obj
