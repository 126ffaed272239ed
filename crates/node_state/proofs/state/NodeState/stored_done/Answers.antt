use Rattle.node_ranges.specs.Derived.{stream-at}
use Rattle.node_state.proofs.state.NodeState.stored_done.Goals as goal

pub done-requires : goal.done-requires
done-requires c = stream-at _ _ c.args.s c.self.invariant.ranges (rw (← c.self.view_is) at c.requires)
