use Rattle.node_ranges.specs.Derived.{stream-at}
use Rattle.node_state.proofs.state.NodeState.stored.Goals as goal

pub kept-requires : goal.kept-requires
kept-requires c = stream-at _ _ c.args.s c.self.invariant.ranges (rw (← c.self.view_is) at c.requires)
