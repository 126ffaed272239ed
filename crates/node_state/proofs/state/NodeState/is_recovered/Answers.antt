use Rattle.node_state.specs.Shown.{shown}
use Rattle.node_state.proofs.Committing.{few_nodes, few_slots, has_streams, replaying}
use Rattle.node_state.proofs.state.NodeState.is_recovered.Goals as goal

pub is_recovered-requires-clause-nodes : goal.is_recovered-requires-clause-nodes
is_recovered-requires-clause-nodes c = few_nodes (shown c.self.inside) _ c.self.invariant.nodes c.self.invariant.ranges

pub is_recovered-requires-clause-slots : goal.is_recovered-requires-clause-slots
is_recovered-requires-clause-slots c = few_slots (shown c.self.inside) _ c.self.invariant.slots c.self.invariant.ranges

pub is_recovered-requires-clause-streams : goal.is_recovered-requires-clause-streams
is_recovered-requires-clause-streams c = has_streams (shown c.self.inside) _ _ c.self.invariant.nodes c.self.invariant.slots c.self.invariant.ranges

pub returns : goal.returns
returns c =
    let n = shown c.self.inside in
    rw (← c.self.view_is) (c.is_recovered.ensures n (replaying n _ c.self.invariant.slots))
