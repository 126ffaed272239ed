use Rattle.node_state.specs.Shown.{shown}
use Rattle.node_state.proofs.Committing.{few_nodes, few_slots, has_streams, replaying}
use Rattle.node_state.proofs.state.NodeState.next_replay.Goals as goal

pub next_replay-requires-clause-nodes : goal.next_replay-requires-clause-nodes
next_replay-requires-clause-nodes c = few_nodes (shown c.self.inside) _ c.self.invariant.nodes c.self.invariant.ranges

pub next_replay-requires-clause-slots : goal.next_replay-requires-clause-slots
next_replay-requires-clause-slots c = few_slots (shown c.self.inside) _ c.self.invariant.slots c.self.invariant.ranges

pub next_replay-requires-clause-streams : goal.next_replay-requires-clause-streams
next_replay-requires-clause-streams c = has_streams (shown c.self.inside) _ _ c.self.invariant.nodes c.self.invariant.slots c.self.invariant.ranges

pub returns : goal.returns
returns c =
    let n = shown c.self.inside in
    rw (← c.self.view_is) (c.next_replay.ensures n (replaying n _ c.self.invariant.slots))
