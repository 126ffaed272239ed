use Rattle.zeus_base.proofs.NodeBits.{same_nodes-nodes_of}
use Rattle.zeus_base.proofs.node_set.NodeSetPartialEq.eq.Goals as goal

pub returns : goal.returns
returns c =
    rw (← c.self.view_is, ← c.other.view_is) (same_nodes-nodes_of c.self.inside.bits c.other.inside.bits c.self.invariant c.other.invariant)
