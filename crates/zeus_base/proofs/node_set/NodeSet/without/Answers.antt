use Rattle.zeus_base.proofs.NodeBits.{nodes_of-clear}
use Rattle.zeus_base.proofs.node_set.NodeSet.without.Goals as goal

pub returns : goal.returns
returns c =
    rw (← c.self.view_is, ← c.node.view_is) (nodes_of-clear c.self.inside.bits c.node.inside.0 c.self.invariant c.node.invariant)
