use Rattle.zeus_base.proofs.NodeBits.{nodes_of-set}
use Rattle.zeus_base.proofs.node_set.NodeSet.insert.Goals as goal

pub returns : goal.returns
returns c =
    rw (← c.self.view_is, ← c.node.view_is) (nodes_of-set c.self.inside.bits c.node.inside.0 c.self.invariant c.node.invariant)
