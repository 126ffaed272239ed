use Rattle.zeus_base.proofs.NodeBits.{nodes_of-and}
use Rattle.zeus_base.proofs.node_set.NodeSet.meet.Goals as goal

pub returns : goal.returns
returns c =
    rw (← c.self.view_is, ← c.other.view_is) (nodes_of-and c.self.inside.bits c.other.inside.bits c.self.invariant c.other.invariant)
