use Rattle.zeus_base.proofs.NodeBits.{is_subset-nodes_of}
use Rattle.zeus_base.proofs.node_set.NodeSet.is_subset.Goals as goal

pub returns : goal.returns
returns c =
    rw (← c.self.view_is, ← c.other.view_is) (is_subset-nodes_of c.self.inside.bits c.other.inside.bits c.self.invariant c.other.invariant)
