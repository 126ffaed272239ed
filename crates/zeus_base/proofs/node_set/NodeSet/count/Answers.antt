use Rattle.zeus_base.proofs.NodeBits.{IsNodeSet-nodes_of, length-nodes_of}
use Rattle.std.proofs.Common.{sym}
use Rattle.zeus_base.proofs.node_set.NodeSet.count.Goals as goal

pub returns : goal.returns
returns c =
    rw (← c.self.view_is) record { nodes = sym (length-nodes_of c.self.inside.bits c.self.invariant); set = IsNodeSet-nodes_of c.self.inside.bits }
