use Rattle.zeus_base.proofs.NodeBits.{nodes_of-zero}
use Rattle.zeus_base.proofs.node_set.NodeSet.empty.Goals as goal

pub returns : goal.returns
returns c = nodes_of-zero
