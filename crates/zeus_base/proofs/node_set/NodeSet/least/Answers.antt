use Rattle.std.proofs.Common.{sym, arith}
use Rattle.zeus_base.proofs.NodeBits.{IsNodeSet-nodes_of, least-zero, least-nodes_of}
use Rattle.zeus_base.proofs.node_set.NodeSet.least.Goals as goal

pub returns-then-self-eq0 : goal.returns-then-self-eq0
returns-then-self-eq0 c =
    rw (← c.self.view_is) record { first = sym (least-zero c.self.inside.bits c.if-self-eq0.true); set = IsNodeSet-nodes_of c.self.inside.bits }

pub returns-else-self-eq0 : goal.returns-else-self-eq0
returns-else-self-eq0 c =
    rw (← c.self.view_is) record { first = sym (least-nodes_of c.self.inside.bits (omega arith) c.self.invariant); set = IsNodeSet-nodes_of c.self.inside.bits }
