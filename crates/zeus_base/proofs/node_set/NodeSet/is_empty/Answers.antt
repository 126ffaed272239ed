use Rattle.std.proofs.Common.{eq-eqb, eqb-true, ◌∙◌, ap}
use Rattle.zeus_base.specs.Bits.{nodes_of}
use Rattle.zeus_base.proofs.NodeBits.{nodes_of-zero, nodes_of-empty}
use Rattle.zeus_base.proofs.node_set.NodeSet.is_empty.Goals as goal

pub returns : goal.returns
returns c =
    rw (← c.self.view_is) (λ t. ap nodes_of (eqb-true c.self.inside.bits 0 t) ∙ nodes_of-zero, λ none. eq-eqb c.self.inside.bits 0 (nodes_of-empty c.self.inside.bits c.self.invariant none))
