use Rattle.std.proofs.Common.{sym, ap, ◌∙◌, ◌==◌, ℕ}
use Rattle.std.proofs.lemmas.Nat.Bits.{shr_and_one}
use Rattle.zeus_base.proofs.NodeBits.{has-nodes_of}
use Rattle.zeus_base.proofs.node_set.NodeSet.has.Goals as goal

pub returns : goal.returns
returns c =
    rw (← c.self.view_is, ← c.node.view_is) (ap (λ (b : ℕ). b == 1) (shr_and_one c.self.inside.bits c.node.inside.0) ∙ sym (has-nodes_of c.node.inside.0 c.self.inside.bits c.self.invariant))
