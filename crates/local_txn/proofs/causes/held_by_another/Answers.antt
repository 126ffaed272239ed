use Rattle.std.proofs.Common.{sym, ◌∙◌}
use Rattle.local_txn.proofs.Against.{free_here, held_elsewhere_here, held_here}
use Rattle.local_txn.proofs.causes.held_by_another.Goals as goal

pub returns-in-None : goal.returns-in-None
returns-in-None c = free_here _ _ _ c.in-None.ensures

pub returns-then-eq : goal.returns-then-eq
returns-then-eq c = held_here _ _ _ _ c.eq.result c.in-Some.ensures (sym c.eq.ensures ∙ c.if-eq.true)

pub returns-else-eq : goal.returns-else-eq
returns-else-eq c = held_elsewhere_here _ _ _ _ c.in-Some.ensures (sym c.eq.ensures ∙ c.if-eq.false)
