use Rattle.std.proofs.Common.{Some, refl, ap}
use Rattle.zeus_model.specs.declared.state.Gather.{Gather}
use Rattle.arbitration.specs.Gathering.{ack_by, gathered_by}
use Rattle.arbitration.proofs.gathers.take_ack.Goals as goal

pub returns-in-Some-clause-answer : goal.returns-in-Some-clause-answer
unfolding ack_by
returns-in-Some-clause-answer c = rw (← c.in-Some.ensures) refl

pub returns-in-Some-clause-after : goal.returns-in-Some-clause-after
unfolding gathered_by
returns-in-Some-clause-after c = rw (← c.in-Some.ensures) refl

pub returns-then-again-clause-answer : goal.returns-then-again-clause-answer
unfolding ack_by
returns-then-again-clause-answer c =
    rw (← c.in_default.ensures, ← c.gather_for-before.ensures, ← c.is_noted-again.ensures, c.if-again.true) refl

pub returns-then-again-clause-after : goal.returns-then-again-clause-after
unfolding gathered_by
returns-then-again-clause-after c =
    rw (← c.in_default.ensures, ← c.gather_for-before.ensures) (ap (λ (g : Gather). Some g) c.noted.ensures)

pub returns-else-again-clause-answer : goal.returns-else-again-clause-answer
unfolding ack_by
returns-else-again-clause-answer c =
    rw (← c.in_default.ensures, ← c.gather_for-before.ensures, ← c.is_noted-again.ensures, c.if-again.false) refl

pub returns-else-again-clause-after : goal.returns-else-again-clause-after
unfolding gathered_by
returns-else-again-clause-after c =
    rw (← c.in_default.ensures, ← c.gather_for-before.ensures) (ap (λ (g : Gather). Some g) c.noted.ensures)
