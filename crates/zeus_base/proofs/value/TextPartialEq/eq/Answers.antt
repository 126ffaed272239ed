use Rattle.zeus_base.specs.Texts.{same_text-length}
use Rattle.zeus_base.proofs.value.TextPartialEq.eq.Goals as goal

pub returns-then-self-other : goal.returns-then-self-other
returns-then-self-other c =
    rw (← c.self.view_is, ← c.other.view_is) (same_text-length c.self.inside c.other.inside c.eq.result c.self.invariant c.other.invariant c.if-self-other.true c.eq.ensures)
