use Rattle.std.proofs.Common.{ap, arith, length}
use Rattle.link_rings.proofs.Heads.{looked_in, front_known, front_head, front_carried}
use Rattle.link_rings.proofs.ring_in.RingIn.look.Goals.{in-Carried, in-Head}
use Rattle.link_rings.proofs.ring_in.RingIn.look.Goals as goal

pub returns-then-slots-eq0-clause-value : goal.returns-then-slots-eq0-clause-value
returns-then-slots-eq0-clause-value g c = (λ f. absurd (grind (arith, f)), λ l. absurd (omega (arith, front_known c.slots.new.self.end.ahead l, c.slots.ensures.value, c.if-slots-eq0.true)))

pub returns-clause-looked : goal.returns-clause-looked
returns-clause-looked g c = rw (← c.self.view_is) (looked_in c.self.inside.end c.slots.new.self c.self.inside.head c.slots.ensures.looked)

pub returns-clause-value : goal.returns-clause-value
returns-clause-value g c = elim c.match-peek_known.branch [
  | in-Carried w ↦
      let p = front_carried w.in-Carried.field-0 c.slots.new.self.end.ahead (rw w.in-Carried.is at c.peek_known.ensures) in
      (λ t. omega (arith, ap length p.1), λ l. w.result-is)
  | in-Head w ↦
      let z = front_head w.in-Head.field-0 c.slots.new.self.end.ahead (rw w.in-Head.is at c.peek_known.ensures) in
      (λ t. absurd (grind (arith, t, w.result-is)), λ l. absurd (omega (arith, ap length z, l)))
]
