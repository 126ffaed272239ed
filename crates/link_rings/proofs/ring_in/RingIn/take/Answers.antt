use Rattle.std.proofs.Common.{ap, arith, refl}
use Rattle.link_rings.specs.Ends.{In}
use Rattle.link_rings.proofs.Heads.{front_none, front_known, front_taken}
use Rattle.link_rings.proofs.ring_in.RingIn.take.Goals.{in-Ok-Carried, in-Err}
use Rattle.link_rings.proofs.ring_in.RingIn.take.Goals as goal

pub returns-clause-known : goal.returns-clause-known
returns-clause-known g c = elim c.match-pop.branch [
  | in-Ok-Carried w ↦ rw (w.result-is, ← c.self.view_is) (front_taken w.in-Ok-Carried.item c.self.inside.end.end.ahead c.pop.new.self.end.ahead (rw w.in-Ok-Carried.field-0-is at w.in-Ok-Carried.ensures.ok.1))
  | in-Err w ↦ rw w.result-is tt
]

pub returns-clause-empty : goal.returns-clause-empty
returns-clause-empty g c = elim c.match-pop.branch [
  | in-Ok-Carried w ↦ rw w.result-is (λ n. absurd (grind (arith, n)))
  | in-Err w ↦ λ n. front_none c.pop.new.self.end.ahead w.in-Err.ensures.empty.1
]

pub returns-clause-succeeds : goal.returns-clause-succeeds
returns-clause-succeeds g c = elim c.match-pop.branch [
  | in-Ok-Carried w ↦ rw w.result-is (λ l. refl)
  | in-Err w ↦ λ l. absurd (grind (arith, w.in-Err.ensures.succeeds (front_known c.self.inside.end.end.ahead (rw (ap (λ (v : In g.row.H.Denot g.row.T.Denot). v.known) c.self.view_is) l))))
]
