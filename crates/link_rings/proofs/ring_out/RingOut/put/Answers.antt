use Rattle.std.proofs.Common.{arith}
use Rattle.link_rings.proofs.Heads.{put_leaves, put_stays}
use Rattle.link_rings.proofs.ring_out.RingOut.put.Goals.{in-Ok, in-Err-Full-Carried}
use Rattle.link_rings.proofs.ring_out.RingOut.put.Goals as goal

pub invariant_of-self : goal.invariant_of-self
invariant_of-self g c = elim c.match-push.branch [
  | in-Ok w ↦
      rw c.push.ensures.ring.1 (put_leaves c.self.inside.head c.self.inside.end.end.past c.push.new.self.end.past c.args.item _ _ _ c.self.invariant.0 w.in-Ok.ensures.ok.0 c.self.invariant.1 w.in-Ok.ensures.ok.1)
  | in-Err-Full-Carried w ↦
      rw c.push.ensures.ring.1 (put_stays c.self.inside.head c.self.inside.end.end.past c.push.new.self.end.past _ _ _ c.self.invariant.0 w.in-Err-Full-Carried.ensures.full.1 c.self.invariant.1 (λ l. absurd (grind (arith, w.in-Err-Full-Carried.ensures.succeeds l))))
]
