use Rattle.std.proofs.Common.{ap, arith, length}
use Rattle.link_rings.specs.Ends.{In}
use Rattle.link_rings.proofs.Heads.{front_known, front_head, front_carried}
use Rattle.link_rings.proofs.ring_in.RingIn.front.Goals as goal

pub peek_known-requires : goal.peek_known-requires
peek_known-requires g c = front_known c.self.inside.end.end.ahead (rw (ap (λ (v : In g.row.H.Denot g.row.T.Denot). v.known) c.self.view_is) c.requires.known)

pub unreachable-requires : goal.unreachable-requires
unreachable-requires g c =
    let e = ap (λ (v : In g.row.H.Denot g.row.T.Denot). v.known) c.self.view_is in
    let z = front_head c.in-Head.field-0 c.self.inside.end.end.ahead (rw c.in-Head.is at c.peek_known.ensures) in
    omega (arith, ap length e, ap length z, c.requires.known)

pub returns : goal.returns
returns g c =
    rw (← c.self.view_is) (front_carried c.in-Carried.item c.self.inside.end.end.ahead (rw c.in-Carried.is at c.peek_known.ensures))
