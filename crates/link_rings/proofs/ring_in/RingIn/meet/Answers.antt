use Rattle.link_rings.proofs.Heads.{looked_in}
use Rattle.link_rings.proofs.ring_in.RingIn.meet.Goals as goal

pub returns-clause-looked : goal.returns-clause-looked
returns-clause-looked g c = rw (← c.self.view_is) (looked_in c.self.inside.end c.slots_beside.new.self c.self.inside.head c.slots_beside.ensures.looked)
