use Rattle.link_rings.proofs.Heads.{looked_in}
use Rattle.link_rings.proofs.ring_out.RingOut.meet_to_put.Goals as goal

pub returns-clause-other : goal.returns-clause-other
returns-clause-other g c = rw (← c.other.view_is) (looked_in c.other.inside.end c.slots_beside.new.consumer c.other.inside.head c.slots_beside.ensures.consumer)
