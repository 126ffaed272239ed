use Rattle.zeus_world.proofs.Standing.{live_there, live_past}
use Rattle.zeus_world.proofs.world.World.is_live.Goals as goal

pub returns-in-None : goal.returns-in-None
returns-in-None c =
    let past = rw (c.place.ensures, c.deref.ensures.value) at c.in-None.ensures.lookup in
    rw (← c.self.view_is) (live_past _ _ past.3)

pub returns-in-Some : goal.returns-in-Some
returns-in-Some c =
    let found = rw (c.place.ensures, c.deref.ensures.value) at c.in-Some.ensures.lookup in
    rw (← c.self.view_is) (live_there _ _ _ _ found.3.0 found.1 c.is_stopped.ensures)
