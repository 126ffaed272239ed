use Rattle.zeus_world.proofs.Standing.{copy_there, copy_past}
use Rattle.zeus_world.proofs.world.World.copy.Goals as goal

pub returns-in-None : goal.returns-in-None
returns-in-None c =
    let past = rw (c.place.ensures, c.deref.ensures.value) at c.in-None.ensures.lookup in
    rw (← c.self.view_is) (copy_past _ _ c.args.obj past.3)

pub returns-in-Some : goal.returns-in-Some
returns-in-Some c =
    let found = rw (c.place.ensures, c.deref.ensures.value) at c.in-Some.ensures.lookup in
    rw (← c.self.view_is) (copy_there _ _ c.args.obj _ _ found.3.0 found.1 c.copy.ensures)
