use Rattle.zeus_world.proofs.Standing.{owns_there}
use Rattle.zeus_world.proofs.world.World.owns.Goals as goal

pub returns : goal.returns
returns c =
    let there = rw c.place.ensures at c.index.ensures in
    let here = rw (← c.self.view_is) at c.requires in
    rw (← c.self.view_is) (owns_there _ _ c.args.obj _ _ here there c.owns.ensures)
