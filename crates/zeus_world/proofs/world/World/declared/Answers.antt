use Rattle.std.proofs.Common.{sym}
use Rattle.zeus_base.specs.TableLaws.{nth_read}
use Rattle.zeus_model.specs.World.{no_tx}
use Rattle.zeus_world.proofs.world.World.declared.Goals as goal

pub returns : goal.returns
returns c =
    let is = rw (c.as_slice.ensures, c.place.ensures) at c.index-as_slice-place.is in
    let here = rw (← c.self.view_is) at c.requires in
    rw (← c.self.view_is) (sym (nth_read no_tx _ _ _ here is))
