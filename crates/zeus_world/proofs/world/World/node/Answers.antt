use Rattle.std.proofs.Common.{arith, sym}
use Rattle.zeus_model.specs.World.{no_node}
use Rattle.zeus_base.specs.TableLaws.{nth_read}
use Rattle.zeus_world.proofs.Keeping.{known}
use Rattle.zeus_world.proofs.world.World.node.Goals as goal

pub index-requires : goal.index-requires
index-requires c =
    let ranged = (known _ _ c.self.invariant).ranged in
    let count = ranged.count in
    let here = rw (← c.self.view_is) at c.requires in
    omega arith

pub returns : goal.returns
returns c =
    let ranged = (known _ _ c.self.invariant).ranged in
    let count = ranged.count in
    let here = rw (← c.self.view_is) at c.requires in
    let is = rw c.place.ensures at c.index.ensures in
    rw (← c.self.view_is) (sym (nth_read no_node _ _ _ (omega arith) is))
