use Rattle.std.proofs.Common.{None, sym}
use Rattle.zeus_base.specs.TableLaws.{put-set}
use Rattle.object_table.proofs.copies.Copies.drop_copy.Goals as goal

pub returns-clause-copies : goal.returns-clause-copies
returns-clause-copies c =
    let here = rw (← c.self.view_is) at c.requires in
    rw (← c.self.view_is, c.place.ensures) (sym (put-set None _ _ _ here))
