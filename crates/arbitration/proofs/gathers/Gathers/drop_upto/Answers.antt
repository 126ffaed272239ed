use Rattle.std.proofs.Common.{None}
use Rattle.zeus_model.specs.Ownership.{gather_above}
use Rattle.arbitration.proofs.Noting.{put_read}
use Rattle.arbitration.proofs.gathers.Gathers.drop_upto.Goals as goal

pub returns-clause-after : goal.returns-clause-after
returns-clause-after c =
    let there = rw c.place.ensures at c.index_mut-gather.ensures.value in
    let here = rw (← c.self.view_is) at c.requires in
    rw (← c.self.view_is, c.place.ensures)
    (put_read None _ c.args.obj _ _ (gather_above c.args.stamp) here there c.gather_above.ensures)
