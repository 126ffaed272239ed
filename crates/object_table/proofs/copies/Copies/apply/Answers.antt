use Rattle.std.proofs.Common.{None}
use Rattle.zeus_base.specs.TableLaws.{nth_read}
use Rattle.zeus_model.specs.Commit.{applied}
use Rattle.object_table.proofs.Changing.{set_changed}
use Rattle.object_table.proofs.copies.Copies.apply.Goals as goal

pub returns-clause-answer : goal.returns-clause-answer
returns-clause-answer c =
    let there = rw c.place.ensures at c.index_mut-copy.ensures.value in
    let here = rw (← c.self.view_is) at c.requires in
    rw (← c.self.view_is, nth_read None _ _ _ here there) c.is_lower-lower.ensures

pub returns-clause-copies : goal.returns-clause-copies
returns-clause-copies c =
    let there = rw c.place.ensures at c.index_mut-copy.ensures.value in
    let here = rw (← c.self.view_is) at c.requires in
    rw (← c.self.view_is, c.place.ensures, c.applied.ensures) (set_changed None (applied c.args.w.now) _ _ _ here there)
