use Rattle.zeus_base.specs.TableLaws.{nth_read}
use Rattle.zeus_model.specs.State.{no_entry}
use Rattle.owner_entry.proofs.Entries.{entry_of, settle_written}
use Rattle.owner_entry.proofs.dir.Dir.settle.Goals as goal

pub returns-clause-above : goal.returns-clause-above
returns-clause-above c =
    let there = rw c.place.ensures at c.index_mut-entry.ensures.value in
    let here = rw (← c.self.view_is) at c.requires in
    rw (← c.self.view_is, nth_read no_entry _ _ _ here there) c.settle.ensures.above

pub returns-clause-after : goal.returns-clause-after
returns-clause-after c = λ n same.
    let there = rw c.place.ensures at c.index_mut-entry.ensures.value in
    let here = rw (← c.self.view_is) at c.requires in
    let same = rw (← c.self.view_is) at same in
    rw c.place.ensures
    (settle_written n _ c.args.obj c.args.stamp c.args.place _ same here (c.settle.ensures.after n c.args.obj (entry_of n _ c.args.obj _ same here there)))
