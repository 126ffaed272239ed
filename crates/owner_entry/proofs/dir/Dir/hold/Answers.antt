use Rattle.zeus_base.specs.TableLaws.{nth_read}
use Rattle.zeus_model.specs.State.{no_entry}
use Rattle.owner_entry.proofs.Entries.{entry_of, holding_written}
use Rattle.owner_entry.proofs.dir.Dir.hold.Goals as goal

pub returns-clause-new : goal.returns-clause-new
returns-clause-new c =
    let there = rw c.place.ensures at c.index_mut-entry.ensures.value in
    let here = rw (← c.self.view_is) at c.requires in
    rw (← c.self.view_is, nth_read no_entry _ _ _ here there) c.hold.ensures.new

pub returns-clause-after : goal.returns-clause-after
returns-clause-after c = λ n same.
    let there = rw c.place.ensures at c.index_mut-entry.ensures.value in
    let here = rw (← c.self.view_is) at c.requires in
    let same = rw (← c.self.view_is) at same in
    rw c.place.ensures
    (holding_written n _ c.args.obj c.args.p.now _ same here (c.hold.ensures.after n c.args.obj (entry_of n _ c.args.obj _ same here there)))
