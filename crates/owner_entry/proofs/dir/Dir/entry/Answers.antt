use Rattle.std.proofs.Common.{sym}
use Rattle.zeus_base.specs.TableLaws.{nth_read}
use Rattle.zeus_model.specs.State.{no_entry}
use Rattle.owner_entry.proofs.dir.Dir.entry.Goals as goal

pub returns : goal.returns
returns c =
    let there = rw c.place.ensures at c.index.ensures in
    let here = rw (← c.self.view_is) at c.requires in
    rw (← c.self.view_is) (sym (nth_read no_entry _ _ _ here there))
