use Rattle.std.proofs.Common.{refl, ap, ◌∙◌, sym}
use Rattle.zeus_base.specs.TableLaws.{nth_found, nth_none}
use Rattle.history_book.specs.Ids.{no_ids}
use Rattle.history_book.proofs.entries.NodeEntries.get.Goals as goal

pub returns-in-None : goal.returns-in-None
returns-in-None c =
    let none = c.in-None.ensures in
    rw (nth_none no_ids c.args.self.now c.args.slot none) refl

pub returns-in-Some : goal.returns-in-Some
returns-in-Some c =
    let some = c.in-Some.ensures in
    rw (nth_found no_ids c.args.self.now c.args.slot _ some) c.get.ensures
