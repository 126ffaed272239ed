use Rattle.std.proofs.Common.{refl, ap, ◌∙◌, sym, []}
use Rattle.zeus_base.specs.TableLaws.{nth_found, nth_none}
use Rattle.history_book.specs.Ids.{no_ids}
use Rattle.history_book.proofs.Rows.{no_list}
use Rattle.history_book.proofs.entries.Entries.get.Goals as goal

pub returns-in-None : goal.returns-in-None
returns-in-None c =
    let none = c.in-None.ensures in
    rw (nth_none [] c.args.self.now c.args.stream.now.node none, no_list c.args.stream.now.slot) refl

pub returns-in-Some : goal.returns-in-Some
returns-in-Some c =
    let some = c.in-Some.ensures in
    rw (nth_found [] c.args.self.now c.args.stream.now.node _ some) c.get.ensures
