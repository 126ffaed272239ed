use Rattle.std.proofs.Common.{◌∙◌, sym, ap, []}
use Rattle.std.specs.Option.{option_map}
use Rattle.zeus_base.specs.TableLaws.{nth_read}
use Rattle.lossy_fabric.specs.Links.{numbered}
use Rattle.lossy_fabric.proofs.Sending.{letters-nth, row_letters-nth, nth_letter-get}
use Rattle.lossy_fabric.proofs.links.Links.get.Goals as goal

pub get-requires : goal.get-requires
get-requires c =
    let row = rw c.place.ensures at c.index-row.ensures in
    let from = rw (← c.self.view_is) at c.requires.from in
    let to = rw (← c.self.view_is) at c.requires.to in
    rw (nth_read [] _ c.args.from _ from row) at to

pub returns : goal.returns
returns c =
    let row = rw c.place.ensures at c.index-row.ensures in
    let from = rw (← c.self.view_is) at c.requires.from in
    rw (← c.self.view_is, letters-nth c.self.inside.rows.items c.args.from, nth_read [] _ c.args.from _ from row, row_letters-nth c.index-row.result.now c.args.to)
    (c.get.ensures ∙ ap (option_map (numbered c.args.number)) (sym (nth_letter-get _ c.args.number)))
