use Rattle.std.proofs.Common.{[]}
use Rattle.zeus_base.specs.TableLaws.{nth_read}
use Rattle.lossy_fabric.proofs.Sending.{letters-nth, row_letters-nth}
use Rattle.lossy_fabric.proofs.links.Links.count.Goals as goal

pub count-requires : goal.count-requires
count-requires c =
    let row = rw c.place.ensures at c.index-row.ensures in
    let from = rw (← c.self.view_is) at c.requires.from in
    let to = rw (← c.self.view_is) at c.requires.to in
    rw (nth_read [] _ c.args.from _ from row) at to

pub returns : goal.returns
returns c =
    let row = rw c.place.ensures at c.index-row.ensures in
    let from = rw (← c.self.view_is) at c.requires.from in
    rw (← c.self.view_is, letters-nth c.self.inside.rows.items c.args.from, nth_read [] _ c.args.from _ from row, row_letters-nth c.index-row.result.now c.args.to)
    c.count.ensures
