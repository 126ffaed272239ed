use Rattle.std.proofs.Common.{[]}
use Rattle.zeus_base.specs.TableLaws.{nth-set_same}
use Rattle.lossy_fabric.proofs.Staying.{same_stays}
use Rattle.lossy_fabric.proofs.Sending.{letters-same}
use Rattle.lossy_fabric.proofs.links.Links.reserve.Goals as goal

pub returns-clause-letters : goal.returns-clause-letters
returns-clause-letters c =
    let row = rw c.place.ensures at c.index_mut-row.ensures.value in
    let from = rw (← c.self.view_is) at c.requires in
    rw (← c.self.view_is, c.place.ensures) (letters-same _ c.args.from _ c.reserve.new.self from row c.reserve.ensures.letters)

pub returns-clause-room : goal.returns-clause-room
returns-clause-room c =
    let from = rw (← c.self.view_is) at c.requires in
    rw (c.place.ensures, nth-set_same [] _ c.args.from c.reserve.new.self from) c.reserve.ensures.room

pub returns-clause-links : goal.returns-clause-links
returns-clause-links c = same_stays c.args.self.now _ (returns-clause-letters c)
