use Rattle.lossy_fabric.specs.Links.{no_link}
use Rattle.zeus_base.specs.TableLaws.{nth_read}
use Rattle.lossy_fabric.proofs.Sending.{row_letters-nth, row_letters-set, row_room}
use Rattle.lossy_fabric.proofs.links.Row.push.Goals as goal

pub push-requires-clause-room : goal.push-requires-clause-room
push-requires-clause-room c =
    let link = rw c.place.ensures at c.index_mut-link.ensures.value in
    let to = rw (← c.self.view_is) at c.requires.to in
    let room = rw (← c.self.view_is) at c.requires.room in
    rw (nth_read no_link _ c.args.letter.now.to _ to link) at room

pub returns-clause-letters : goal.returns-clause-letters
returns-clause-letters c =
    let link = rw c.place.ensures at c.index_mut-link.ensures.value in
    let to = rw (← c.self.view_is) at c.requires.to in
    rw (← c.self.view_is, c.place.ensures, row_letters-nth c.self.inside.links.items c.args.letter.now.to, nth_read no_link _ c.args.letter.now.to _ to link, ← c.push.ensures.letters)
    (row_letters-set _ c.args.letter.now.to c.push.new.self to)

pub returns-clause-room : goal.returns-clause-room
returns-clause-room c =
    let link = rw c.place.ensures at c.index_mut-link.ensures.value in
    let to = rw (← c.self.view_is) at c.requires.to in
    rw (← c.self.view_is, c.place.ensures) (row_room _ c.args.letter.now.to _ c.push.new.self to link c.push.ensures.room)

pub returns-clause-number : goal.returns-clause-number
returns-clause-number c =
    let link = rw c.place.ensures at c.index_mut-link.ensures.value in
    let to = rw (← c.self.view_is) at c.requires.to in
    rw (← c.self.view_is, row_letters-nth c.self.inside.links.items c.args.letter.now.to, nth_read no_link _ c.args.letter.now.to _ to link) c.push.ensures.number
