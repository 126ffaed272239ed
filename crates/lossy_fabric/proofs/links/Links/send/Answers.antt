use Rattle.std.proofs.Common.{List, subst, ◌<◌, []}
use Rattle.zeus_base.specs.TableLaws.{nth_read}
use Rattle.zeus_model.specs.Tables.{nth}
use Rattle.lossy_fabric.specs.Links.{LinkState, no_link}
use Rattle.lossy_fabric.proofs.Staying.{sent_stays}
use Rattle.lossy_fabric.proofs.Sending.{letters-nth, letters-set, rows_room}
use Rattle.lossy_fabric.proofs.links.Links.send.Goals as goal

pub push-requires-clause-to : goal.push-requires-clause-to
push-requires-clause-to c =
    let row = rw c.place.ensures at c.index_mut-row.ensures.value in
    let from = rw (← c.self.view_is) at c.requires.there.from in
    let to = rw (← c.self.view_is) at c.requires.there.to in
    rw (nth_read [] _ c.args.letter.now.from _ from row) at to

pub push-requires-clause-room : goal.push-requires-clause-room
push-requires-clause-room c =
    let row = rw c.place.ensures at c.index_mut-row.ensures.value in
    let from = rw (← c.self.view_is) at c.requires.there.from in
    let room = rw (← c.self.view_is) at c.requires.room in
    subst (λ (r : List LinkState). 0 < (nth no_link r c.args.letter.now.to).room) (nth_read [] _ c.args.letter.now.from _ from row) room

pub returns-clause-letters : goal.returns-clause-letters
returns-clause-letters c =
    let row = rw c.place.ensures at c.index_mut-row.ensures.value in
    let from = rw (← c.self.view_is) at c.requires.there.from in
    rw (← c.self.view_is, c.place.ensures, letters-nth c.self.inside.rows.items c.args.letter.now.from, nth_read [] _ c.args.letter.now.from _ from row, ← c.push.ensures.letters)
    (letters-set _ c.args.letter.now.from c.push.new.self from)

pub returns-clause-room : goal.returns-clause-room
returns-clause-room c =
    let row = rw c.place.ensures at c.index_mut-row.ensures.value in
    let from = rw (← c.self.view_is) at c.requires.there.from in
    rw (← c.self.view_is, c.place.ensures) (rows_room _ c.args.letter.now.from _ c.push.new.self from row c.push.ensures.room)

pub returns-clause-number : goal.returns-clause-number
returns-clause-number c =
    let row = rw c.place.ensures at c.index_mut-row.ensures.value in
    let from = rw (← c.self.view_is) at c.requires.there.from in
    rw (← c.self.view_is, letters-nth c.self.inside.rows.items c.args.letter.now.from, nth_read [] _ c.args.letter.now.from _ from row) c.push.ensures.number

pub returns-clause-links : goal.returns-clause-links
returns-clause-links c = sent_stays c.args.self.now _ c.args.letter.now (returns-clause-letters c) c.requires.there
