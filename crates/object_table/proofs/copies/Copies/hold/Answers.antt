use Rattle.std.proofs.Common.{◌<◌, Option, Some, None, length}
use Rattle.zeus_base.specs.TableLaws.{nth_read}
use Rattle.object_table.specs.declared.hold.Hold.{Hold}
use Rattle.object_table.specs.Table.{held}
use Rattle.object_table.proofs.Changing.{IsCounted-held, IsTable-holds, set_changed}
use Rattle.object_table.proofs.copies.Copies.hold.Goals as goal

pub held-requires : goal.held-requires
held-requires c =
    let there = rw c.place.ensures at c.index_mut-hold.ensures.value in
    let place = rw (← c.self.view_is) at c.requires.place in
    let here : c.args.obj < length c.self.inside.holds.items = rw c.self.invariant.places place in
    let room = rw (← c.self.view_is) at c.requires.room in
    rw (nth_read None _ _ _ here there) at room

pub invariant_of-self : goal.invariant_of-self
invariant_of-self c =
    let there = rw c.place.ensures at c.index_mut-hold.ensures.value in
    let place = rw (← c.self.view_is) at c.requires.place in
    let here : c.args.obj < length c.self.inside.holds.items = rw c.self.invariant.places place in
    let room = rw (← c.self.view_is) at c.requires.room in
    let room = rw (nth_read None _ _ _ here there) at room in
    rw c.held.ensures (IsTable-holds _ _ _ _ (IsCounted-held _ _ room) c.self.invariant)

pub returns-clause-holds : goal.returns-clause-holds
returns-clause-holds c =
    let there = rw c.place.ensures at c.index_mut-hold.ensures.value in
    let place = rw (← c.self.view_is) at c.requires.place in
    let here : c.args.obj < length c.self.inside.holds.items = rw c.self.invariant.places place in
    let next : Option Hold → Option Hold = λ h. Some (held c.args.slot h) in
    rw (← c.self.view_is, c.place.ensures, c.held.ensures) (set_changed None next _ _ _ here there)
