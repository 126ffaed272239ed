use Rattle.std.proofs.Common.{◌<◌, None, length}
use Rattle.object_table.specs.Table.{unheld}
use Rattle.object_table.proofs.Changing.{IsCounted-unheld, IsTable-holds, counted_at, set_changed}
use Rattle.object_table.proofs.copies.Copies.unhold.Goals as goal

pub invariant_of-self : goal.invariant_of-self
invariant_of-self c =
    let there = rw c.place.ensures at c.index_mut-hold.ensures.value in
    let place = rw (← c.self.view_is) at c.requires in
    let here : c.args.obj < length c.self.inside.holds.items = rw c.self.invariant.places place in
    rw c.unheld.ensures
    (IsTable-holds _ _ _ _ (IsCounted-unheld _ (counted_at _ _ _ here there c.self.invariant.counted)) c.self.invariant)

pub returns-clause-holds : goal.returns-clause-holds
returns-clause-holds c =
    let there = rw c.place.ensures at c.index_mut-hold.ensures.value in
    let place = rw (← c.self.view_is) at c.requires in
    let here : c.args.obj < length c.self.inside.holds.items = rw c.self.invariant.places place in
    rw (← c.self.view_is, c.place.ensures, c.unheld.ensures) (set_changed None unheld _ _ _ here there)
