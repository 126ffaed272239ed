use Rattle.std.proofs.Common.{refl, sym}
use Rattle.object_table.specs.Holders.{AreNamed-held}
use Rattle.node_ranges.specs.Ranges.{limits_of}
use Rattle.node_state.specs.Shown.{shown}
use Rattle.node_state.specs.SlotTries.{with_tables}
use Rattle.node_state.proofs.Keeping.{IsKept-becomes}
use Rattle.node_state.proofs.Slots.{slot_read}
use Rattle.node_state.proofs.SlotTrying.{fits_within, is_node_at, tables_put, tried_ranges}
use Rattle.node_state.proofs.state.NodeState.try_current.Goals as goal

pub try_current-requires-clause-objects : goal.try_current-requires-clause-objects
try_current-requires-clause-objects c =
    let n = shown c.self.inside in
    let ranges = c.self.invariant.ranges in
    let there = rw (← c.self.view_is) at c.requires in
    let own = rw c.place.ensures at c.index_mut-own.ensures.value in
    rw (ranges.sizes.copies, ← slot_read n c.args.slot _ there own) (fits_within (limits_of n) _ (ranges.slots c.args.slot).current)

pub try_current-requires-clause-places : goal.try_current-requires-clause-places
try_current-requires-clause-places c = sym c.self.invariant.ranges.sizes.copies

pub try_current-requires-clause-holds : goal.try_current-requires-clause-holds
try_current-requires-clause-holds c =
    let n = shown c.self.inside in
    let there = rw (← c.self.view_is) at c.requires in
    let own = rw c.place.ensures at c.index_mut-own.ensures.value in
    rw (← slot_read n c.args.slot _ there own) (AreNamed-held n c.args.slot c.self.inside.copies.holds c.self.invariant.held)

pub invariant_of-self : goal.invariant_of-self
invariant_of-self c =
    let n = shown c.self.inside in
    let there = rw (← c.self.view_is) at c.requires in
    let own = rw c.place.ensures at c.index_mut-own.ensures.value in
    let at = is_node_at n c.self.inside.copies c.args.slot _ there own refl c.self.invariant.held in
    let does = c.try_current.ensures.does n at in
    let m = with_tables n c.args.slot c.try_current.new.copies.copies c.try_current.new.self in
    rw c.place.ensures
    (IsKept-becomes c.self.inside _ m (tables_put n c.args.slot _ _ there) refl refl c.self.invariant
    (tried_ranges (limits_of n) n c.args.slot _ m there does.tried c.self.invariant.ranges)
    does.held)

pub returns : goal.returns
returns c =
    let n = shown c.self.inside in
    let there = rw (← c.self.view_is) at c.requires in
    let own = rw c.place.ensures at c.index_mut-own.ensures.value in
    let at = is_node_at n c.self.inside.copies c.args.slot _ there own refl c.self.invariant.held in
    rw (← c.self.view_is, c.place.ensures, tables_put n c.args.slot c.try_current.new.copies.copies c.try_current.new.self there) (c.try_current.ensures.does n at).tried
