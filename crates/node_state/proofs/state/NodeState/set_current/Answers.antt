use Rattle.std.proofs.Common.{refl}
use Rattle.object_table.specs.NodeHolds.{AreHeld-with_current}
use Rattle.zeus_model.specs.Local.{with_current}
use Rattle.node_ranges.specs.Ranges.{limits_of}
use Rattle.node_ranges.specs.SlotChanges.{KeepsRanges-with_current}
use Rattle.node_state.specs.Shown.{shown}
use Rattle.node_state.proofs.Keeping.{IsKept-becomes}
use Rattle.node_state.proofs.Slots.{current_written}
use Rattle.node_state.proofs.state.NodeState.set_current.Goals as goal

pub invariant_of-self : goal.invariant_of-self
invariant_of-self c =
    let n = shown c.self.inside in
    let there = rw (← c.self.view_is) at c.requires.slot in
    let fits = rw (← c.self.view_is) at c.requires.fits in
    let own = rw c.place.ensures at c.index_mut-own.ensures.value in
    let becomes = current_written n c.args.slot _ c.set_current.new.self c.args.current there own c.set_current.ensures in
    rw c.place.ensures
    (IsKept-becomes c.self.inside _ (with_current n c.args.slot c.args.current) becomes refl refl c.self.invariant
    (KeepsRanges-with_current (limits_of n) n c.args.slot c.args.current there fits c.self.invariant.ranges)
    (AreHeld-with_current n c.args.slot c.args.current _ c.self.invariant.held))

pub returns : goal.returns
returns c =
    let there = rw (← c.self.view_is) at c.requires.slot in
    let own = rw c.place.ensures at c.index_mut-own.ensures.value in
    rw (← c.self.view_is, c.place.ensures)
    (current_written (shown c.self.inside) c.args.slot _ c.set_current.new.self c.args.current there own c.set_current.ensures)
