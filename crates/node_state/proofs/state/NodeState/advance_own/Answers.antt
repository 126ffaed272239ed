use Rattle.std.proofs.Common.{◌∙◌, ap, refl}
use Rattle.zeus_model.specs.Commit.{advance_own}
use Rattle.reliable_commit.specs.AdvanceLaws.{AreHeld-advanced}
use Rattle.node_ranges.specs.CommitRules.{advance_own-keeps}
use Rattle.node_ranges.specs.Derived.{entries-within}
use Rattle.node_ranges.specs.Ranges.{limits_of}
use Rattle.node_state.specs.Shown.{shown}
use Rattle.node_state.proofs.Committing.{advance_own-node, limits_of-kept, own_with, slot_here}
use Rattle.node_state.proofs.Keeping.{IsKept-becomes}
use Rattle.node_state.proofs.state.NodeState.advance_own.Goals as goal

pub advance_own-requires : goal.advance_own-requires
advance_own-requires c =
    let n = shown c.self.inside in
    let within = rw (← c.self.view_is) at c.requires in
    let here = slot_here n c.args.slot c.place.result _ _ within c.place.ensures c.index_mut-slot.ensures.value c.slot.view_is in
    rw here at (entries-within (limits_of n) n c.args.slot c.self.invariant.ranges)

pub invariant_of-self : goal.invariant_of-self
invariant_of-self c =
    let n = shown c.self.inside in
    let within = rw (← c.self.view_is) at c.requires in
    let here = slot_here n c.args.slot c.place.result _ _ within c.place.ensures c.index_mut-slot.ensures.value c.slot.view_is in
    let own = own_with n c.args.slot c.slot.inside.current c.slot.inside.pipe here in
    let does = c.advance_own.ensures.does in
    let acts = does.acts n c.args.slot own in
    let becomes = advance_own-node n c.args.slot c.place.result _ c.advance_own.new.pipe c.advance_own.new.copies.copies within c.place.ensures here acts.copies acts.done acts.pending in
    IsKept-becomes c.self.inside _ (advance_own n c.args.slot).node becomes refl refl c.self.invariant
    (advance_own-keeps (limits_of n) c.args.slot within n c.self.invariant.ranges).node
    (rw does.holds
    (AreHeld-advanced n c.args.slot n.copies c.slot.inside.pipe n.me n.members c.advance_own.result c.self.inside.copies.holds own does.first (does.after ∙ acts.done) c.self.invariant.held))

pub returns-clause-after : goal.returns-clause-after
returns-clause-after c =
    let n = shown c.self.inside in
    let within = rw (← c.self.view_is) at c.requires in
    let here = slot_here n c.args.slot c.place.result _ _ within c.place.ensures c.index_mut-slot.ensures.value c.slot.view_is in
    let acts = c.advance_own.ensures.does.acts n c.args.slot (own_with n c.args.slot c.slot.inside.current c.slot.inside.pipe here) in
    rw (← c.self.view_is)
    (advance_own-node n c.args.slot c.place.result _ c.advance_own.new.pipe c.advance_own.new.copies.copies within c.place.ensures here acts.copies acts.done acts.pending)

pub returns-clause-letters : goal.returns-clause-letters
returns-clause-letters c =
    let n = shown c.self.inside in
    let within = rw (← c.self.view_is) at c.requires in
    let here = slot_here n c.args.slot c.place.result _ _ within c.place.ensures c.index_mut-slot.ensures.value c.slot.view_is in
    rw (← c.self.view_is) (c.advance_own.ensures.does.acts n c.args.slot (own_with n c.args.slot c.slot.inside.current c.slot.inside.pipe here)).letters

pub returns-clause-passed : goal.returns-clause-passed
returns-clause-passed c =
    let n = shown c.self.inside in
    let within = rw (← c.self.view_is) at c.requires in
    let here = slot_here n c.args.slot c.place.result _ _ within c.place.ensures c.index_mut-slot.ensures.value c.slot.view_is in
    rw (← c.self.view_is) (c.advance_own.ensures.does.acts n c.args.slot (own_with n c.args.slot c.slot.inside.current c.slot.inside.pipe here)).passed

pub returns-clause-limits : goal.returns-clause-limits
returns-clause-limits c =
    let n = shown c.self.inside in
    let within = rw (← c.self.view_is) at c.requires in
    let here = slot_here n c.args.slot c.place.result _ _ within c.place.ensures c.index_mut-slot.ensures.value c.slot.view_is in
    let acts = c.advance_own.ensures.does.acts n c.args.slot (own_with n c.args.slot c.slot.inside.current c.slot.inside.pipe here) in
    let becomes = advance_own-node n c.args.slot c.place.result _ c.advance_own.new.pipe c.advance_own.new.copies.copies within c.place.ensures here acts.copies acts.done acts.pending in
    rw (← c.self.view_is) (ap limits_of becomes ∙ limits_of-kept n (advance_own n c.args.slot).node (advance_own-keeps (limits_of n) c.args.slot within n c.self.invariant.ranges).node)
