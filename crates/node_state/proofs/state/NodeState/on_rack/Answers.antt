use Rattle.std.proofs.Common.{rules, ◌≡◌, ◌<◌, ◌==◌, true, false, length, refl, arith}
use Rattle.zeus_model.specs.Commit.{on_own_rack, on_rack}
use Rattle.node_ranges.specs.CommitChanges.{stream_fits-slot}
use Rattle.node_ranges.specs.CommitRules.{on_rack-keeps}
use Rattle.node_ranges.specs.Ranges.{limits_of}
use Rattle.object_table.specs.NodeHolds.{AreHeld-on_own_rack}
use Rattle.node_state.specs.Shown.{shown}
use Rattle.node_state.proofs.Committing.{kept_rack-node, on_rack-kept, on_rack-own, own_rack-answer, own_rack-node, slot_here, slots-of, there}
use Rattle.node_state.proofs.Keeping.{IsKept-becomes, IsKept-beside}
use Rattle.node_state.proofs.state.NodeState.on_rack.Goals as goal

pub ack-requires : goal.ack-requires
ack-requires c = there (shown c.self.inside) c.args.s (rw (← c.self.view_is) at c.requires) c.self.invariant.ranges

pub invariant_of-self : goal.invariant_of-self
invariant_of-self c =
    let n = shown c.self.inside in
    let other : (c.args.s.node == n.me) ≡ false = grind arith in
    let becomes = kept_rack-node n c.args.from c.args.s c.args.number _ other (c.ack.ensures.after n refl) in
    IsKept-beside c.self.inside _ (on_rack n c.args.from c.args.s c.args.number).node becomes refl refl c.self.invariant
    (on_rack-keeps (limits_of n) n c.args.from c.args.s c.args.number (rw (← c.self.view_is) at c.requires) c.self.invariant.ranges).node
    refl (slots-of _ _ becomes)

pub returns-then-ne-clause-answer : goal.returns-then-ne-clause-answer
returns-then-ne-clause-answer c =
    let n = shown c.self.inside in
    let other : (c.args.s.node == n.me) ≡ false = grind arith in
    rw (← c.self.view_is, on_rack-kept n c.args.from c.args.s c.args.number other) (c.ack.ensures.answer n refl)

pub returns-then-ne-clause-after : goal.returns-then-ne-clause-after
returns-then-ne-clause-after c =
    let n = shown c.self.inside in
    let other : (c.args.s.node == n.me) ≡ false = grind arith in
    rw (← c.self.view_is) (kept_rack-node n c.args.from c.args.s c.args.number _ other (c.ack.ensures.after n refl))

pub index_mut-slot-requires : goal.index_mut-slot-requires
index_mut-slot-requires c =
    let within : c.args.s.slot < length c.self.inside.slots.items = stream_fits-slot (limits_of (shown c.self.inside)) c.args.s (rw (← c.self.view_is) at c.requires) in
    search rules

pub invariant_of-self-2 : goal.invariant_of-self-2
invariant_of-self-2 c =
    let n = shown c.self.inside in
    let fit = rw (← c.self.view_is) at c.requires in
    let within = stream_fits-slot (limits_of n) c.args.s fit in
    let own : (c.args.s.node == n.me) ≡ true = grind arith in
    let here = slot_here n c.args.s.slot c.place.result _ _ within c.place.ensures c.index_mut-slot.ensures.value c.slot.view_is in
    let becomes = own_rack-node n c.args.from c.args.s.slot c.args.number c.slot.inside.current c.slot.inside.pipe c.ack-2.new.self within here c.ack-2.ensures.after c.place.result c.place.ensures in
    IsKept-becomes c.self.inside _ (on_own_rack n c.args.from c.args.s.slot c.args.number).node becomes refl refl c.self.invariant
    (rw (on_rack-own n c.args.from c.args.s c.args.number own) at (on_rack-keeps (limits_of n) n c.args.from c.args.s c.args.number fit c.self.invariant.ranges).node)
    (AreHeld-on_own_rack n c.args.from c.args.s.slot c.args.number c.self.inside.copies.holds c.self.invariant.held)

pub returns-clause-answer : goal.returns-clause-answer
returns-clause-answer c =
    let n = shown c.self.inside in
    let within = stream_fits-slot (limits_of n) c.args.s (rw (← c.self.view_is) at c.requires) in
    let own : (c.args.s.node == n.me) ≡ true = grind arith in
    let here = slot_here n c.args.s.slot c.place.result _ _ within c.place.ensures c.index_mut-slot.ensures.value c.slot.view_is in
    rw (← c.self.view_is, on_rack-own n c.args.from c.args.s c.args.number own)
    (own_rack-answer n c.args.from c.args.s.slot c.args.number c.slot.inside.current c.slot.inside.pipe c.ack-2.result here c.ack-2.ensures.answer)

pub returns-clause-after : goal.returns-clause-after
returns-clause-after c =
    let n = shown c.self.inside in
    let within = stream_fits-slot (limits_of n) c.args.s (rw (← c.self.view_is) at c.requires) in
    let own : (c.args.s.node == n.me) ≡ true = grind arith in
    let here = slot_here n c.args.s.slot c.place.result _ _ within c.place.ensures c.index_mut-slot.ensures.value c.slot.view_is in
    rw (← c.self.view_is, on_rack-own n c.args.from c.args.s c.args.number own)
    (own_rack-node n c.args.from c.args.s.slot c.args.number c.slot.inside.current c.slot.inside.pipe c.ack-2.new.self within here c.ack-2.ensures.after c.place.result c.place.ensures)
