use Rattle.std.proofs.Common.{sym, ap, ◌∙◌}
use Rattle.zeus_model.specs.State.{Slot}
use Rattle.node_ranges.specs.Ranges.{limits_of}
use Rattle.node_state.specs.EffectLaws.{adds_nothing}
use Rattle.node_state.specs.Shown.{shown}
use Rattle.node_state.proofs.Requesting.{current_named_of, to_own-none, to_own-some}
use Rattle.node_state.proofs.Slots.{slot_read}
use Rattle.node_state.proofs.state.NodeState.ask_to_own.Goals as goal

pub request_unowned-requires-clause-there : goal.request_unowned-requires-clause-there
request_unowned-requires-clause-there c =
    let n = shown c.self.inside in
    let there = slot_read n c.args.slot _ (rw (← c.self.view_is) at c.requires.slot) (rw c.place.ensures at c.index-slot.ensures) in
    let current = ap (λ (l : Slot). l.current) (there ∙ sym c.slot.view_is) ∙ sym c.in-Some.ensures.value in
    rw (c.named.ensures, ← c.self.view_is) (current_named_of (limits_of n) _ c.in-Some.current.now current (c.self.invariant.ranges.slots c.args.slot).current)

pub returns-in-Some : goal.returns-in-Some
returns-in-Some c =
    let n = shown c.self.inside in
    let there = slot_read n c.args.slot _ (rw (← c.self.view_is) at c.requires.slot) (rw c.place.ensures at c.index-slot.ensures) in
    let current = ap (λ (l : Slot). l.current) (there ∙ sym c.slot.view_is) ∙ sym c.in-Some.ensures.value in
    let requested = rw (← c.self.view_is, c.named.ensures) at c.request_unowned-in-Some.ensures in
    rw (← c.self.view_is, to_own-some n _ c.in-Some.current.now current) requested

pub returns-in_default : goal.returns-in_default
returns-in_default c =
    let n = shown c.self.inside in
    let there = slot_read n c.args.slot _ (rw (← c.self.view_is) at c.requires.slot) (rw c.place.ensures at c.index-slot.ensures) in
    let current = ap (λ (l : Slot). l.current) (there ∙ sym c.slot.view_is) ∙ sym c.in_default.ensures.value in
    rw (← c.self.view_is, to_own-none n _ current) (adds_nothing c.args.out.now c.requires.room)
