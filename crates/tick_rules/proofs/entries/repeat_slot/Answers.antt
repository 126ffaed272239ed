use Rattle.std.proofs.Common.{◌≡◌, ap}
use Rattle.zeus_base.specs.declared.order.Stream.{Stream}
use Rattle.tick_rules.proofs.Repeating.{pending-all, pending-end, pending-next}
use Rattle.tick_rules.proofs.Saying.{StillSends-end, StillSends-step}
use Rattle.tick_rules.proofs.entries.repeat_slot.Goals as goal

pub loop-entry-preserved : goal.loop-entry-preserved
loop-entry-preserved c =
    StillSends-step _ _ _ _ _ _ _ (pending-next c.args.node.now _ c.done-done.result c.slot-own.result.now.pending c.loop-entry.place c.in-Some.entry.now c.in-Some.ensures)
    c.loop-entry.invariant c.repeat_entry.ensures

pub returns : goal.returns
returns c =
    let stream : ◌≡◌ {A = Stream} (record { node = c.me.result; slot = c.args.slot }) (record { node = c.args.node.now.me; slot = c.args.slot }) = ap (λ m. record { node = m; slot = c.args.slot }) c.me.ensures.number in
    rw (pending-all c.args.node.now c.args.slot c.done-done.result c.slot-own.result.now _ c.slot-own.ensures.value c.done-done.ensures stream)
    (StillSends-end _ _ _ _ (pending-end c.args.node.now _ c.done-done.result c.slot-own.result.now.pending c.loop-entry.place c.in_default.ensures) c.loop-entry.invariant)
