use Rattle.std.proofs.Common.{arith}
use Rattle.node_state.specs.EffectLaws.{adds_nothing}
use Rattle.tick_rules.proofs.Saying.{adds_full}
use Rattle.tick_rules.proofs.Telling.{done-none, done-told}
use Rattle.tick_rules.proofs.timer.tell_done.Goals as goal

pub returns-then-is_full : goal.returns-then-is_full
returns-then-is_full c = adds_full _ _ c.if-is_full.ensures.full c.is_full.ensures.most

pub returns-then-done-gt0 : goal.returns-then-done-gt0
returns-then-done-gt0 c =
    rw (done-told c.args.node.now c.args.slot c.slot.result.now c.done-done.result c.slot.ensures.value c.done-done.ensures (omega arith))
    (rw (c.others.ensures, c.me.ensures.number) at c.send_each.ensures)

pub returns-else-done-gt0 : goal.returns-else-done-gt0
returns-else-done-gt0 c =
    rw (done-none c.args.node.now c.args.slot c.slot.result.now c.done-done.result c.slot.ensures.value c.done-done.ensures (omega arith))
    (adds_nothing _ c.is_full.ensures.most)
