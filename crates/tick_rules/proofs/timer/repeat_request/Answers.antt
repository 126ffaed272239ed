use Rattle.std.proofs.Common.{sym}
use Rattle.node_state.specs.EffectLaws.{adds_nothing}
use Rattle.zeus_model.specs.State.{slot}
use Rattle.tick_rules.proofs.Saying.{adds_full}
use Rattle.tick_rules.proofs.Telling.{requests-idle, requests-none, requests-read, requests-write}
use Rattle.tick_rules.proofs.timer.repeat_request.Goals as goal

pub returns-then-is_full : goal.returns-then-is_full
returns-then-is_full c = adds_full _ _ c.if-is_full.ensures.full c.is_full.ensures.most

pub returns-in_default : goal.returns-in_default
returns-in_default c =
    rw (requests-idle c.args.node.now (slot c.args.node.now c.args.slot).current (sym c.in_default.ensures)) (adds_nothing _ c.is_full.ensures.most)

pub returns-then-is_write : goal.returns-then-is_write
returns-then-is_write c =
    rw (requests-write c.args.node.now (slot c.args.node.now c.args.slot).current c.in-Some.current.now (sym c.in-Some.ensures) (sym c.if-is_write.ensures)) c.ask_to_own.ensures

pub returns-then-is_some : goal.returns-then-is_some
returns-then-is_some c =
    rw (requests-read c.args.node.now (slot c.args.node.now c.args.slot).current c.in-Some.current.now (sym c.in-Some.ensures) (sym c.if-is_write.ensures) (rw c.degree.ensures at (sym c.if-is_some.ensures))) c.ask_for_copies.ensures

pub returns-else-is_some : goal.returns-else-is_some
returns-else-is_some c =
    rw (requests-none c.args.node.now (slot c.args.node.now c.args.slot).current c.in-Some.current.now (sym c.in-Some.ensures) (sym c.if-is_write.ensures) (rw c.degree.ensures at (sym c.if-is_some.ensures))) (adds_nothing _ c.is_full.ensures.most)
