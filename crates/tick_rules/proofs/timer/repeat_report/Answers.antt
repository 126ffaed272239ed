use Rattle.std.proofs.Common.{sym, arith}
use Rattle.node_state.specs.EffectLaws.{adds_nothing}
use Rattle.tick_rules.proofs.Telling.{report-early, report-none, report-told}
use Rattle.tick_rules.proofs.timer.repeat_report.Goals.{else-epoch-gt1-via-then-epoch-gt1+else-has_reported, else-epoch-gt1-via-else-epoch-gt1}
use Rattle.tick_rules.proofs.timer.repeat_report.Goals as goal

pub returns-then-has_reported : goal.returns-then-has_reported
returns-then-has_reported c =
    rw (report-told c.args.node.now (omega arith) (rw c.me.ensures.number at (sym c.if-has_reported.ensures))) (rw c.others.ensures at c.send_each.ensures)

pub returns-else-epoch-gt1 : goal.returns-else-epoch-gt1
returns-else-epoch-gt1 c =
    elim c.else-epoch-gt1.branch [
      | else-epoch-gt1-via-then-epoch-gt1+else-has_reported w ↦ rw (report-none c.args.node.now (rw w.me.ensures.number at (sym w.if-has_reported.ensures))) (adds_nothing _ c.requires)
      | else-epoch-gt1-via-else-epoch-gt1 w ↦ rw (report-early c.args.node.now (omega (arith, w.if-epoch-gt1.false))) (adds_nothing _ c.requires)
    ]
