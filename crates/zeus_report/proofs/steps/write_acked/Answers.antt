use Rattle.std.proofs.Common.{refl}
use Rattle.zeus_base.specs.LoopLaws.{one_more, all_done}
use Rattle.zeus_model.specs.ReportText.{acked_lines}
use Rattle.zeus_report.specs.Lines.{acked_line}
use Rattle.zeus_report.proofs.steps.write_acked.Goals as goal

pub loop-id-preserved : goal.loop-id-preserved
unfolding acked_lines
loop-id-preserved c =
    one_more acked_lines acked_line (λ k ks. refl) c.args.ids.now c.loop-id.id-index c.id-item.result
    c.loop-id.out.items c.write_ack.new.out.items _ c.loop-id-test.true c.id-item.is c.loop-id.invariant (c.in_ok-write_ack.ensures)

pub returns : goal.returns
unfolding acked_lines
returns c = all_done acked_lines refl c.args.ids.now c.loop-id.id-index c.loop-id.out.items _ c.loop-id-test.false c.loop-id.invariant
