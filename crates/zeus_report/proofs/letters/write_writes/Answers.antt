use Rattle.std.proofs.Common.{refl}
use Rattle.zeus_base.specs.LoopLaws.{one_more, all_done}
use Rattle.zeus_model.specs.ReportWords.{writes_text}
use Rattle.zeus_report.specs.Lines.{write_text}
use Rattle.zeus_report.proofs.letters.write_writes.Goals as goal

pub loop-write-preserved : goal.loop-write-preserved
unfolding writes_text
loop-write-preserved c =
    let names = c.args.names.now in
    one_more (writes_text names) (write_text names) (λ w ws. refl)
    c.args.writes.now c.loop-write.write-index c.write-item.result c.loop-write.out.items c.write_write.new.out.items _
    c.loop-write-test.true c.write-item.is c.loop-write.invariant (c.in_ok-write_write.ensures)

pub returns : goal.returns
unfolding writes_text
returns c = all_done (writes_text c.args.names.now) refl c.args.writes.now c.loop-write.write-index c.loop-write.out.items _ c.loop-write-test.false c.loop-write.invariant
