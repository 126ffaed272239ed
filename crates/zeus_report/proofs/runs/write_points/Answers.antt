use Rattle.std.proofs.Common.{refl}
use Rattle.zeus_base.specs.LoopLaws.{one_more, all_done}
use Rattle.zeus_model.specs.ReportText.{point_lines}
use Rattle.zeus_report.specs.Lines.{point_of}
use Rattle.zeus_report.proofs.runs.write_points.Goals as goal

pub loop-id-preserved : goal.loop-id-preserved
unfolding point_lines
loop-id-preserved c =
    let book = c.args.world.now.book in
    let told = c.reply.ensures in
    let added = c.in_ok-write_point.ensures in
    one_more (point_lines book) (point_of book) (λ k ks. refl) c.args.ids.now c.loop-id.id-index c.id-item.result
    c.loop-id.out.items c.write_point.new.out.items _ c.loop-id-test.true c.id-item.is c.loop-id.invariant (cc (told, added))

pub returns : goal.returns
unfolding point_lines
returns c = all_done (point_lines c.args.world.now.book) refl c.args.ids.now c.loop-id.id-index c.loop-id.out.items _ c.loop-id-test.false c.loop-id.invariant
