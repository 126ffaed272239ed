use Rattle.std.proofs.Common.{refl}
use Rattle.zeus_base.specs.LoopLaws.{count_more, count_done}
use Rattle.zeus_model.specs.ReportText.{object_text, objects_text}
use Rattle.zeus_report.proofs.standing.write_objects.Goals as goal

pub loop-x-preserved : goal.loop-x-preserved
unfolding objects_text
loop-x-preserved c =
    let names = c.args.names.now in
    let world = c.args.world.now in
    count_more (objects_text names world) (object_text names world) (λ x xs. refl) c.loop-x.x c.args.count
    c.loop-x.out.items c.write_standing.new.out.items _ c.loop-x-test.true c.loop-x.invariant (c.in_ok-write_standing.ensures)

pub returns : goal.returns
unfolding objects_text
returns c = count_done (objects_text c.args.names.now c.args.world.now) refl c.loop-x.x c.args.count c.loop-x.out.items _ c.loop-x-test.false c.loop-x.invariant
