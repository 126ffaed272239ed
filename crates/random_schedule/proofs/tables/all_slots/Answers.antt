use Rattle.std.specs.Prelude.{map}
use Rattle.zeus_base.specs.LoopLaws.{count_more, count_done}
use Rattle.zeus_model.specs.Tables.{below}
use Rattle.random_schedule.specs.Choices.{pairs, stream}
use Rattle.random_schedule.proofs.Making.{pairs-cons, pairs-nil}
use Rattle.random_schedule.proofs.tables.all_slots.Goals as goal

pub loop-node-preserved : goal.loop-node-preserved
loop-node-preserved c =
    let ns = below c.args.slots in
    count_more (λ ms. pairs stream ms ns) (λ m. map (stream m) ns) (pairs-cons stream ns) c.loop-node.node c.args.nodes _ _ _ c.loop-node-test.true
    c.loop-node.invariant c.in_ok-add_slots.ensures

pub returns : goal.returns
returns c =
    let ns = below c.args.slots in
    count_done (λ ms. pairs stream ms ns) (pairs-nil stream ns) c.loop-node.node c.args.nodes _ _ c.loop-node-test.false c.loop-node.invariant
