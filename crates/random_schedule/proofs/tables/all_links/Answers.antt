use Rattle.std.specs.Prelude.{map}
use Rattle.zeus_base.specs.LoopLaws.{count_more, count_done}
use Rattle.zeus_model.specs.Tables.{below}
use Rattle.random_schedule.specs.Choices.{pairs}
use Rattle.random_schedule.specs.Schedule.{first_packet}
use Rattle.random_schedule.proofs.Making.{pairs-cons, pairs-nil}
use Rattle.random_schedule.proofs.tables.all_links.Goals as goal

pub loop-from-preserved : goal.loop-from-preserved
loop-from-preserved c =
    let ns = below c.args.nodes in
    count_more (λ ms. pairs first_packet ms ns) (λ m. map (first_packet m) ns) (pairs-cons first_packet ns) c.loop-from.from c.args.nodes _ _ _ c.loop-from-test.true
    c.loop-from.invariant c.in_ok-add_links.ensures

pub returns : goal.returns
returns c =
    let ns = below c.args.nodes in
    count_done (λ ms. pairs first_packet ms ns) (pairs-nil first_packet ns) c.loop-from.from c.args.nodes _ _ c.loop-from-test.false c.loop-from.invariant
