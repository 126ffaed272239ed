use Rattle.std.proofs.Common.{[], ◌∷◌, refl}
use Rattle.std.specs.Prelude.{map}
use Rattle.zeus_base.specs.LoopLaws.{count_more, count_done}
use Rattle.random_schedule.specs.Choices.{stream}
use Rattle.random_schedule.proofs.Making.{map-cons}
use Rattle.random_schedule.proofs.tables.add_slots.Goals as goal

pub loop-slot-preserved : goal.loop-slot-preserved
loop-slot-preserved c =
    count_more (map (stream c.args.node)) (λ n. stream c.args.node n ∷ []) (map-cons (stream c.args.node)) c.loop-slot.slot c.args.slots _ _ _ c.loop-slot-test.true c.loop-slot.invariant
    c.in_ok-push.ensures

pub returns : goal.returns
returns c = count_done (map (stream c.args.node)) refl c.loop-slot.slot c.args.slots _ _ c.loop-slot-test.false c.loop-slot.invariant
