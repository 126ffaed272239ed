use Rattle.std.proofs.Common.{[], ◌∷◌, refl}
use Rattle.std.specs.Prelude.{map}
use Rattle.zeus_base.specs.LoopLaws.{count_more, count_done}
use Rattle.random_schedule.specs.Schedule.{first_packet}
use Rattle.random_schedule.proofs.Making.{map-cons}
use Rattle.random_schedule.proofs.tables.add_links.Goals as goal

pub loop-to-preserved : goal.loop-to-preserved
loop-to-preserved c =
    count_more (map (first_packet c.args.from)) (λ n. first_packet c.args.from n ∷ []) (map-cons (first_packet c.args.from)) c.loop-to.to c.args.nodes _ _ _ c.loop-to-test.true c.loop-to.invariant
    c.in_ok-push.ensures

pub returns : goal.returns
returns c = count_done (map (first_packet c.args.from)) refl c.loop-to.to c.args.nodes _ _ c.loop-to-test.false c.loop-to.invariant
