use Rattle.std.proofs.Common.{refl, sym, ◌∙◌, arith, ap, ◌≡◌}
use Rattle.zeus_model.specs.World.{World}
use Rattle.zeus_world.proofs.Viewing.{above_more, below_more, none_stopped}
use Rattle.zeus_world.proofs.world.World.stopped.Goals as goal

pub loop-number-init : goal.loop-number-init
loop-number-init c = record { below = λ n h. absurd (omega arith); above = λ n h. rw c.empty-stopped.ensures (none_stopped n) }

pub loop-number-preserved : goal.loop-number-preserved
loop-number-preserved c = record {
  below = below_more c.args.self.now c.loop-number.stopped c.with_stopped-stopped.result c.loop-number.number c.loop-number.invariant.below c.loop-number.invariant.above c.with_stopped-stopped.ensures;
  above = above_more c.args.self.now c.loop-number.stopped c.with_stopped-stopped.result c.loop-number.number c.loop-number.invariant.above c.with_stopped-stopped.ensures;
}
