use Rattle.std.proofs.Common.{sym, ◌∙◌}
use Rattle.zeus_world.proofs.Standing.{lost_whole, lost_live, lost_later, lost_end}
use Rattle.zeus_world.proofs.world.World.is_lost.Goals as goal

pub loop-replica-init : goal.loop-replica-init
loop-replica-init c =
    lost_whole c.args.self.now c.args.obj _ _ c.into_iter-replica-iterator.ensures.into_iter_gives c.latest_place-replica-items.ensures

pub returns-then-is_live : goal.returns-then-is_live
returns-then-is_live c =
    sym (lost_live c.args.self.now _ _ c.in-Some.replica c.in-Some.ensures.steps (sym c.is_live.ensures ∙ c.if-is_live.true)) ∙ c.loop-replica.invariant

pub loop-replica-preserved : goal.loop-replica-preserved
loop-replica-preserved c =
    sym (lost_later c.args.self.now _ _ c.in-Some.replica c.in-Some.ensures.steps (sym c.is_live.ensures ∙ c.if-is_live.false)) ∙ c.loop-replica.invariant

pub returns : goal.returns
returns c = sym (lost_end c.args.self.now _ c.in-None.ensures.steps.0) ∙ c.loop-replica.invariant
