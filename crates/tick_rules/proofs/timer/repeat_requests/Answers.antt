use Rattle.std.proofs.Common.{length, arith}
use Rattle.zeus_model.specs.Membership.{repeat_requests}
use Rattle.zeus_model.specs.State.{slot}
use Rattle.tick_rules.proofs.Saying.{each-end, each-step}
use Rattle.tick_rules.proofs.timer.repeat_requests.Goals as goal

pub loop-slot-preserved : goal.loop-slot-preserved
loop-slot-preserved c =
    each-step (λ s. repeat_requests c.args.node.now (slot c.args.node.now s).current) (length c.args.node.now.slots) _ c.loop-slot.slot _ _ _ (omega arith) c.loop-slot.invariant c.repeat_request.ensures

pub returns : goal.returns
returns c =
    each-end (λ s. repeat_requests c.args.node.now (slot c.args.node.now s).current) (length c.args.node.now.slots) _ c.loop-slot.slot _ _ (omega arith) c.loop-slot.invariant
