use Rattle.std.proofs.Common.{length, arith}
use Rattle.zeus_model.specs.Membership.{repeat_done}
use Rattle.tick_rules.proofs.Saying.{each-end, each-step}
use Rattle.tick_rules.proofs.timer.repeat_done.Goals as goal

pub loop-slot-preserved : goal.loop-slot-preserved
loop-slot-preserved c = each-step (repeat_done c.args.node.now) (length c.args.node.now.slots) _ c.loop-slot.slot _ _ _ (omega arith) c.loop-slot.invariant c.tell_done.ensures

pub returns : goal.returns
returns c = each-end (repeat_done c.args.node.now) (length c.args.node.now.slots) _ c.loop-slot.slot _ _ (omega arith) c.loop-slot.invariant
