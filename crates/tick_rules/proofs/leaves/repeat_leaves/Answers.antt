use Rattle.std.proofs.Common.{length, arith}
use Rattle.zeus_model.specs.Membership.{repeat_leave}
use Rattle.zeus_model.specs.Tables.{below}
use Rattle.node_state.specs.EffectLaws.{adds_nothing}
use Rattle.tick_rules.proofs.Leaving.{leaves-none, no-degree}
use Rattle.tick_rules.proofs.Saying.{each-end, each-step}
use Rattle.tick_rules.proofs.leaves.repeat_leaves.Goals as goal

pub returns-then-is_none : goal.returns-then-is_none
returns-then-is_none c =
    let none = no-degree c.args.node.now c.degree.result c.is_none.result c.degree.ensures c.is_none.ensures c.if-is_none.true in
    rw (leaves-none c.args.node.now (below (length c.args.node.now.entries)) none) (adds_nothing _ c.requires)

pub loop-obj-preserved : goal.loop-obj-preserved
loop-obj-preserved c = each-step (repeat_leave c.args.node.now) (length c.args.node.now.entries) _ c.loop-obj.obj _ _ _ (omega arith) c.loop-obj.invariant c.repeat_leave.ensures

pub returns : goal.returns
returns c = each-end (repeat_leave c.args.node.now) (length c.args.node.now.entries) _ c.loop-obj.obj _ _ (omega arith) c.loop-obj.invariant
