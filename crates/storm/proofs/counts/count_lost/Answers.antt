use Rattle.std.proofs.Common.{◌∙◌, ap, arith, length, refl, sym}
use Rattle.zeus_base.specs.declared.config.Config.{Config}
use Rattle.zeus_model.specs.Readers.{is_lost}
use Rattle.storm.specs.Counts.{count}
use Rattle.storm.proofs.Counting.{count-few, counted-no, counted-yes}
use Rattle.storm.proofs.counts.count_lost.Goals as goal
use Rattle.storm.proofs.counts.count_lost.Goals.{then-is_lost, else-is_lost}

pub loop-obj-init : goal.loop-obj-init
unfolding count
loop-obj-init c = refl

pub overflow_add-lost : goal.overflow_add-lost
overflow_add-lost c =
    let few = count-few (is_lost c.args.world.now) c.loop-obj.obj in
    let same = ap (λ (cf : Config). length cf.objects) c.config.ensures in
    omega (arith, c.loop-obj.invariant, few, same, c.len-obj-end.ensures, c.loop-obj-test.true, c.requires)

pub loop-obj-preserved : goal.loop-obj-preserved
loop-obj-preserved c =
    elim c.if-is_lost.branch [
      | then-is_lost w ↦ counted-yes (is_lost c.args.world.now) c.loop-obj.obj c.loop-obj.lost _ c.loop-obj.invariant (sym c.is_lost.ensures ∙ w.if-is_lost.true) w.lost-is
      | else-is_lost w ↦ counted-no (is_lost c.args.world.now) c.loop-obj.obj c.loop-obj.lost _ c.loop-obj.invariant (sym c.is_lost.ensures ∙ w.if-is_lost.false) w.lost-is
    ]
