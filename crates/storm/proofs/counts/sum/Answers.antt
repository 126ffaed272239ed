use Rattle.std.proofs.Common.{◌∙◌, ap, refl}
use Rattle.storm.specs.Counts.{number_of, summed}
use Rattle.storm.proofs.Counting.{wrapped-next}
use Rattle.storm.proofs.counts.sum.Goals as goal

pub loop-obj-init : goal.loop-obj-init
unfolding summed
loop-obj-init c = refl

pub loop-obj-preserved : goal.loop-obj-preserved
loop-obj-preserved c =
    wrapped-next c.args.map.now c.loop-obj.obj c.loop-obj.sum c.number_of-sum.result _ c.loop-obj.invariant (c.number_of-sum.ensures ∙ ap number_of c.value.ensures) refl
