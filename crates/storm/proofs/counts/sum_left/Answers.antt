use Rattle.std.proofs.Common.{◌∙◌, ap, arith, length}
use Rattle.zeus_base.specs.declared.config.Config.{Config}
use Rattle.storm.proofs.Sizes.{all-left}
use Rattle.storm.proofs.counts.sum_left.Goals as goal

pub sum-requires : goal.sum-requires
sum-requires c =
    let count = c.len.ensures ∙ ap (λ (cf : Config). length cf.objects) c.config.ensures in
    let all = all-left c.args.world.now.config _ c.in_ok-map.map c.in_ok-map.ensures in
    (omega (arith, count, c.requires), omega (arith, count, all))
