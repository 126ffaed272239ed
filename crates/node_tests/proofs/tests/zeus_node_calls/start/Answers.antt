use Rattle.std.proofs.Common.{refl, sym, ◌∙◌}
use Rattle.zeus_base.specs.Limits.{limits_of}
use Rattle.zeus_model.specs.World.{start_node}
use Rattle.node_ranges.specs.Derived.{limits_of-kept}
use Rattle.node_ranges.specs.StartRanges.{KeepsRanges-start}
use Rattle.node_tests.proofs.tests.zeus_node_calls.start.Goals as goal

pub returns : goal.returns
returns c =
    let config = c.in_ok-config.config in
    let less = rw (← c.in_ok-config.ensures.nodes) at c.requires in
    rw c.in_ok-new.ensures
    (sym (limits_of-kept (limits_of config) (start_node config c.args.me) (KeepsRanges-start config c.args.me c.in_ok-config.ensures.limits less))
    ∙ rw (c.in_ok-config.ensures.nodes, c.in_ok-config.ensures.slots, c.in_ok-config.ensures.objects) refl)
