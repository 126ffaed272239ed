use Rattle.std.proofs.Common.{◌≡◌, []}
use Rattle.zeus_model.specs.Act.{to_each}
use Rattle.node_state.specs.EffectLaws.{adds_nothing}
use Rattle.node_state.proofs.state.NodeState.tell_done.Goals as goal

pub returns-then-is_empty : goal.returns-then-is_empty
unfolding to_each
returns-then-is_empty c =
    let none : c.args.receivers ≡ [] = c.is_empty.ensures.0 c.if-is_empty.true in
    rw none (adds_nothing c.args.out.now c.requires)
