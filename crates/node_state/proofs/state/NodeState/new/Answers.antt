use Rattle.std.proofs.Common.{refl}
use Rattle.node_state.proofs.Starting.{IsKept-start, start_by}
use Rattle.node_state.proofs.state.NodeState.new.Goals as goal

pub invariant_of-result : goal.invariant_of-result
invariant_of-result c =
    IsKept-start _ c.args.config.now c.args.me _ c.requires.limits c.requires.me
    (rw (c.new-5.ensures) (start_by c.args.config.now c.args.me c.below-all.result c.in_ok-new.field-0 _ _ _ _ c.below-all.ensures c.in_ok-new.ensures c.in_ok-new-2.ensures.copies c.in_ok-new-3.ensures c.in_ok-start_slots.ensures c.in_ok-new-4.ensures))
    c.in_ok-new-2.ensures.holds refl refl

pub returns : goal.returns
returns c =
    rw (c.new-5.ensures) (start_by c.args.config.now c.args.me c.below-all.result c.in_ok-new.field-0 _ _ _ _ c.below-all.ensures c.in_ok-new.ensures c.in_ok-new-2.ensures.copies c.in_ok-new-3.ensures c.in_ok-start_slots.ensures c.in_ok-new-4.ensures)
