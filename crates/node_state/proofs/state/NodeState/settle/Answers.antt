use Rattle.std.proofs.Common.{refl, sym, ◌∙◌}
use Rattle.zeus_model.specs.Ownership.{settle}
use Rattle.node_ranges.specs.OwnershipChanges.{KeepsRanges-settle}
use Rattle.node_state.specs.Shown.{shown}
use Rattle.node_state.proofs.Keeping.{IsKept-beside}
use Rattle.node_state.proofs.Owning.{settle-above, settle-not_above, settle-slots}
use Rattle.node_state.proofs.state.NodeState.settle.Goals as goal

pub invariant_of-self : goal.invariant_of-self
invariant_of-self c =
    let n = shown c.self.inside in
    let e = settle-above n c.settle.new.self c.args.obj c.settle.ensures.nodes c.settle.ensures.degree c.args.stamp c.args.place (c.settle.ensures.after n refl) c.drop_upto.new.self (sym c.settle.ensures.above ∙ c.if-settle.true) c.drop_upto.ensures.after in
    IsKept-beside c.self.inside _ (settle n c.args.obj c.args.stamp c.args.place) e refl refl c.self.invariant
    (KeepsRanges-settle _ n c.args.obj c.args.stamp c.args.place (rw (← c.self.view_is) at c.requires.object) (rw (← c.self.view_is) at c.requires.stamp) (rw (← c.self.view_is) at c.requires.place) c.self.invariant.ranges)
    refl (settle-slots n c.args.obj c.args.stamp c.args.place)

pub invariant_of-self-else-settle : goal.invariant_of-self-else-settle
invariant_of-self-else-settle c =
    let n = shown c.self.inside in
    let e = settle-not_above n c.settle.new.self c.args.obj c.settle.ensures.nodes c.settle.ensures.degree c.args.stamp c.args.place (c.settle.ensures.after n refl) (sym c.settle.ensures.above ∙ c.if-settle.false) in
    IsKept-beside c.self.inside _ (settle n c.args.obj c.args.stamp c.args.place) e refl refl c.self.invariant
    (KeepsRanges-settle _ n c.args.obj c.args.stamp c.args.place (rw (← c.self.view_is) at c.requires.object) (rw (← c.self.view_is) at c.requires.stamp) (rw (← c.self.view_is) at c.requires.place) c.self.invariant.ranges)
    refl (settle-slots n c.args.obj c.args.stamp c.args.place)

pub returns-then-settle : goal.returns-then-settle
returns-then-settle c =
    rw (← c.self.view_is)
    (settle-above _ c.settle.new.self c.args.obj c.settle.ensures.nodes c.settle.ensures.degree c.args.stamp c.args.place (c.settle.ensures.after _ refl) c.drop_upto.new.self (sym c.settle.ensures.above ∙ c.if-settle.true) c.drop_upto.ensures.after)

pub returns-else-settle : goal.returns-else-settle
returns-else-settle c =
    rw (← c.self.view_is)
    (settle-not_above _ c.settle.new.self c.args.obj c.settle.ensures.nodes c.settle.ensures.degree c.args.stamp c.args.place (c.settle.ensures.after _ refl) (sym c.settle.ensures.above ∙ c.if-settle.false))
