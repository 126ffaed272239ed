use Rattle.std.proofs.Common.{refl, sym, ◌∙◌}
use Rattle.zeus_model.specs.Ownership.{bring}
use Rattle.node_ranges.specs.OwnershipChanges.{KeepsRanges-bring}
use Rattle.node_state.specs.Shown.{shown}
use Rattle.node_state.proofs.Keeping.{IsKept-beside}
use Rattle.node_state.proofs.Owning.{bring-elsewhere, bring-here, bring-slots, brought-kept, brought-leave, value_fits-own}
use Rattle.node_state.proofs.state.NodeState.bring.Goals as goal

pub returns-else-eq : goal.returns-else-eq
returns-else-eq c = bring-elsewhere c.args.self.now c.args.obj c.args.p.now c.args.content.now (rw (← c.self.view_is) (sym c.eq.ensures ∙ c.if-eq.false))

pub invariant_of-self-in-Leave : goal.invariant_of-self-in-Leave
invariant_of-self-in-Leave c =
    let n = shown c.self.inside in
    IsKept-beside c.self.inside _ (bring n c.args.obj c.args.p.now c.args.content.now)
    (bring-here n c.drop_copy.new.self.copies c.args.obj c.args.p.now c.args.content.now (sym c.eq.ensures ∙ c.if-eq.true) (rw (c.in-Leave.is, brought-leave c.args.content.now) c.drop_copy.ensures.copies))
    refl refl c.self.invariant
    (KeepsRanges-bring _ n c.args.obj c.args.p.now c.args.content.now (rw (← c.self.view_is) at c.requires) (value_fits-own n c.args.content.now.value) c.self.invariant.ranges)
    c.drop_copy.ensures.holds (bring-slots n c.args.obj c.args.p.now c.args.content.now)

pub returns-in-Leave : goal.returns-in-Leave
returns-in-Leave c =
    rw (← c.self.view_is)
    (bring-here _ c.drop_copy.new.self.copies c.args.obj c.args.p.now c.args.content.now (sym c.eq.ensures ∙ c.if-eq.true) (rw (c.in-Leave.is, brought-leave c.args.content.now) c.drop_copy.ensures.copies))

pub invariant_of-self : goal.invariant_of-self
invariant_of-self c =
    let n = shown c.self.inside in
    IsKept-beside c.self.inside _ (bring n c.args.obj c.args.p.now c.args.content.now)
    (bring-here n c.place_copy.new.self.copies c.args.obj c.args.p.now c.args.content.now (sym c.eq.ensures ∙ c.if-eq.true) (rw (← brought-kept c.args.p.now.want c.args.content.now c.in-Own.is) c.place_copy.ensures.copies))
    refl refl c.self.invariant
    (KeepsRanges-bring _ n c.args.obj c.args.p.now c.args.content.now (rw (← c.self.view_is) at c.requires) (value_fits-own n c.args.content.now.value) c.self.invariant.ranges)
    c.place_copy.ensures.holds (bring-slots n c.args.obj c.args.p.now c.args.content.now)

pub returns-in-Own : goal.returns-in-Own
returns-in-Own c =
    rw (← c.self.view_is)
    (bring-here _ c.place_copy.new.self.copies c.args.obj c.args.p.now c.args.content.now (sym c.eq.ensures ∙ c.if-eq.true) (rw (← brought-kept c.args.p.now.want c.args.content.now c.in-Own.is) c.place_copy.ensures.copies))
