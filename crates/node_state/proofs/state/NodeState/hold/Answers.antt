use Rattle.std.proofs.Common.{refl}
use Rattle.zeus_model.specs.Ownership.{holding}
use Rattle.node_ranges.specs.OwnershipChanges.{KeepsRanges-holding}
use Rattle.node_state.specs.Shown.{shown}
use Rattle.node_state.proofs.Keeping.{IsKept-beside}
use Rattle.node_state.proofs.Owning.{holding-by}
use Rattle.node_state.proofs.state.NodeState.hold.Goals as goal

pub invariant_of-self : goal.invariant_of-self
invariant_of-self c =
    let n = shown c.self.inside in
    IsKept-beside c.self.inside _ (holding n c.args.obj c.args.p.now)
    (holding-by n c.hold.new.self c.args.obj c.hold.ensures.nodes c.hold.ensures.degree c.args.p.now (c.hold.ensures.after n refl)) refl refl c.self.invariant
    (KeepsRanges-holding _ n c.args.obj c.args.p.now (rw (← c.self.view_is) at c.requires.object) (rw (← c.self.view_is) at c.requires.proposal) c.self.invariant.ranges)
    refl refl

pub returns-clause-after : goal.returns-clause-after
returns-clause-after c =
    rw (← c.self.view_is)
    (holding-by (shown c.self.inside) c.hold.new.self c.args.obj c.hold.ensures.nodes c.hold.ensures.degree c.args.p.now (c.hold.ensures.after (shown c.self.inside) refl))
