use Rattle.std.proofs.Common.{refl}
use Rattle.node_ranges.specs.Parts.{KeepsRanges-view}
use Rattle.node_ranges.specs.Ranges.{limits_of}
use Rattle.node_state.specs.Changes.{in_view}
use Rattle.node_state.specs.Shown.{shown}
use Rattle.node_state.proofs.Keeping.{IsKept-beside}
use Rattle.node_state.proofs.state.NodeState.take_view.Goals as goal

pub invariant_of-self : goal.invariant_of-self
invariant_of-self c =
    let n = shown c.self.inside in
    let v = c.args.view.now in
    IsKept-beside c.self.inside _ (in_view n v) (rw (c.drop_all.ensures.after, c.reset.ensures) refl) refl refl c.self.invariant
    (KeepsRanges-view (limits_of n) n v.epoch v.members c.requires.epoch (rw (← c.self.view_is) at c.requires.members) c.self.invariant.ranges)
    refl refl
