use Rattle.std.proofs.Common.{refl, ap, ◌∙◌}
use Rattle.zeus_model.specs.Commit.{advance_kept}
use Rattle.node_ranges.specs.CommitRules.{advance_kept-keeps}
use Rattle.node_ranges.specs.Ranges.{limits_of}
use Rattle.node_state.specs.Shown.{shown}
use Rattle.node_state.proofs.Committing.{advance_kept-node, limits_of-kept, followed, itself-member, slots-of}
use Rattle.node_state.proofs.Keeping.{IsKept-beside}
use Rattle.node_state.proofs.state.NodeState.advance_kept.Goals as goal

pub advance_kept-requires : goal.advance_kept-requires
advance_kept-requires c = followed (shown c.self.inside) c.args.s (rw (← c.self.view_is) at c.requires) c.self.invariant.ranges

pub invariant_of-self : goal.invariant_of-self
invariant_of-self c =
    let n = shown c.self.inside in
    let acts = c.advance_kept.ensures.does.acts n (itself-member n) in
    let becomes = advance_kept-node n c.args.s _ _ acts.copies acts.logs in
    IsKept-beside c.self.inside _ (advance_kept n c.args.s).node becomes refl refl c.self.invariant
    (advance_kept-keeps (limits_of n) c.args.s (rw (← c.self.view_is) at c.requires) n c.self.invariant.ranges).node
    c.advance_kept.ensures.does.holds (slots-of _ _ becomes)

pub returns-clause-after : goal.returns-clause-after
returns-clause-after c =
    let n = shown c.self.inside in
    let acts = c.advance_kept.ensures.does.acts n (itself-member n) in
    rw (← c.self.view_is) (advance_kept-node n c.args.s _ _ acts.copies acts.logs)

pub returns-clause-limits : goal.returns-clause-limits
returns-clause-limits c =
    let n = shown c.self.inside in
    let acts = c.advance_kept.ensures.does.acts n (itself-member n) in
    let becomes = advance_kept-node n c.args.s _ _ acts.copies acts.logs in
    rw (← c.self.view_is) (ap limits_of becomes ∙ limits_of-kept n (advance_kept n c.args.s).node (advance_kept-keeps (limits_of n) c.args.s (rw (← c.self.view_is) at c.requires) n c.self.invariant.ranges).node)

pub returns-clause-letters : goal.returns-clause-letters
returns-clause-letters c =
    let n = shown c.self.inside in
    rw (← c.self.view_is) (c.advance_kept.ensures.does.acts n (itself-member n)).letters

pub returns-clause-passed : goal.returns-clause-passed
returns-clause-passed c =
    let n = shown c.self.inside in
    rw (← c.self.view_is) (c.advance_kept.ensures.does.acts n (itself-member n)).passed
