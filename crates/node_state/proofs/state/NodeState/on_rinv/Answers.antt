use Rattle.std.proofs.Common.{refl}
use Rattle.zeus_model.specs.Commit.{on_rinv}
use Rattle.node_ranges.specs.CommitChanges.{inv_fits-parts}
use Rattle.node_ranges.specs.CommitRules.{on_rinv-keeps}
use Rattle.node_ranges.specs.Derived.{within-letter}
use Rattle.node_ranges.specs.Ranges.{limits_of}
use Rattle.node_state.specs.Shown.{shown}
use Rattle.node_state.proofs.Committing.{followed-entry, itself, on_rinv-node, slots-of}
use Rattle.node_state.proofs.Keeping.{IsKept-beside}
use Rattle.node_state.proofs.state.NodeState.on_rinv.Goals as goal

pub on_rinv-requires-clause-followed : goal.on_rinv-requires-clause-followed
on_rinv-requires-clause-followed c = followed-entry (shown c.self.inside) c.args.r.now (rw (← c.self.view_is) at c.requires) c.self.invariant.ranges

pub on_rinv-requires-clause-writes : goal.on_rinv-requires-clause-writes
on_rinv-requires-clause-writes c = within-letter _ (shown c.self.inside) c.args.r.now c.self.invariant.ranges (rw (← c.self.view_is) at c.requires)

pub on_rinv-requires-clause-numbered : goal.on_rinv-requires-clause-numbered
on_rinv-requires-clause-numbered c = (inv_fits-parts _ c.args.r.now c.requires).number

pub invariant_of-self : goal.invariant_of-self
invariant_of-self c =
    let n = shown c.self.inside in
    let r = c.args.r.now in
    let becomes = on_rinv-node n n.me r _ _ (c.on_rinv.ensures.copies n n.me (itself n)) (c.on_rinv.ensures.logs n n.me (itself n)) in
    IsKept-beside c.self.inside _ (on_rinv n n.me r).node becomes refl refl c.self.invariant
    (on_rinv-keeps (limits_of n) n n.me r c.self.invariant.ranges.nodes.me (rw (← c.self.view_is) at c.requires) c.self.invariant.ranges).node
    c.on_rinv.ensures.holds (slots-of _ _ becomes)

pub returns-clause-after : goal.returns-clause-after
returns-clause-after c = λ from.
    let n = shown c.self.inside in
    rw (← c.self.view_is) (on_rinv-node n from c.args.r.now _ _ (c.on_rinv.ensures.copies n from (itself n)) (c.on_rinv.ensures.logs n from (itself n)))
