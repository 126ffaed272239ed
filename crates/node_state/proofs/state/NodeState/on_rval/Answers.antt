use Rattle.std.proofs.Common.{refl}
use Rattle.zeus_model.specs.Commit.{on_rval}
use Rattle.node_ranges.specs.CommitRules.{on_rval-keeps}
use Rattle.node_ranges.specs.Ranges.{limits_of}
use Rattle.node_state.specs.Shown.{shown}
use Rattle.node_state.proofs.Committing.{followed, itself, on_rval-node, slots-of}
use Rattle.node_state.proofs.Keeping.{IsKept-beside}
use Rattle.node_state.proofs.state.NodeState.on_rval.Goals as goal

pub on_rval-requires : goal.on_rval-requires
on_rval-requires c = followed (shown c.self.inside) c.args.s (rw (← c.self.view_is) at c.requires) c.self.invariant.ranges

pub invariant_of-self : goal.invariant_of-self
invariant_of-self c =
    let n = shown c.self.inside in
    let becomes = on_rval-node n c.args.s c.args.done _ _ (c.on_rval.ensures.copies n (itself n)) (c.on_rval.ensures.logs n (itself n)) in
    IsKept-beside c.self.inside _ (on_rval n c.args.s c.args.done).node becomes refl refl c.self.invariant
    (on_rval-keeps (limits_of n) n c.args.s c.args.done (rw (← c.self.view_is) at c.requires) c.self.invariant.ranges).node
    c.on_rval.ensures.holds (slots-of _ _ becomes)

pub returns-clause-after : goal.returns-clause-after
returns-clause-after c =
    let n = shown c.self.inside in
    rw (← c.self.view_is) (on_rval-node n c.args.s c.args.done _ _ (c.on_rval.ensures.copies n (itself n)) (c.on_rval.ensures.logs n (itself n)))
