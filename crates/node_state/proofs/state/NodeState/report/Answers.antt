use Rattle.std.proofs.Common.{refl}
use Rattle.zeus_model.specs.Receive.{on_recovered}
use Rattle.node_state.specs.Shown.{shown}
use Rattle.node_state.proofs.Committing.{on_recovered-keeps, on_recovered-node, slots-of}
use Rattle.node_state.proofs.Keeping.{IsKept-beside}
use Rattle.node_state.proofs.state.NodeState.report.Goals as goal

pub invariant_of-self : goal.invariant_of-self
invariant_of-self c =
    let n = shown c.self.inside in
    let becomes = on_recovered-node n c.args.node _ (c.report.ensures.after n refl) in
    IsKept-beside c.self.inside _ (on_recovered n c.args.node).node becomes refl refl c.self.invariant
    (on_recovered-keeps n c.args.node (rw (← c.self.view_is) at c.requires) c.self.invariant.ranges)
    refl (slots-of _ _ becomes)

pub returns-clause-after : goal.returns-clause-after
returns-clause-after c =
    let n = shown c.self.inside in
    rw (← c.self.view_is) (on_recovered-node n c.args.node _ (c.report.ensures.after n refl))
