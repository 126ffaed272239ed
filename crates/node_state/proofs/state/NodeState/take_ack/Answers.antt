use Rattle.std.proofs.Common.{refl}
use Rattle.zeus_model.specs.State.{gather, with_gather}
use Rattle.arbitration.specs.Gathering.{gathered}
use Rattle.node_state.specs.Shown.{shown}
use Rattle.node_state.proofs.Keeping.{IsKept-beside}
use Rattle.node_state.proofs.Owning.{KeepsRanges-noting}
use Rattle.node_state.proofs.state.NodeState.take_ack.Goals as goal

pub invariant_of-self : goal.invariant_of-self
invariant_of-self c =
    let n = shown c.self.inside in
    IsKept-beside c.self.inside _ (with_gather n c.args.obj (gathered (gather n c.args.obj) c.args.from c.args.p.now c.args.content))
    (rw c.take_ack.ensures.after refl) refl refl c.self.invariant
    (KeepsRanges-noting n c.args.obj c.args.from c.args.p.now c.args.content (rw (← c.self.view_is) at c.requires.object) (rw (← c.self.view_is) at c.requires.proposal) c.self.invariant.ranges)
    refl refl
