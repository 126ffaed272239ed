use Rattle.std.proofs.Common.{◌∙◌, sym}
use Rattle.node_state.specs.Shown.{shown}
use Rattle.node_state.proofs.Searching.{keeper_from-all, keeper_from-here, keeper_from-later, keeper_from-none}
use Rattle.node_state.proofs.state.NodeState.keeper.Goals as goal

pub loop-slot-init : goal.loop-slot-init
loop-slot-init c = keeper_from-all (shown c.self.inside) c.args.obj

pub returns-then-keeps : goal.returns-then-keeps
returns-then-keeps c =
    rw (← c.self.view_is)
    (sym (keeper_from-here (shown c.self.inside) c.args.obj c.loop-slot.slot c.index.result.now (rw c.self.invariant.slots at c.loop-slot-test.true) (rw c.place.ensures at c.index.ensures) c.if-keeps.ensures)
    ∙ c.loop-slot.invariant)

pub loop-slot-preserved : goal.loop-slot-preserved
loop-slot-preserved c =
    keeper_from-later (shown c.self.inside) c.args.obj c.loop-slot.slot c.index.result.now (rw c.self.invariant.slots at c.loop-slot-test.true) (rw c.place.ensures at c.index.ensures) c.if-keeps.ensures
    ∙ c.loop-slot.invariant

pub returns : goal.returns
returns c =
    rw (← c.self.view_is)
    (sym (keeper_from-none (shown c.self.inside) c.args.obj c.loop-slot.slot (rw c.self.invariant.slots at c.loop-slot-test.false)) ∙ c.loop-slot.invariant)
