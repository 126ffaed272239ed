use Rattle.std.proofs.Common.{sym}
use Rattle.zeus_base.specs.TableLaws.{nth_read}
use Rattle.zeus_model.specs.State.{no_slot}
use Rattle.node_state.proofs.state.NodeState.slot.Goals as goal

pub returns-clause-value : goal.returns-clause-value
returns-clause-value c =
    let there = nth_read no_slot c.self.inside.slots.items c.args.slot c.index.result.now (rw (← c.self.view_is) at c.requires) (rw c.place.ensures at c.index.ensures) in
    rw (← c.self.view_is) (sym there)
