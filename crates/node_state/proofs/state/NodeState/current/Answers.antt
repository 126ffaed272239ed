use Rattle.zeus_base.specs.TableLaws.{nth_read}
use Rattle.zeus_model.specs.State.{no_slot}
use Rattle.node_state.proofs.state.NodeState.current.Goals as goal

pub returns : goal.returns
returns c =
    let there = nth_read no_slot c.self.inside.slots.items c.args.slot c.index-slot.result.now (rw (← c.self.view_is) at c.requires) (rw c.place.ensures at c.index-slot.ensures) in
    rw (← c.self.view_is, there, ← c.slot.view_is) c.as_ref.ensures.value
