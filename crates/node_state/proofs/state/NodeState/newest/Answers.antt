use Rattle.node_state.specs.Shown.{shown}
use Rattle.node_state.proofs.Slots.{slot_read}
use Rattle.node_state.proofs.state.NodeState.newest.Goals as goal

pub returns : goal.returns
returns c =
    let there = slot_read (shown c.self.inside) c.args.slot _ (rw (← c.self.view_is) at c.requires) (rw c.place.ensures at c.index-own.ensures) in
    rw (← c.self.view_is, there) c.newest.ensures
