use Rattle.std.proofs.Common.{sym, ◌∙◌}
use Rattle.object_table.specs.Holders.{holder-held}
use Rattle.node_state.proofs.state.NodeState.holder.Goals as goal

pub returns : goal.returns
returns c = rw (← c.self.view_is) (c.holder.ensures ∙ sym (holder-held _ _ c.args.obj c.self.invariant.held))
