use Rattle.std.proofs.Common.{refl, ◌∙◌}
use Rattle.object_table.specs.Holders.{holder-held}
use Rattle.node_state.specs.Shown.{shown}
use Rattle.node_state.proofs.state.NodeState.unready_cause.Goals as goal

pub returns : goal.returns
returns c =
    rw (← c.self.view_is)
    (c.cause_of.ensures ∙ c.give_up.ensures.unkept (shown c.self.inside) (record { copy = refl; holder = holder-held _ _ c.args.obj c.self.invariant.held; me = refl }) refl)
