use Rattle.std.proofs.Common.{◌∙◌}
use Rattle.node_state.specs.Shown.{shown}
use Rattle.node_state.proofs.Wanting.{wanted-any}
use Rattle.node_state.proofs.state.NodeState.is_wanted.Goals as goal

pub returns : goal.returns
returns c = let e = c.is_wanted_by.ensures in let d = c.deref.ensures.value in rw (← c.self.view_is) (rw d at e ∙ wanted-any (shown c.self.inside) c.args.obj)
