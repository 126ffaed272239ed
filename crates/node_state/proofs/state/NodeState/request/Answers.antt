use Rattle.std.proofs.Common.{sym, ◌∙◌}
use Rattle.node_state.specs.EffectLaws.{adds_nothing}
use Rattle.node_state.proofs.Requesting.{ask-nobody, ask-one}
use Rattle.node_state.proofs.state.NodeState.request.Goals as goal

pub returns-in-Some : goal.returns-in-Some
returns-in-Some c = rw (ask-one _ c.args.want c.args.obj c.in-Some.driver (sym c.driver.ensures ∙ c.in-Some.is)) c.send.ensures

pub returns-in_default : goal.returns-in_default
returns-in_default c = rw (ask-nobody c.args.self.now c.args.want _ (sym c.driver.ensures ∙ c.in_default.is)) (adds_nothing c.args.out.now c.requires)
