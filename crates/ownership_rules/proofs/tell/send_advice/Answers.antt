use Rattle.std.proofs.Common.{sym, ◌∙◌}
use Rattle.zeus_model.specs.Ownership.{advice}
use Rattle.node_state.specs.EffectLaws.{adds_nothing}
use Rattle.ownership_rules.proofs.tell.send_advice.Goals as goal

pub returns-else-has : goal.returns-else-has
unfolding advice
returns-else-has c = rw (sym (rw c.members.ensures at c.has.ensures) ∙ c.if-has.false) (adds_nothing c.args.out.now c.requires)
