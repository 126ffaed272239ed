use Rattle.std.proofs.Common.{◌∙◌}
use Rattle.tick_rules.proofs.Leaving.{last_after-all, last_after-end, last_after-next}
use Rattle.tick_rules.proofs.leaves.greatest.Goals as goal

pub loop-node-init : goal.loop-node-init
loop-node-init c = rw c.into_iter-node-iterator.ensures.into_iter_gives (last_after-all c.args.nodes)

pub loop-node-preserved : goal.loop-node-preserved
loop-node-preserved c = last_after-next _ _ _ _ c.in-Some.ensures.steps ∙ c.loop-node.invariant

pub returns : goal.returns
returns c = last_after-end _ _ c.in-None.ensures.steps.0 ∙ c.loop-node.invariant
