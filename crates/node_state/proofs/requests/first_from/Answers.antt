use Rattle.std.proofs.Common.{◌∙◌}
use Rattle.node_state.proofs.Requesting.{from_here, from_later, from_none, from_some}
use Rattle.node_state.proofs.requests.first_from.Goals as goal

pub returns-then-ge : goal.returns-then-ge
returns-then-ge c =
    rw (← c.loop-node.invariant, from_here _ _ _ _ _ c.in-Some.ensures.steps c.ge.ensures c.if-ge.true) (from_some _ _)

pub loop-node-preserved : goal.loop-node-preserved
loop-node-preserved c = from_later _ _ _ _ _ c.in-Some.ensures.steps c.ge.ensures c.if-ge.false ∙ c.loop-node.invariant

pub returns : goal.returns
returns c = rw (← c.loop-node.invariant, ← c.least.ensures.first) (from_none _ _ _ c.in-None.ensures.steps.0)
