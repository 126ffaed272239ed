use Rattle.std.proofs.Common.{◌∙◌}
use Rattle.reliable_commit.proofs.Writing.{unheld-at, unheld-end}
use Rattle.reliable_commit.proofs.writes.unhold_each.Goals as goal

pub loop-object-preserved : goal.loop-object-preserved
loop-object-preserved c = record {
  same = rw c.unhold.ensures.holds (unheld-at _ _ _ c.object-item.result c.loop-object-test.true c.object-item.is ∙ c.loop-object.invariant.same);
  copies = c.unhold.ensures.copies ∙ c.loop-object.invariant.copies;
}

pub returns-clause-holds : goal.returns-clause-holds
returns-clause-holds c = unheld-end _ _ c.loop-object.object-index c.loop-object-test.false ∙ c.loop-object.invariant.same
