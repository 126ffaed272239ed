use Rattle.std.proofs.Common.{◌∙◌}
use Rattle.zeus_model.specs.Commit.{validated}
use Rattle.reliable_commit.specs.FollowLaws.{AreWithin-at}
use Rattle.reliable_commit.proofs.Writing.{each_write-at, each_write-end}
use Rattle.reliable_commit.proofs.writes.validate_each.Goals as goal

pub validate-requires : goal.validate-requires
validate-requires c =
    rw (c.loop-write.invariant.objects, c.write-item.is) (AreWithin-at _ _ c.loop-write.write-index c.write-item.result c.requires c.loop-write-test.true)

pub loop-write-preserved : goal.loop-write-preserved
loop-write-preserved c = record {
  same = rw (c.validate.ensures.copies c.write-item.result.value) (each_write-at validated _ _ _ c.write-item.result c.loop-write-test.true c.write-item.is ∙ c.loop-write.invariant.same);
  holds = c.validate.ensures.holds ∙ c.loop-write.invariant.holds;
  objects = c.validate.ensures.objects ∙ c.loop-write.invariant.objects;
}

pub returns-clause-copies : goal.returns-clause-copies
returns-clause-copies c = each_write-end validated _ _ c.loop-write.write-index c.loop-write-test.false ∙ c.loop-write.invariant.same
