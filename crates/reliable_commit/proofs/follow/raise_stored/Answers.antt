use Rattle.std.proofs.Common.{refl, ◌∙◌}
use Rattle.follower_log.specs.StreamLaws.{log_at-with_log_at, none_lowest}
use Rattle.reliable_commit.proofs.Raising.{followed_rest, followed_step, lowest, raised_copies-none, raised_copies-step, raised_logs-none, raised_logs-step, smaller, within_lowest}
use Rattle.reliable_commit.proofs.follow.raise_stored.Goals as goal

pub validate_each-requires : goal.validate_each-requires
validate_each-requires c =
    rw c.as_slice.ensures (within_lowest _ _ _ _ (lowest _ _ _ c.in-Some.ensures.entry) c.loop-entry.invariant.followed.within)

pub loop-entry-smaller : goal.loop-entry-smaller
loop-entry-smaller c = smaller _ _ c.args.s.now _ _ (lowest _ _ _ c.in-Some.ensures.entry) c.in-Some.ensures.raised

pub loop-entry-preserved : goal.loop-entry-preserved
loop-entry-preserved c =
    let low = lowest _ _ _ c.in-Some.ensures.entry in
    record {
      followed = rw (c.validate_each.ensures.objects, c.in-Some.ensures.raised) (followed_step _ _ c.args.s.now c.args.s.now c.loop-entry.invariant.followed c.loop-entry.invariant.followed);
      copies =
          rw (c.validate_each.ensures.copies, c.as_slice.ensures, c.in-Some.ensures.raised, log_at-with_log_at)
          (raised_copies-step _ _ _ _ low ∙ c.loop-entry.invariant.copies);
      logs = rw c.in-Some.ensures.raised (raised_logs-step _ _ _ _ low ∙ c.loop-entry.invariant.logs);
      holds = c.validate_each.ensures.holds ∙ c.loop-entry.invariant.holds;
      objects = c.validate_each.ensures.objects ∙ c.loop-entry.invariant.objects;
      streams = λ t there.
          rw c.in-Some.ensures.raised
          (followed_step _ _ c.args.s.now t (rw c.loop-entry.invariant.objects at c.loop-entry.invariant.followed) (c.loop-entry.invariant.streams t there));
    }

pub returns-clause-copies : goal.returns-clause-copies
returns-clause-copies c =
    raised_copies-none _ _ _ (none_lowest _ _ c.in_default.ensures.entry) ∙ c.loop-entry.invariant.copies

pub returns-clause-logs : goal.returns-clause-logs
returns-clause-logs c =
    rw (c.raise_rest.ensures.after, c.in_default.ensures.kept refl)
    (raised_logs-none _ c.args.s.now _ (none_lowest _ _ c.in_default.ensures.entry) ∙ c.loop-entry.invariant.logs)

pub returns-clause-streams : goal.returns-clause-streams
returns-clause-streams c = λ t there.
    rw (c.raise_rest.ensures.after, c.in_default.ensures.kept refl)
    (followed_rest _ _ c.args.s.now t c.args.done (rw c.loop-entry.invariant.objects at c.loop-entry.invariant.followed) (c.loop-entry.invariant.streams t there))
