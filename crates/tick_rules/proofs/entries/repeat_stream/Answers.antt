use Rattle.zeus_model.specs.State.{log}
use Rattle.tick_rules.proofs.Repeating.{stored-all, stored-end, stored-next}
use Rattle.tick_rules.proofs.Saying.{StillSends-end, StillSends-step}
use Rattle.tick_rules.proofs.entries.repeat_stream.Goals as goal

pub loop-entry-preserved : goal.loop-entry-preserved
loop-entry-preserved c =
    StillSends-step _ _ _ _ _ _ _ (stored-next c.args.node.now c.args.stream.now c.stored_done-done.result (log c.args.node.now c.args.stream.now).kept c.loop-entry.place c.in-Some.entry.now c.in-Some.ensures)
    c.loop-entry.invariant c.repeat_entry.ensures

pub returns : goal.returns
returns c =
    rw (stored-all c.args.node.now c.args.stream.now c.stored_done-done.result c.stored_done-done.ensures.passed)
    (StillSends-end _ _ _ _ (stored-end c.args.node.now c.args.stream.now c.stored_done-done.result (log c.args.node.now c.args.stream.now).kept c.loop-entry.place c.in_default.ensures) c.loop-entry.invariant)
