use Rattle.std.proofs.Common.{sym}
use Rattle.tick_rules.proofs.Repeating.{to_lacking-acked, to_lacking-next, to_lacking-none}
use Rattle.tick_rules.proofs.Saying.{StillSends-end, StillSends-full, StillSends-same, StillSends-step}
use Rattle.tick_rules.proofs.entries.repeat_entry.Goals as goal

pub returns-then-is_full : goal.returns-then-is_full
returns-then-is_full c = StillSends-full _ _ _ _ c.if-is_full.ensures.full c.loop-receiver.invariant

pub loop-receiver-preserved-then-not-has : goal.loop-receiver-preserved-then-not-has
loop-receiver-preserved-then-not-has c =
    StillSends-step _ _ _ _ _ _ _ (to_lacking-next c.args.node.now _ c.args.acks c.in-Some.receiver c.loop-receiver.receiver-iterator _ c.in-Some.ensures.steps (sym c.if-not-has.ensures))
    c.loop-receiver.invariant (rw c.duplicate.ensures at c.send.ensures)

pub loop-receiver-preserved : goal.loop-receiver-preserved
loop-receiver-preserved c =
    StillSends-same _ _ _ _ _ (to_lacking-acked c.args.node.now _ c.args.acks c.in-Some.receiver c.loop-receiver.receiver-iterator _ c.in-Some.ensures.steps (sym c.if-not-has.ensures))
    c.loop-receiver.invariant

pub returns : goal.returns
returns c =
    StillSends-end _ _ _ _ (to_lacking-none c.args.node.now _ c.args.acks c.loop-receiver.receiver-iterator c.in-None.ensures.steps.0) c.loop-receiver.invariant
