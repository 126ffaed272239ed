use Rattle.std.proofs.Common.{length, arith}
use Rattle.commit_rules.proofs.Passing.{stream_there, streams-end, streams-init, streams-step}
use Rattle.commit_rules.proofs.finishing.advance_streams_of.Goals as goal

pub loop-slot-init : goal.loop-slot-init
loop-slot-init c = streams-init c.args.node.now c.args.other c.args.out.now c.requires.room

pub pass_kept-requires-clause-fits : goal.pass_kept-requires-clause-fits
pass_kept-requires-clause-fits c =
    stream_there c.loop-slot.node c.args.node.now c.args.other c.loop-slot.slot c.loop-slot.invariant.limits c.requires.node (omega (arith, c.loop-slot-test.true, c.slot_count-slot-end.ensures.count))

pub pass_kept-requires-clause-sent : goal.pass_kept-requires-clause-sent
pass_kept-requires-clause-sent c = c.loop-slot.invariant.leads.room

pub pass_kept-requires-clause-passed : goal.pass_kept-requires-clause-passed
pass_kept-requires-clause-passed c =
    omega (arith, c.loop-slot.invariant.few, c.requires.passes, c.loop-slot-test.true, c.slot_count-slot-end.ensures.most)

pub loop-slot-preserved : goal.loop-slot-preserved
loop-slot-preserved c =
    streams-step _ c.args.node.now c.loop-slot.node _ c.args.other c.loop-slot.slot _ _ _ c.loop-slot.out _ (omega (arith, c.loop-slot-test.true, c.slot_count-slot-end.ensures.count)) c.pass_kept.ensures.acted c.pass_kept.ensures.limits c.loop-slot.invariant

pub returns-clause-acted : goal.returns-clause-acted
returns-clause-acted c =
    streams-end _ c.loop-slot.node c.args.other c.loop-slot.slot (length c.args.node.now.slots) _ c.loop-slot.out (omega (arith, c.loop-slot-test.false, c.slot_count-slot-end.ensures.count)) c.loop-slot.invariant.leads

pub returns-clause-few : goal.returns-clause-few
returns-clause-few c = omega (arith, c.loop-slot.invariant.few, c.loop-slot.auto.slot-end, c.slot_count-slot-end.ensures.most)

pub returns-clause-limits : goal.returns-clause-limits
returns-clause-limits c = c.loop-slot.invariant.limits
