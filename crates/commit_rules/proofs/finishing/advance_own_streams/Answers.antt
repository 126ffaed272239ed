use Rattle.std.proofs.Common.{length, arith}
use Rattle.commit_rules.proofs.Passing.{own-end, own-init, own-step, slot_there}
use Rattle.commit_rules.proofs.finishing.advance_own_streams.Goals as goal

pub loop-slot-init : goal.loop-slot-init
loop-slot-init c = own-init c.args.node.now c.args.out.now c.requires.room c.requires.passes

pub pass_own-requires-clause-slot : goal.pass_own-requires-clause-slot
pass_own-requires-clause-slot c =
    slot_there c.loop-slot.node c.args.node.now c.loop-slot.slot c.loop-slot.invariant.limits (omega (arith, c.loop-slot-test.true, c.slot_count-slot-end.ensures.count))

pub pass_own-requires-clause-sent : goal.pass_own-requires-clause-sent
pass_own-requires-clause-sent c = c.loop-slot.invariant.leads.room

pub pass_own-requires-clause-passed : goal.pass_own-requires-clause-passed
pass_own-requires-clause-passed c = omega (arith, c.loop-slot.invariant.few, c.loop-slot-test.true, c.slot_count-slot-end.ensures.most)

pub loop-slot-preserved : goal.loop-slot-preserved
loop-slot-preserved c =
    own-step _ c.args.node.now c.loop-slot.node _ c.loop-slot.slot _ c.loop-slot.slot _ c.loop-slot.out _ (omega (arith, c.loop-slot-test.true, c.slot_count-slot-end.ensures.count)) c.pass_own.ensures.acted c.pass_own.ensures.limits c.loop-slot.invariant

pub returns-clause-acted : goal.returns-clause-acted
returns-clause-acted c =
    own-end _ c.loop-slot.node c.loop-slot.slot (length c.args.node.now.slots) _ c.loop-slot.out (omega (arith, c.loop-slot-test.false, c.slot_count-slot-end.ensures.count)) c.loop-slot.invariant.leads

pub returns-clause-few : goal.returns-clause-few
returns-clause-few c = omega (arith, c.loop-slot.invariant.few, c.loop-slot.auto.slot-end, c.slot_count-slot-end.ensures.most)
