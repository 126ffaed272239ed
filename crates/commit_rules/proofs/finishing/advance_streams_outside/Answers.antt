use Rattle.std.proofs.Common.{◌≡◌, ◌<◌, true, false, length, arith}
use Rattle.zeus_base.specs.Nodes.{has}
use Rattle.commit_rules.proofs.Passing.{node_there, outside-end, outside-init, outside-member, outside-step}
use Rattle.commit_rules.proofs.finishing.advance_streams_outside.Goals as goal
use Rattle.commit_rules.proofs.finishing.advance_streams_outside.Goals.{then-not-has, else-not-has}

pub loop-number-init : goal.loop-number-init
loop-number-init c = rw c.members-members.ensures (outside-init c.args.node.now c.args.out.now c.requires.room c.requires.passes)

pub advance_streams_of-requires-clause-node : goal.advance_streams_of-requires-clause-node
advance_streams_of-requires-clause-node c =
    node_there c.loop-number.node c.args.node.now c.loop-number.number c.loop-number.invariant.limits (omega (arith, c.loop-number-test.true, c.node_count-number-end.ensures.count))

pub advance_streams_of-requires-clause-room : goal.advance_streams_of-requires-clause-room
advance_streams_of-requires-clause-room c = c.loop-number.invariant.leads.room

pub advance_streams_of-requires-clause-passes : goal.advance_streams_of-requires-clause-passes
advance_streams_of-requires-clause-passes c =
    omega (arith, c.loop-number.invariant.few, c.loop-number-test.true, c.node_count-number-end.ensures.most)

pub loop-number-preserved : goal.loop-number-preserved
loop-number-preserved c =
    let h : c.loop-number.number < length c.args.node.now.logs = omega (arith, c.loop-number-test.true, c.node_count-number-end.ensures.count) in
    elim c.if-not-has.branch [
      | then-not-has w ↦
          let stranger : has c.loop-number.number c.members-members.result ≡ false = grind arith in
          rw (w.node-is, w.out-is)
          (outside-step _ c.args.node.now c.loop-number.node _ c.members-members.result c.loop-number.number _ _ c.loop-number.out _ h stranger w.advance_streams_of.ensures.acted w.advance_streams_of.ensures.few w.advance_streams_of.ensures.limits c.loop-number.invariant)
      | else-not-has w ↦
          let member : has c.loop-number.number c.members-members.result ≡ true = grind arith in
          rw (w.node-is, w.out-is)
          (outside-member _ c.args.node.now c.loop-number.node c.members-members.result _ c.loop-number.number _ _ c.loop-number.out h member c.loop-number.invariant)
    ]

pub returns : goal.returns
returns c =
    outside-end _ c.loop-number.node _ _ c.loop-number.number (length c.args.node.now.logs) _ c.loop-number.out (omega (arith, c.loop-number-test.false, c.node_count-number-end.ensures.count)) c.loop-number.invariant.leads
