use Rattle.std.proofs.Common.{refl}
use Rattle.zeus_model.specs.Receive.{receive}
use Rattle.node_ranges.specs.Places.{fits-body, fits-sender}
use Rattle.node_ranges.specs.Ranges.{limits_of}
use Rattle.node_state.specs.EffectLaws.{adds_room}
use Rattle.zeus_node.proofs.Bodies.{receive-untaken, received, row-unpassed}
use Rattle.zeus_node.proofs.Cleared.{cleared-passed, cleared-room, cleared-sent}
use Rattle.zeus_node.proofs.node.Node.receive.Goals as goal

pub returns-in-Some : goal.returns-in-Some
returns-in-Some c =
    rw (receive-untaken c.args.self.now c.args.letter.now c.in-Some.outcome (rw c.self.view_is at c.in-Some.ensures))
    (record { answer = refl; after = refl; sent = c.requires.cleared.unsent; passed = c.requires.cleared.unpassed })

pub apply-outcome-requires-clause-from : goal.apply-outcome-requires-clause-from
apply-outcome-requires-clause-from c = rw c.self.view_is (fits-sender (limits_of c.args.self.now) c.args.letter.now c.requires.fits)

pub apply-outcome-requires-clause-body : goal.apply-outcome-requires-clause-body
apply-outcome-requires-clause-body c = rw c.self.view_is (fits-body (limits_of c.args.self.now) c.args.letter.now c.requires.fits)

pub apply-outcome-requires-clause-room : goal.apply-outcome-requires-clause-room
apply-outcome-requires-clause-room c = cleared-room c.args.out.now c.requires.cleared

pub finish-requires-clause-room : goal.finish-requires-clause-room
finish-requires-clause-room c = adds_room _ _ _ _ c.apply-outcome.ensures.adds

pub finish-requires-clause-passes : goal.finish-requires-clause-passes
finish-requires-clause-passes c =
    rw (c.apply-outcome.ensures.adds.passes, row-unpassed c.self.inside.state c.args.letter.now.from c.args.letter.now.body, c.requires.cleared.unpassed) refl

pub returns : goal.returns
returns c =
    let n = c.args.self.now in
    let row = rw c.self.view_is at c.apply-outcome.ensures in
    let done = received n c.apply-outcome.new.state c.finish.new.node c.args.letter.now c.apply-outcome.result c.args.out.now c.apply-outcome.new.out c.finish.new.out (rw c.self.view_is at c.in_default.ensures) row c.finish.ensures in
    record {
      answer = done.says;
      after = done.becomes;
      sent = cleared-sent (receive n c.args.letter.now) _ c.finish.new.node c.args.out.now c.finish.new.out c.requires.cleared done;
      passed = cleared-passed (receive n c.args.letter.now) _ c.finish.new.node c.args.out.now c.finish.new.out c.requires.cleared done;
    }
