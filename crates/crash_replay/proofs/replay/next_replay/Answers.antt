use Rattle.std.proofs.Common.{◌≡◌, ◌∙◌, true, false, sym, arith}
use Rattle.zeus_base.specs.Nodes.{has}
use Rattle.zeus_model.specs.Tables.{below}
use Rattle.crash_replay.specs.ReplayLaws.{HasStreams-stream}
use Rattle.crash_replay.proofs.Searching.{from_node-found, from_node-member, from_node-none, from_node-passed, next_stored-known}
use Rattle.crash_replay.proofs.replay.next_replay.Goals as goal
use Rattle.crash_replay.proofs.replay.next_replay.Goals.{then-not-has+in_default, else-not-has}

pub returns-in-Some : goal.returns-in-Some
returns-in-Some c = λ n is.
    let out : has c.loop-node.node c.args.members ≡ false = grind arith in
    sym (from_node-found c.args.log.now c.args.after c.args.members (below c.args.slots) c.args.nodes c.loop-node.node _ c.loop-node-test.true out (sym c.in-Some.ensures))
    ∙ c.loop-node.invariant ∙ next_stored-known n _ _ _ _ c.args.after c.requires.streams.by_node is

pub loop-node-preserved : goal.loop-node-preserved
loop-node-preserved c =
    elim c.if-not-has.branch [
      | then-not-has+in_default w ↦
          let out : has c.loop-node.node c.args.members ≡ false = grind arith in
          from_node-passed c.args.log.now c.args.after c.args.members (below c.args.slots) c.args.nodes c.loop-node.node c.loop-node-test.true out (sym w.in_default.ensures)
          ∙ c.loop-node.invariant
      | else-not-has w ↦
          let member : has c.loop-node.node c.args.members ≡ true = grind arith in
          from_node-member c.args.log.now c.args.after c.args.members (below c.args.slots) c.args.nodes c.loop-node.node c.loop-node-test.true member
          ∙ c.loop-node.invariant
    ]

pub returns : goal.returns
returns c = λ n is.
    sym (from_node-none c.args.log.now c.args.after c.args.members (below c.args.slots) c.args.nodes c.loop-node.node c.loop-node-test.false)
    ∙ c.loop-node.invariant ∙ next_stored-known n _ _ _ _ c.args.after c.requires.streams.by_node is

pub next_of-requires-clause-streams : goal.next_of-requires-clause-streams
next_of-requires-clause-streams c = λ slot h. HasStreams-stream _ _ _ _ c.requires.streams c.loop-node-test.true h
