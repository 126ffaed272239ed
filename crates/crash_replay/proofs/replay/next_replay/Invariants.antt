use Rattle.std.proofs.Common.{◌≡◌}
use Rattle.zeus_model.specs.Commit.{streams_outside}
use Rattle.zeus_model.specs.Tables.{below}
use Rattle.crash_replay.specs.Replay.{next_in}
use Rattle.crash_replay.proofs.Searching.{from_node}
use Rattle.crash_replay.proofs.replay.next_replay.Given as goal

-- the nodes that are left have the same stream
abbrev pub invariant-loop-node : goal.invariant-loop-node
invariant-loop-node l =
    from_node l.log l.after l.members (below l.slots) l.nodes l.node
    ≡ next_in l.log l.after (streams_outside l.members (below l.slots) (below l.nodes))
