use Rattle.std.proofs.Common.{◌≡◌}
use Rattle.zeus_model.specs.Commit.{streams_of}
use Rattle.zeus_model.specs.Tables.{below}
use Rattle.crash_replay.specs.Replay.{next_in}
use Rattle.crash_replay.proofs.Searching.{from_slot}
use Rattle.crash_replay.proofs.replay.next_of.Given as goal

-- the slots that are left have the same stream
abbrev pub invariant-loop-slot : goal.invariant-loop-slot
invariant-loop-slot l =
    from_slot l.log l.after l.node l.slots l.slot ≡ next_in l.log l.after (streams_of l.node (below l.slots))
