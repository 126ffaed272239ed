use Rattle.std.proofs.Common.{◌+◌, length}
use Rattle.zeus_model.specs.Act.{in_turn}
use Rattle.zeus_model.specs.Commit.{advance_kept, streams_of}
use Rattle.zeus_model.specs.Tables.{below}
use Rattle.commit_rules.proofs.Passing.{IsUnderWay, streams_from}
use Rattle.commit_rules.proofs.finishing.advance_streams_of.Given as goal

-- the streams of the slots that are left are to advance
abbrev pub invariant-loop-slot : goal.invariant-loop-slot
invariant-loop-slot l =
    IsUnderWay (in_turn advance_kept l.initial.node (streams_of l.other (below (length l.initial.node.slots)))) (streams_from l.other l.slot (length l.initial.node.slots) l.node)
    l.initial.node l.node l.initial.out l.out (length l.initial.out.passed + l.slot)
