use Rattle.std.proofs.Common.{◌+◌, ◌*◌, length}
use Rattle.zeus_model.specs.Act.{in_turn}
use Rattle.zeus_model.specs.Commit.{advance_kept, outside}
use Rattle.zeus_model.specs.Tables.{below}
use Rattle.commit_rules.proofs.Passing.{IsUnderWay, outside_from}
use Rattle.commit_rules.proofs.finishing.advance_streams_outside.Given as goal

-- the streams of the nodes that are left are to advance
abbrev pub invariant-loop-number : goal.invariant-loop-number
invariant-loop-number l =
    IsUnderWay (in_turn advance_kept l.initial.node (outside l.initial.node)) (outside_from l.members (below (length l.initial.node.slots)) l.number (length l.initial.node.logs) l.node)
    l.initial.node l.node l.initial.out l.out (8 + 8 * l.number)
