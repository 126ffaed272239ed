use Rattle.std.proofs.Common.{length}
use Rattle.zeus_model.specs.Act.{in_turn}
use Rattle.zeus_model.specs.Commit.{advance_own}
use Rattle.zeus_model.specs.Tables.{below}
use Rattle.commit_rules.proofs.Passing.{IsUnderWay, own_from}
use Rattle.commit_rules.proofs.finishing.advance_own_streams.Given as goal

-- the streams of the slots that are left are to advance
abbrev pub invariant-loop-slot : goal.invariant-loop-slot
invariant-loop-slot l =
    IsUnderWay (in_turn advance_own l.initial.node (below (length l.initial.node.slots))) (own_from l.slot (length l.initial.node.slots) l.node)
    l.initial.node l.node l.initial.out l.out l.slot
