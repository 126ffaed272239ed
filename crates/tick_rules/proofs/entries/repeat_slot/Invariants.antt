use Rattle.std.proofs.Common.{◌-◌, length, map}
use Rattle.zeus_model.specs.Commit.{as_kept}
use Rattle.tick_rules.proofs.Repeating.{of_entries}
use Rattle.tick_rules.proofs.Saying.{StillSends}
use Rattle.tick_rules.proofs.entries.repeat_slot.Given as goal

-- the entries from this place on are left
abbrev pub invariant-loop-entry : goal.invariant-loop-entry
invariant-loop-entry l =
    StillSends (of_entries l.node l.stream l.done (map as_kept l.own.pending) 0) (of_entries l.node l.stream l.done (map as_kept l.own.pending) l.place) l.initial.out l.out

abbrev pub decreases-loop-entry : goal.decreases-loop-entry
decreases-loop-entry l = length l.own.pending - l.place
