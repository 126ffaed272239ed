-- What was added and what passes of the rest stay all that pass.
use Rattle.std.proofs.Common.{◌≡◌, ◌++◌, drop}
use Rattle.std.specs.Prelude.{filter}
use Rattle.random_schedule.specs.Choices.{can_try}
use Rattle.random_schedule.proofs.slots.trying.Given as goal

abbrev pub invariant-loop-slot : goal.invariant-loop-slot
invariant-loop-slot l = l.trying.items ++ filter (can_try l.world) (drop l.slot-index l.slots) ≡ filter (can_try l.world) l.slots
