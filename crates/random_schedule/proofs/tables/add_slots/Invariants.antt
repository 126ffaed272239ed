-- What was added and what the numbers that are left make stay the whole.
use Rattle.std.proofs.Common.{◌≡◌, ◌++◌, ◌-◌}
use Rattle.std.specs.Prelude.{map}
use Rattle.zeus_model.specs.Tables.{numbers_from}
use Rattle.random_schedule.specs.Choices.{stream}
use Rattle.random_schedule.proofs.tables.add_slots.Given as goal

abbrev pub invariant-loop-slot : goal.invariant-loop-slot
invariant-loop-slot l = l.all.items ++ map (stream l.node) (numbers_from l.slot (l.slots - l.slot)) ≡ l.fn.all.items ++ map (stream l.node) (numbers_from 0 l.slots)
