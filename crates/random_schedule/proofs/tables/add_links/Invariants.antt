-- What was added and what the numbers that are left make stay the whole.
use Rattle.std.proofs.Common.{◌≡◌, ◌++◌, ◌-◌}
use Rattle.std.specs.Prelude.{map}
use Rattle.zeus_model.specs.Tables.{numbers_from}
use Rattle.random_schedule.specs.Schedule.{first_packet}
use Rattle.random_schedule.proofs.tables.add_links.Given as goal

abbrev pub invariant-loop-to : goal.invariant-loop-to
invariant-loop-to l = l.all.items ++ map (first_packet l.from) (numbers_from l.to (l.nodes - l.to)) ≡ l.fn.all.items ++ map (first_packet l.from) (numbers_from 0 l.nodes)
