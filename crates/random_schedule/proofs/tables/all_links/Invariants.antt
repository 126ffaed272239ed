-- What was added and what the nodes that are left make stay the whole.
use Rattle.std.proofs.Common.{◌≡◌, ◌++◌, ◌-◌}
use Rattle.zeus_model.specs.Tables.{below, numbers_from}
use Rattle.random_schedule.specs.Choices.{pairs}
use Rattle.random_schedule.specs.Schedule.{first_packet}
use Rattle.random_schedule.proofs.tables.all_links.Given as goal

abbrev pub invariant-loop-from : goal.invariant-loop-from
invariant-loop-from l = l.all.items ++ pairs first_packet (numbers_from l.from (l.nodes - l.from)) (below l.nodes) ≡ pairs first_packet (below l.nodes) (below l.nodes)
