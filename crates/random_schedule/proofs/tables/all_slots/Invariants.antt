-- What was added and what the nodes that are left make stay the whole.
use Rattle.std.proofs.Common.{◌≡◌, ◌++◌, ◌-◌}
use Rattle.zeus_model.specs.Tables.{below, numbers_from}
use Rattle.random_schedule.specs.Choices.{pairs, stream}
use Rattle.random_schedule.proofs.tables.all_slots.Given as goal

abbrev pub invariant-loop-node : goal.invariant-loop-node
invariant-loop-node l = l.all.items ++ pairs stream (numbers_from l.node (l.nodes - l.node)) (below l.slots) ≡ pairs stream (below l.nodes) (below l.slots)
