-- The chosen node is at the place that is left, among the nodes that are left.
use Rattle.std.proofs.Common.{◌≡◌, slice_get}
use Rattle.random_schedule.specs.Choices.{chosen}
use Rattle.random_schedule.proofs.places.chosen_node.Given as goal

abbrev pub invariant-loop-node : goal.invariant-loop-node
invariant-loop-node l = slice_get l.node-iterator l.left ≡ chosen l.u l.fn.nodes
