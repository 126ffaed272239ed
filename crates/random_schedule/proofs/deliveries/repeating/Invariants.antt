-- What was added and what passes of the rest stay all that pass.
use Rattle.std.proofs.Common.{◌≡◌, ◌++◌, drop}
use Rattle.std.specs.Prelude.{filter}
use Rattle.random_schedule.specs.Choices.{can_repeat}
use Rattle.random_schedule.proofs.deliveries.repeating.Given as goal

abbrev pub invariant-loop-link : goal.invariant-loop-link
invariant-loop-link l = l.repeating.items ++ filter (can_repeat l.world) (drop l.link-index l.links) ≡ filter (can_repeat l.world) l.links
