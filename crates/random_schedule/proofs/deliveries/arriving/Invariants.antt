-- What was added and what passes of the rest stay all that pass, and a number is behind that of each that was added.
use Rattle.std.proofs.Common.{◌≡◌, ◌++◌, drop, All}
use Rattle.std.specs.Prelude.{filter}
use Rattle.random_schedule.specs.Choices.{can_arrive}
use Rattle.random_schedule.specs.Ready.{HasNext}
use Rattle.random_schedule.proofs.deliveries.arriving.Given as goal

abbrev pub invariant-loop-link : goal.invariant-loop-link
invariant-loop-link l =
    record {
      passing : l.arriving.items ++ filter (can_arrive l.world) (drop l.link-index l.links) ≡ filter (can_arrive l.world) l.links;
      next : All HasNext l.arriving.items;
    }
