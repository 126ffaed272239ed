-- The least node that is behind is among those that are left, which are nodes that there are.
use Rattle.std.proofs.Common.{◌≡◌}
use Rattle.zeus_base.specs.NodeLaws.{IsBelow}
use Rattle.zeus_model.specs.Tables.{first_of}
use Rattle.random_schedule.specs.Schedule.{if_behind, least_behind}
use Rattle.random_schedule.proofs.members.least_behind.Given as goal

abbrev pub invariant-loop-at : goal.invariant-loop-at
invariant-loop-at l =
    record {
      least : first_of (if_behind l.world) l.at-iterator ≡ least_behind l.world;
      below : IsBelow l.world.config.nodes l.at-iterator;
    }
