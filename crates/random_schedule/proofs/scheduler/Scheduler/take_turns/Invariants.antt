-- The turns that are left lead where all of them lead.
use Rattle.std.proofs.Common.{◌≡◌, ◌-◌}
use Rattle.random_schedule.specs.Keeping.{IsOfSame, IsUnderWay, schedule_of}
use Rattle.random_schedule.specs.Schedule.{scheduled}
use Rattle.random_schedule.proofs.scheduler.Scheduler.take_turns.Given as goal

abbrev pub invariant-loop-turn : goal.invariant-loop-turn
invariant-loop-turn l =
    record {
      leads : scheduled l.faults (l.count - l._turn) (schedule_of l.self) l.words ≡ scheduled l.faults l.count (schedule_of l.fn.self) l.fn.words;
      under_way : IsUnderWay l.self;
      same : IsOfSame l.fn.self l.self;
    }
