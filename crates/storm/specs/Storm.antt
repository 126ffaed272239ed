-- The run of a storm, and its end.
use Rattle.std.specs.Prelude.{ℕ, ◌%◌, ◌^◌, List, length}
use Rattle.zeus_base.specs.declared.step.Step.{Step}
use Rattle.zeus_model.specs.Readers.{is_lost}
use Rattle.zeus_model.specs.World.{World, start}
use Rattle.random_schedule.specs.Schedule.{Schedule, schedule}
use Rattle.storm.specs.Counts.{count, counted, map_left, summed}
use Rattle.storm.specs.Script.{schedule_words, storm_config, storm_txs}
use Rattle.storm.specs.declared.end.StormEnd.{StormEnd}
use Rattle.storm.specs.declared.numbers.StormNumbers.{StormNumbers}

-- the random schedule of the storm's transactions
unfoldable pub storm : StormNumbers → Schedule
storm n = schedule (storm_config n) (storm_txs n) n.steps record { loss = n.loss; stops = n.stops } (schedule_words n)

-- the world that it begins in
abbrev pub storm_start : StormNumbers → World
storm_start n = start (storm_config n) (storm_txs n)

-- the steps that it takes
abbrev pub storm_steps : StormNumbers → List Step
storm_steps n = (storm n).steps

-- the world that they lead to
abbrev pub storm_world : StormNumbers → World
storm_world n = (storm n).world

-- how a world stands at the end of so many steps
abbrev pub end_of : StormNumbers → World → ℕ → StormEnd
end_of n w taken =
    let txs = counted w (length w.txs) in
    record {
      numbers = n;
      taken = taken;
      acked = txs.acked;
      failed = txs.failed;
      refused = txs.refused;
      stopped = txs.stopped;
      unfinished = txs.unfinished;
      epoch = length w.views;
      lost = count (is_lost w) (length w.config.objects);
      sum = summed (map_left w) (length w.config.objects) % 2 ^ 64;
    }

-- the end of a storm
abbrev pub storm_end : StormNumbers → StormEnd
storm_end n = end_of n (storm_world n) (length (storm_steps n))
