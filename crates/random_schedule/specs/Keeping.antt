-- What a schedule keeps, and how it goes along with the world.
use Rattle.std.specs.Prelude.{◌≡◌, length, All}
use Rattle.zeus_base.specs.Limits.{KeepsLimits}
use Rattle.zeus_model.specs.Scripts.{FitsStep, FitsTxs}
use Rattle.zeus_model.specs.World.{World, run, start}
use Rattle.random_schedule.specs.Choices.{streams}
use Rattle.random_schedule.specs.Ready.{AreAllBegun, AreLinks, AreQueues, AreSettled}
use Rattle.random_schedule.specs.Schedule.{Progress, Schedule}
use Rattle.random_schedule.specs.declared.chooser.Chooser.{Chooser}
use Rattle.random_schedule.specs.declared.scheduler.Scheduler.{Scheduler}

-- what a chooser keeps, as the schedule has it
abbrev pub progress_of : Chooser → Progress
progress_of c = record { fresh = c.fresh.items; stops = c.stops }

-- what is kept is that of the world
pub record KeepsUp (w : World) (c : Chooser) : Type 0 where
  pub slots : c.slots.items ≡ streams w.config
  pub queues : AreQueues w c.queues.items
  pub begun : AreAllBegun w.book c.queues.items c.begun.items
  pub fresh : AreLinks w.config c.fresh.items

-- a scheduler's world, progress and steps, as the schedule has them
abbrev pub schedule_of : Scheduler → Schedule
schedule_of s = record { world = s.world; progress = progress_of s.chooser; steps = s.steps.items }

-- the schedule is under way: its steps have led to its world, and what it keeps is that of the world
pub record IsUnderWay (s : Scheduler) : Type 0 where
  pub limits : KeepsLimits s.world.config
  pub txs : FitsTxs s.world.config s.world.txs
  pub leads : s.world ≡ run (start s.world.config s.world.txs) s.steps.items
  pub fits : All (FitsStep s.world.config (length s.world.txs)) s.steps.items
  pub keeps : KeepsUp s.world s.chooser
  pub settled : AreSettled s.world s.settled

-- the configuration and the transactions stay
pub record IsOfSame (s t : Scheduler) : Type 0 where
  pub config : t.world.config ≡ s.world.config
  pub txs : t.world.txs ≡ s.world.txs
