use Rattle.std.proofs.Common.{◌≡◌, false, sym, ◌∙◌}
use Rattle.zeus_model.specs.Readers.{all_closed}
use Rattle.random_schedule.specs.Keeping.{schedule_of}
use Rattle.random_schedule.proofs.Turning.{same_on, same_schedule, turn_leads}
use Rattle.random_schedule.proofs.scheduler.Scheduler.take_turns.Goals as goal

pub loop-turn-preserved : goal.loop-turn-preserved
loop-turn-preserved c =
    let kept = c.loop-turn.invariant in
    let over = c.is_over.ensures in
    let turn = c.in_ok-turn.ensures in
    let open_ : all_closed c.loop-turn.self.world ≡ false = sym over.over ∙ c.if-is_over.false in
    record {
      leads =
          turn_leads c.args.faults.now c.args.count c.loop-turn._turn (schedule_of c.loop-turn.self) (schedule_of c.is_over.new.self)
          (schedule_of c.turn.new.self) c.loop-turn.words c.turn.new.words _ c.loop-turn-test.true open_ over.same turn.turn turn.words kept.leads;
      under_way = turn.under_way;
      same =
          same_on c.args.self.now c.is_over.new.self c.turn.new.self
          (same_on c.args.self.now c.loop-turn.self c.is_over.new.self kept.same (same_schedule c.loop-turn.self c.is_over.new.self over.same)) turn.of;
    }
