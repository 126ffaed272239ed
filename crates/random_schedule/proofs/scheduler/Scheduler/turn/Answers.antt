use Rattle.std.proofs.Common.{refl}
use Rattle.random_schedule.proofs.Turning.{goes_on, same_script}
use Rattle.random_schedule.proofs.scheduler.Scheduler.turn.Goals as goal

pub returns-clause-under_way : goal.returns-clause-under_way
returns-clause-under_way c =
    let chosen = c.in_ok-step.ensures in
    let after = c.in_ok-step_event.ensures in
    goes_on c.args.self.now _ c.in_ok-step.step c.requires after.after c.in_ok-push.ensures chosen.fits chosen.keeps refl

pub returns-clause-of : goal.returns-clause-of
returns-clause-of c =
    let after = c.in_ok-step_event.ensures in
    same_script c.args.self.now _ c.in_ok-step.step after.after
