use Rattle.std.proofs.Common.{subst}
use Rattle.reached_worlds.specs.Reached.{IsReached}
use Rattle.zeus_world.proofs.Keeping.{promised_sound, reached_promised}
use Rattle.zeus_world.proofs.world.World.step_into.Goals as goal

pub returns-in_err-event-clause-sound : goal.returns-in_err-event-clause-sound
returns-in_err-event-clause-sound c =
    let reached = subst IsReached c.self.view_is c.self.invariant.reached in
    promised_sound _ (reached_promised c.args.self.now reached c.every_run_keeps_its_promise.ensures)

pub returns-in_err-event-clause-promise : goal.returns-in_err-event-clause-promise
returns-in_err-event-clause-promise c =
    let reached = subst IsReached c.self.view_is c.self.invariant.reached in
    reached_promised c.args.self.now reached c.every_run_keeps_its_promise.ensures

pub returns-in_err-reserve-clause-sound : goal.returns-in_err-reserve-clause-sound
returns-in_err-reserve-clause-sound c =
    let reached = subst IsReached c.self.view_is c.self.invariant.reached in
    promised_sound _ (reached_promised c.args.self.now reached c.every_run_keeps_its_promise.ensures)

pub returns-in_err-reserve-clause-promise : goal.returns-in_err-reserve-clause-promise
returns-in_err-reserve-clause-promise c =
    let reached = subst IsReached c.self.view_is c.self.invariant.reached in
    reached_promised c.args.self.now reached c.every_run_keeps_its_promise.ensures
