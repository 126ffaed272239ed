use Rattle.std.proofs.Common.{ap, refl, subst, sym, ◌≡◌, ◌<◌}
use Rattle.reached_worlds.specs.Reached.{IsReached}
use Rattle.zeus_world.proofs.Keeping.{promised_after, promised_sound, promised_stepped, reached_promised}
use Rattle.zeus_world.proofs.Stepping.{begin_there, stop_there}
use Rattle.zeus_world.proofs.world.World.step_event.Goals as goal

pub begin-requires-clause-there : goal.begin-requires-clause-there
begin-requires-clause-there c = begin_there _ _ c.in-Begin.id (rw c.in-Begin.is at c.requires)

pub stop-requires-clause-node : goal.stop-requires-clause-node
stop-requires-clause-node c = stop_there _ _ c.in-Stop.at (rw c.in-Stop.is at c.requires)

pub returns-in-Begin-clause-sound : goal.returns-in-Begin-clause-sound
returns-in-Begin-clause-sound c =
    let reached = subst IsReached c.self.view_is c.self.invariant.reached in
    promised_sound _ (promised_stepped c.args.self.now c.begin.new.self c.args.step.now _ reached c.requires c.every_run_keeps_its_promise.ensures c.in-Begin.is c.begin.ensures.becomes)

pub returns-in-Begin-clause-promise : goal.returns-in-Begin-clause-promise
returns-in-Begin-clause-promise c =
    let reached = subst IsReached c.self.view_is c.self.invariant.reached in
    promised_stepped c.args.self.now c.begin.new.self c.args.step.now _ reached c.requires c.every_run_keeps_its_promise.ensures c.in-Begin.is c.begin.ensures.becomes

pub returns-in-Try-clause-sound : goal.returns-in-Try-clause-sound
returns-in-Try-clause-sound c =
    let reached = subst IsReached c.self.view_is c.self.invariant.reached in
    promised_sound _ (promised_after c.args.self.now c.try_slot.new.self c.args.step.now _ c.try_slot.new.event c.try_slot.result reached c.requires c.every_run_keeps_its_promise.ensures c.in-Try.is (record { ok = c.try_slot.ensures.ok; err = c.try_slot.ensures.err }))

pub returns-in-Try-clause-promise : goal.returns-in-Try-clause-promise
returns-in-Try-clause-promise c =
    let reached = subst IsReached c.self.view_is c.self.invariant.reached in
    promised_after c.args.self.now c.try_slot.new.self c.args.step.now _ c.try_slot.new.event c.try_slot.result reached c.requires c.every_run_keeps_its_promise.ensures c.in-Try.is (record { ok = c.try_slot.ensures.ok; err = c.try_slot.ensures.err })

pub returns-in-Deliver-clause-sound : goal.returns-in-Deliver-clause-sound
returns-in-Deliver-clause-sound c =
    let reached = subst IsReached c.self.view_is c.self.invariant.reached in
    promised_sound _ (promised_after c.args.self.now c.deliver.new.self c.args.step.now _ c.deliver.new.event c.deliver.result reached c.requires c.every_run_keeps_its_promise.ensures c.in-Deliver.is (record { ok = c.deliver.ensures.ok; err = c.deliver.ensures.err }))

pub returns-in-Deliver-clause-promise : goal.returns-in-Deliver-clause-promise
returns-in-Deliver-clause-promise c =
    let reached = subst IsReached c.self.view_is c.self.invariant.reached in
    promised_after c.args.self.now c.deliver.new.self c.args.step.now _ c.deliver.new.event c.deliver.result reached c.requires c.every_run_keeps_its_promise.ensures c.in-Deliver.is (record { ok = c.deliver.ensures.ok; err = c.deliver.ensures.err })

pub returns-in-Tick-clause-sound : goal.returns-in-Tick-clause-sound
returns-in-Tick-clause-sound c =
    let reached = subst IsReached c.self.view_is c.self.invariant.reached in
    promised_sound _ (promised_after c.args.self.now c.tick.new.self c.args.step.now _ c.tick.new.event c.tick.result reached c.requires c.every_run_keeps_its_promise.ensures c.in-Tick.is (record { ok = c.tick.ensures.ok; err = c.tick.ensures.err }))

pub returns-in-Tick-clause-promise : goal.returns-in-Tick-clause-promise
returns-in-Tick-clause-promise c =
    let reached = subst IsReached c.self.view_is c.self.invariant.reached in
    promised_after c.args.self.now c.tick.new.self c.args.step.now _ c.tick.new.event c.tick.result reached c.requires c.every_run_keeps_its_promise.ensures c.in-Tick.is (record { ok = c.tick.ensures.ok; err = c.tick.ensures.err })

pub returns-in-Stop-clause-sound : goal.returns-in-Stop-clause-sound
returns-in-Stop-clause-sound c =
    let reached = subst IsReached c.self.view_is c.self.invariant.reached in
    promised_sound _ (promised_stepped c.args.self.now c.stop.new.self c.args.step.now _ reached c.requires c.every_run_keeps_its_promise.ensures c.in-Stop.is c.stop.ensures.becomes)

pub returns-in-Stop-clause-promise : goal.returns-in-Stop-clause-promise
returns-in-Stop-clause-promise c =
    let reached = subst IsReached c.self.view_is c.self.invariant.reached in
    promised_stepped c.args.self.now c.stop.new.self c.args.step.now _ reached c.requires c.every_run_keeps_its_promise.ensures c.in-Stop.is c.stop.ensures.becomes

pub returns-in-View-clause-sound : goal.returns-in-View-clause-sound
returns-in-View-clause-sound c =
    let reached = subst IsReached c.self.view_is c.self.invariant.reached in
    promised_sound _ (promised_after c.args.self.now c.view.new.self c.args.step.now _ c.view.new.event c.view.result reached c.requires c.every_run_keeps_its_promise.ensures c.in-View.is (record { ok = c.view.ensures.ok; err = c.view.ensures.err }))

pub returns-in-View-clause-promise : goal.returns-in-View-clause-promise
returns-in-View-clause-promise c =
    let reached = subst IsReached c.self.view_is c.self.invariant.reached in
    promised_after c.args.self.now c.view.new.self c.args.step.now _ c.view.new.event c.view.result reached c.requires c.every_run_keeps_its_promise.ensures c.in-View.is (record { ok = c.view.ensures.ok; err = c.view.ensures.err })

pub returns-in-Install-clause-sound : goal.returns-in-Install-clause-sound
returns-in-Install-clause-sound c =
    let reached = subst IsReached c.self.view_is c.self.invariant.reached in
    promised_sound _ (promised_after c.args.self.now c.install.new.self c.args.step.now _ c.install.new.event c.install.result reached c.requires c.every_run_keeps_its_promise.ensures c.in-Install.is (record { ok = c.install.ensures.ok; err = c.install.ensures.err }))

pub returns-in-Install-clause-promise : goal.returns-in-Install-clause-promise
returns-in-Install-clause-promise c =
    let reached = subst IsReached c.self.view_is c.self.invariant.reached in
    promised_after c.args.self.now c.install.new.self c.args.step.now _ c.install.new.event c.install.result reached c.requires c.every_run_keeps_its_promise.ensures c.in-Install.is (record { ok = c.install.ensures.ok; err = c.install.ensures.err })

pub returns-then-steps-clause-sound : goal.returns-then-steps-clause-sound
returns-then-steps-clause-sound c =
    let reached = subst IsReached c.self.view_is c.self.invariant.reached in
    promised_sound _ (reached_promised c.args.self.now reached c.every_run_keeps_its_promise.ensures)

pub returns-then-steps-clause-promise : goal.returns-then-steps-clause-promise
returns-then-steps-clause-promise c =
    let reached = subst IsReached c.self.view_is c.self.invariant.reached in
    reached_promised c.args.self.now reached c.every_run_keeps_its_promise.ensures
