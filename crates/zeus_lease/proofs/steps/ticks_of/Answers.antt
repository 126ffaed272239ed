use Rattle.std.proofs.lemmas.Result.{err_from_is_err_and}
use Rattle.zeus_lease.proofs.TickSteps.{ticks_next, ticks_fail, ticks_end}
use Rattle.zeus_lease.proofs.steps.ticks_of.Goals as goal

pub returns-in_err-tick : goal.returns-in_err-tick
returns-in_err-tick c =
    let p = err_from_is_err_and c.from_residual.result c.from_residual.ensures.1 in
    rw (p.1, p.2) (ticks_fail c.args.count c.loop-turn._turn c.loop-turn.ticks.items c.loop-turn.words _ c.loop-turn.invariant c.in_err-tick.field-0.0 c.loop-turn-test.true c.in_err-tick.ensures.number)

pub loop-turn-preserved : goal.loop-turn-preserved
loop-turn-preserved c =
    rw c.in_ok-push.ensures.items (ticks_next c.args.count c.loop-turn._turn c.loop-turn.ticks.items c.loop-turn.words _ c.loop-turn.invariant c.in_ok-tick.tick c.number_in.new.self c.loop-turn-test.true c.in_ok-tick.ensures.number)

pub returns : goal.returns
returns c =
    rw c.from_vec.ensures (ticks_end c.args.count c.loop-turn._turn c.loop-turn.ticks.items c.loop-turn.words _ c.loop-turn.invariant c.loop-turn-test.false)
