use Rattle.std.proofs.Common.{sym, ◌≤◌, length, arith}
use Rattle.tick_rules.proofs.Telling.{tick-running, tick-stopped}
use Rattle.tick_rules.proofs.timer.tick.Goals as goal

pub returns-then-is_stopped : goal.returns-then-is_stopped
returns-then-is_stopped c =
    let room : length c.args.out.now.sent ≤ 64 = rw c.requires.unsent (omega arith) in
    tick-stopped c.args.node.now _ (sym c.if-is_stopped.ensures) room

pub returns : goal.returns
returns c = tick-running c.args.node.now _ _ (sym c.if-is_stopped.ensures) c.repeat.ensures
