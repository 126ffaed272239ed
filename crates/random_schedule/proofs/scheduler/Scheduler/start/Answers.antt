use Rattle.std.proofs.Common.{refl}
use Rattle.random_schedule.proofs.Turning.{started}
use Rattle.random_schedule.proofs.scheduler.Scheduler.start.Goals as goal

pub returns-clause-under_way : goal.returns-clause-under_way
returns-clause-under_way c =
    let s = c.args.script.now in
    started _ s.config s.txs c.requires.limits c.requires.txs c.in_ok-world.ensures.start c.new.ensures.items c.in_ok-new.ensures.keeps refl
