use Rattle.std.proofs.Common.{None}
use Rattle.zeus_base.specs.TableLaws.{nth_read}
use Rattle.arbitration.specs.Gathering.{gathered}
use Rattle.arbitration.proofs.Noting.{put_read}
use Rattle.arbitration.proofs.gathers.Gathers.take_ack.Goals as goal

pub returns-clause-answer : goal.returns-clause-answer
returns-clause-answer c =
    let there = rw c.place.ensures at c.index_mut-gather.ensures.value in
    let here = rw (← c.self.view_is) at c.requires in
    rw (← c.self.view_is, nth_read None _ _ _ here there) c.take_ack.ensures.answer

pub returns-clause-after : goal.returns-clause-after
returns-clause-after c =
    let there = rw c.place.ensures at c.index_mut-gather.ensures.value in
    let here = rw (← c.self.view_is) at c.requires in
    rw (← c.self.view_is, c.place.ensures)
    (put_read None _ c.args.obj _ _ (λ g. gathered g c.args.from c.args.p.now c.args.content) here there c.take_ack.ensures.after)
