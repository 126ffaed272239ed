use Rattle.std.proofs.Common.{List, All, subst, sym}
use Rattle.std.proofs.lemmas.List.Elements.{All-push}
use Rattle.random_schedule.specs.Ready.{IsQueue}
use Rattle.random_schedule.specs.declared.queues.Queue.{Queue}
use Rattle.random_schedule.proofs.Begun.{slots_more}
use Rattle.random_schedule.proofs.queues.queues_of.Goals as goal

pub loop-slot-preserved : goal.loop-slot-preserved
loop-slot-preserved c =
    let made = c.in_ok-new.ensures in
    let added = c.in_ok-push.ensures in
    let kept = c.loop-slot.invariant in
    let P : List Queue → Type 0 = λ l. All (IsQueue c.args.txs.now) l in
    record {
      slots =
          slots_more c.loop-slot.queues.items c.push.new.list.items c.in_ok-new.field-0 c.args.slots.now c.loop-slot.slot-index c.slot-item.result
          c.loop-slot-test.true c.slot-item.is kept.slots made.slot added;
      each = subst P (sym added) (All-push (IsQueue c.args.txs.now) c.loop-slot.queues.items c.in_ok-new.field-0 kept.each made.queue);
    }
