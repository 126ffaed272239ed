use Rattle.std.proofs.Common.{◌++◌, ap, ◌∙◌}
use Rattle.random_schedule.specs.Lists.{if_there}
use Rattle.random_schedule.proofs.Begun.{begun_set, queue_begun, queue_slot, ready_more}
use Rattle.random_schedule.proofs.begins.ready_txs.Goals as goal

pub ready_tx-requires-clause-slot : goal.ready_tx-requires-clause-slot
ready_tx-requires-clause-slot c =
    queue_slot c.args.world.now c.args.queues.now c.loop-place.place c.index-queues-place.result c.requires.queues c.loop-place-test.true
    c.index-queues-place.is

pub ready_tx-requires-clause-begun : goal.ready_tx-requires-clause-begun
ready_tx-requires-clause-begun c =
    let kept = c.loop-place.invariant in
    queue_begun c.args.world.now.book c.args.queues.now c.loop-place.begun c.loop-place.place c.index-queues-place.result kept.begun c.loop-place-test.true
    c.index-queues-place.is

pub returns-in_err-push_some-clause-begun : goal.returns-in_err-push_some-clause-begun
returns-in_err-push_some-clause-begun c =
    let kept = c.loop-place.invariant in
    let found = c.ready_tx.ensures in
    begun_set c.args.world.now.book c.args.queues.now c.loop-place.begun c.loop-place.place c.ready_tx.new.begun c.index-queues-place.result kept.begun
    c.loop-place-test.true c.index-queues-place.is found.begun

pub loop-place-preserved : goal.loop-place-preserved
loop-place-preserved c =
    let w = c.args.world.now in
    let queues = c.args.queues.now in
    let place = c.loop-place.place in
    let queue = c.index-queues-place.result in
    let kept = c.loop-place.invariant in
    let found = c.ready_tx.ensures in
    let added = c.in_ok-push_some.ensures in
    record {
      ready =
          ready_more w queues place queue c.loop-place.ready.items c.push_some.new.list.items _ c.loop-place-test.true c.index-queues-place.is kept.ready
          (added ∙ ap (λ o. c.loop-place.ready.items ++ if_there o) found.ready);
      begun =
          begun_set w.book queues c.loop-place.begun place c.ready_tx.new.begun queue kept.begun c.loop-place-test.true c.index-queues-place.is
          found.begun;
    }
