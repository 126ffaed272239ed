use Rattle.std.proofs.Common.{◌≡◌, ◌++◌, ap, ◌∙◌}
use Rattle.random_schedule.specs.Choices.{txs_from}
use Rattle.random_schedule.specs.Lists.{if_passes}
use Rattle.random_schedule.proofs.Making.{own_more, own_done}
use Rattle.random_schedule.proofs.queues.own_txs.Goals as goal

pub loop-place-preserved : goal.loop-place-preserved
loop-place-preserved c =
    let told = c.is_of.ensures in
    let added = c.in_ok-push_if.ensures in
    own_more c.args.slot.now _ c.loop-place.place c.declared-item.result c.loop-place.own.items c.push_if.new.list.items _ c.loop-place-test.true
    c.declared-item.is c.loop-place.invariant (added ∙ ap (λ t. c.loop-place.own.items ++ if_passes t c.loop-place.place) told)

pub returns : goal.returns
returns c =
    own_done c.args.slot.now _ c.loop-place.place c.loop-place.own.items _ c.loop-place-test.false c.loop-place.invariant
    ∙ ap (λ ts. txs_from 0 c.args.slot.now ts) c.as_slice-declared-items.ensures
