use Rattle.std.proofs.Common.{◌++◌, List, All, ap, sym, subst, ◌∙◌}
use Rattle.random_schedule.specs.Choices.{can_arrive}
use Rattle.random_schedule.specs.Lists.{if_passes}
use Rattle.random_schedule.specs.Ready.{HasNext}
use Rattle.random_schedule.specs.declared.fresh.FreshPacket.{FreshPacket}
use Rattle.random_schedule.proofs.Elements.{push_if_all}
use Rattle.random_schedule.proofs.Making.{passes_more}
use Rattle.random_schedule.proofs.deliveries.arriving.Goals as goal

pub loop-link-preserved : goal.loop-link-preserved
loop-link-preserved c =
    let kept = c.loop-link.invariant in
    let can = c.can_arrive.ensures in
    let added = c.in_ok-push_if.ensures in
    let found = c.loop-link.arriving.items in
    let link = c.link-item.result in
    let P : List FreshPacket → Type 0 = λ l. All HasNext l in
    record {
      passing =
          passes_more (can_arrive c.args.world.now) c.args.links.now c.loop-link.link-index link found c.push_if.new.list.items _ c.loop-link-test.true
          c.link-item.is kept.passing (added ∙ ap (λ t. found ++ if_passes t link) can.value);
      next = subst P (sym added) (push_if_all HasNext found c.can_arrive.result link kept.next can.next);
    }
