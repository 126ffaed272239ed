use Rattle.std.proofs.Common.{◌≡◌, subst, sym}
use Rattle.std.specs.Prelude.{IfSome, Option, List, filter}
use Rattle.random_schedule.specs.Choices.{can_arrive, chosen}
use Rattle.random_schedule.specs.Ready.{AreLinks, HasNext, IsLink}
use Rattle.random_schedule.specs.declared.fresh.FreshPacket.{FreshPacket}
use Rattle.random_schedule.proofs.Elements.{chosen_all, chosen_links, used_at_links}
use Rattle.random_schedule.proofs.deliveries.fresh_step.Goals as goal

pub use_found-requires : goal.use_found-requires
use_found-requires c =
    let list = c.as_slice.ensures.value in
    let told = c.chosen-packet.ensures in
    let is : c.chosen-packet.result ≡ chosen c.args.u c.in_ok-arriving.arriving.items = cc (list, told) in
    let P : Option FreshPacket → Type 0 = λ o. IfSome o HasNext in
    subst P (sym is) (chosen_all HasNext c.args.u c.in_ok-arriving.arriving.items c.in_ok-arriving.ensures.next)

pub arrival_at-requires-clause-packet : goal.arrival_at-requires-clause-packet
arrival_at-requires-clause-packet c =
    let w = c.args.world.now in
    let list = c.as_slice.ensures.value in
    let made = c.in_ok-arriving.ensures.passing in
    let told = c.chosen-packet.ensures in
    let is : c.chosen-packet.result ≡ chosen c.args.u (filter (can_arrive w) c.args.links.now) = cc (list, made, told) in
    let P : Option FreshPacket → Type 0 = λ o. IfSome o (IsLink w.config) in
    subst P (sym is) (chosen_links w.config (can_arrive w) c.args.u c.args.links.now c.requires.links)

pub returns-clause-links : goal.returns-clause-links
returns-clause-links c =
    let w = c.args.world.now in
    let list = c.as_slice.ensures.value in
    let made = c.in_ok-arriving.ensures.passing in
    let told = c.chosen-packet.ensures in
    let is : c.chosen-packet.result ≡ chosen c.args.u (filter (can_arrive w) c.args.links.now) = cc (list, made, told) in
    let P : Option FreshPacket → Type 0 = λ o. IfSome o (IsLink w.config) in
    let link = subst P (sym is) (chosen_links w.config (can_arrive w) c.args.u c.args.links.now c.requires.links) in
    let L : List FreshPacket → Type 0 = λ l. AreLinks w.config l in
    subst L (sym c.use_found.ensures) (used_at_links w.config c.args.links.now c.chosen-packet.result link c.requires.links)
