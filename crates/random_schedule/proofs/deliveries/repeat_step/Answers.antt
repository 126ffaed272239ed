use Rattle.std.proofs.Common.{ℕ, ◌≡◌, ◌<◌, subst, sym}
use Rattle.std.specs.Prelude.{IfSome, Option, List, filter}
use Rattle.random_schedule.specs.Choices.{can_repeat, chosen, count_sent}
use Rattle.random_schedule.specs.Ready.{IsLink}
use Rattle.random_schedule.specs.declared.fresh.FreshPacket.{FreshPacket}
use Rattle.random_schedule.proofs.Elements.{chosen_links, chosen_some}
use Rattle.random_schedule.proofs.deliveries.repeat_step.Goals as goal

pub repeat_at-requires-clause-link : goal.repeat_at-requires-clause-link
repeat_at-requires-clause-link c =
    let w = c.args.world.now in
    let list = c.as_slice.ensures.value in
    let made = c.in_ok-repeating.ensures in
    let told = c.chosen-link.ensures in
    let is : c.chosen-link.result ≡ chosen c.args.u (filter (can_repeat w) c.args.links.now) = cc (list, made, told) in
    let P : Option FreshPacket → Type 0 = λ o. IfSome o (IsLink w.config) in
    subst P (sym is) (chosen_links w.config (can_repeat w) c.args.u c.args.links.now c.requires.links)

pub repeat_at-requires-clause-sent : goal.repeat_at-requires-clause-sent
repeat_at-requires-clause-sent c =
    let w = c.args.world.now in
    let list = c.as_slice.ensures.value in
    let made = c.in_ok-repeating.ensures in
    let told = c.chosen-link.ensures in
    let is : c.chosen-link.result ≡ chosen c.args.u (filter (can_repeat w) c.args.links.now) = cc (list, made, told) in
    let P : Option FreshPacket → Type 0 = λ o. IfSome o (λ p. 0 < count_sent w p) in
    subst P (sym is) (chosen_some w c.args.u c.args.links.now)
