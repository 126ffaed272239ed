use Rattle.std.proofs.Common.{◌≡◌, subst, sym}
use Rattle.std.specs.Prelude.{IfSome, filter, Option}
use Rattle.zeus_base.specs.declared.order.Stream.{Stream}
use Rattle.random_schedule.specs.Choices.{can_try, chosen}
use Rattle.random_schedule.specs.Ready.{IsSlot}
use Rattle.random_schedule.proofs.Elements.{trying_slots}
use Rattle.random_schedule.proofs.slots.try_step.Goals as goal

pub try_at-requires-clause-slot : goal.try_at-requires-clause-slot
try_at-requires-clause-slot c =
    let w = c.args.world.now in
    let list = c.as_slice.ensures.value in
    let made = c.in_ok-trying.ensures in
    let told = c.chosen.ensures in
    let is : c.chosen.result ≡ chosen c.args.u (filter (can_try w) c.args.slots.now) = cc (list, made, told) in
    let P : Option Stream → Type 0 = λ o. IfSome o (IsSlot w.config) in
    subst P (sym is) (trying_slots w.config (can_try w) c.args.u c.args.slots.now c.requires.slots)
