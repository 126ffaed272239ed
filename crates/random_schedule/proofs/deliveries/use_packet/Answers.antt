use Rattle.std.proofs.Common.{◌≡◌, ◌+◌, ◌++◌, set, take, drop, subst, sym, ap, ◌∙◌}
use Rattle.std.specs.Prelude.{map}
use Rattle.std.proofs.lemmas.List.Edits.{map_over_more}
use Rattle.random_schedule.specs.Schedule.{behind}
use Rattle.random_schedule.specs.declared.fresh.FreshPacket.{FreshPacket}
use Rattle.random_schedule.proofs.deliveries.use_packet.Goals as goal

pub loop-link-preserved : goal.loop-link-preserved
loop-link-preserved c =
    let f = behind c.args.packet.now in
    let links = c.args.links.now in
    let i = c.loop-link.link-index in
    let P : FreshPacket → Type 0 = λ q. set c.loop-link.link-items i q ≡ map f (take (i + 1) links) ++ drop (i + 1) links in
    let here : c.move_behind.new.link ≡ f c.link-item.result = c.move_behind.ensures ∙ ap f (sym c.link-item.is) in
    subst P (sym here) (map_over_more f links c.loop-link.link-items i c.link-item.result c.loop-link-test.true c.loop-link.invariant c.link-item.is)
