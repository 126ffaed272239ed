-- The slots of a world in its ranges.
use Rattle.std.proofs.Common.{ℕ, ◌≡◌, ◌<◌, Option, Some, None, List, length, refl, ap, sym, ◌∙◌}
use Rattle.std.specs.Prelude.{option_map, is_some}
use Rattle.zeus_base.specs.declared.order.Stream.{Stream}
use Rattle.zeus_base.specs.Limits.{limits_of}
use Rattle.zeus_model.specs.World.{World, node}
use Rattle.zeus_model.specs.declared.state.Current.{Current}
use Rattle.node_ranges.specs.Ranges.{KeepsRanges}
use Rattle.reached_worlds.specs.Ranged.{IsRanged}
use Rattle.random_schedule.specs.Ready.{IsSlot}

-- the node of a slot has it
pub has_slots : (w : World) (s : Stream) → IsRanged w → IsSlot w.config s → s.slot < length (node w s.node).slots
has_slots w s r h =
    let k = r.ranges s.node h.node in
    let z = k.sizes in
    rw z.slots h.slot

-- a slot has the number of a current transaction exactly if it has the transaction
pub current_is : (o : Option Current) → is_some (option_map (λ (c : Current). c.id) o) ≡ is_some o
current_is None = refl
current_is (Some c) = refl
