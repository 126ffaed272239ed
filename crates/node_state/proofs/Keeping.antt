-- What always holds of a node's state holds after a change of it.
use Rattle.std.proofs.Common.{◌≡◌, List, Option, length, sym, ap, ◌∙◌}
use Rattle.zeus_model.specs.State.{Node, Slot, no_slot}
use Rattle.zeus_model.specs.Tables.{nth}
use Rattle.object_table.specs.declared.hold.Hold.{Hold}
use Rattle.object_table.specs.Holding.{AreHeld}
use Rattle.object_table.specs.NodeHolds.{AreHeld-same}
use Rattle.node_ranges.specs.Derived.{KeepsRanges-shown}
use Rattle.node_ranges.specs.Ranges.{KeepsRanges, limits_of}
use Rattle.node_state.specs.declared.state.NodeState.TheInside.{Inside}
use Rattle.node_state.specs.Shown.{IsKept, shown}

-- the same holds of an equal node
pub own_at : (k m : Node) → k ≡ m → KeepsRanges (limits_of m) m → KeepsRanges (limits_of k) k
own_at k m e h = rw e h

-- if objects are held as a node says, then they are so by an equal node
pub held_at : (k m : Node) (holds : List (Option Hold)) → k ≡ m → AreHeld m holds → AreHeld k holds
held_at k m holds e h = rw e h

module _ (a b : Inside) (m : Node) (becomes : shown b ≡ m) (nodes : b.node_count ≡ a.node_count) (slots : b.slot_count ≡ a.slot_count) (is : IsKept a) where
  -- the state has become one that keeps the ranges, and whose slots hold what their entries name
  pub IsKept-becomes : KeepsRanges (limits_of (shown a)) m → AreHeld m b.copies.holds → IsKept b
  IsKept-becomes ranges held =
      record {
        ranges = own_at (shown b) m becomes (KeepsRanges-shown (limits_of (shown a)) m ranges);
        held = held_at (shown b) m b.copies.holds becomes held;
        nodes = nodes ∙ is.nodes ∙ sym (ap (λ (n : Node). length n.logs) becomes ∙ ranges.sizes.nodes);
        slots = slots ∙ is.slots ∙ sym (ap (λ (n : Node). length n.slots) becomes ∙ ranges.sizes.slots);
      }

  -- likewise where neither the slots nor the holds have changed
  pub IsKept-beside : KeepsRanges (limits_of (shown a)) m → b.copies.holds ≡ a.copies.holds → m.slots ≡ (shown a).slots → IsKept b
  IsKept-beside ranges holds same =
      IsKept-becomes ranges
      (rw holds (AreHeld-same (shown a) m a.copies.holds (λ t. ap (λ (ls : List Slot). (nth no_slot ls t).pending) same) is.held))
