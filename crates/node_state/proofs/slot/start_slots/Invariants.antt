use Rattle.std.proofs.Common.{◌≡◌, vec_capacity, vec_len}
use Rattle.std.specs.Prelude.{replicate}
use Rattle.zeus_model.specs.State.{no_slot}
use Rattle.node_state.proofs.slot.start_slots.Given as goal

abbrev pub invariant-loop-slot : goal.invariant-loop-slot
invariant-loop-slot l = record {
  items : l.slots.items ≡ replicate l._slot no_slot;
  size : vec_len l.slots ≡ l._slot;
  room : vec_capacity l.slots ≡ l.count;
}
