use Rattle.std.proofs.Common.{ℕ, ◌≡◌, ◌<◌, ◌≤◌, ◌+◌, refl, [], ap, ◌∙◌, length, arith, subst}
use Rattle.history_book.specs.Ids.{IdsState, no_ids}
use Rattle.history_book.proofs.Rows.{holds_append, holds_below, nothing_in}
use Rattle.history_book.proofs.entries.NodeEntries.new.Goals as goal

pub loop-slot-init : goal.loop-slot-init
loop-slot-init c = record {
  size = omega (arith, c.in-Ok.ensures.len);
  capacity = omega (arith, c.in-Ok.ensures.capacity);
  none = rw c.in-Ok.ensures.items nothing_in;
  room = λ s h. absurd (omega arith);
}

pub loop-slot-preserved : goal.loop-slot-preserved
loop-slot-preserved c = record {
  size = omega arith;
  capacity = omega arith;
  none = rw c.push_reserved.ensures.items (holds_append (λ (l : IdsState). l.ids ≡ []) no_ids c.loop-slot.lists.items c.in_ok-with_room.field-0 c.loop-slot.invariant.none c.in_ok-with_room.ensures.ids);
  room = rw c.push_reserved.ensures.items (λ s h. holds_below (λ (l : IdsState). c.args.count ≤ l.room) no_ids c.loop-slot.lists.items c.in_ok-with_room.field-0 (λ i k. c.loop-slot.invariant.room i (omega arith)) c.in_ok-with_room.ensures.room s (omega arith));
}
