use Rattle.std.proofs.Common.{ℕ, ◌≡◌, ◌≤◌, ◌<◌, [], vec_capacity, vec_len}
use Rattle.zeus_base.specs.declared.order.Stream.{Stream}
use Rattle.history_book.specs.Entries.{HasEntries, HasSlots, of_stream}
use Rattle.history_book.proofs.entries.Entries.new.Given as goal

abbrev pub invariant-loop-node : goal.invariant-loop-node
invariant-loop-node l = record {
  size : vec_len l.rows ≡ l._node;
  capacity : l.nodes ≤ vec_capacity l.rows;
  streams : HasSlots l._node l.slots l.rows.items;
  none : (s : Stream) → (of_stream l.rows.items s).ids ≡ [];
  room : HasEntries l.count l._node l.slots l.rows.items;
}
