use Rattle.std.proofs.Common.{ℕ, ◌≡◌, ◌≤◌, ◌<◌, [], vec_capacity, vec_len}
use Rattle.zeus_model.specs.Tables.{nth}
use Rattle.history_book.specs.Ids.{no_ids}
use Rattle.history_book.proofs.entries.NodeEntries.new.Given as goal

abbrev pub invariant-loop-slot : goal.invariant-loop-slot
invariant-loop-slot l = record {
  size : vec_len l.lists ≡ l._slot;
  capacity : l.slots ≤ vec_capacity l.lists;
  none : (s : ℕ) → (nth no_ids l.lists.items s).ids ≡ [];
  room : (s : ℕ) → s < l._slot → l.count ≤ (nth no_ids l.lists.items s).room;
}
