use Rattle.std.proofs.Common.{◌≡◌, ◌≤◌, vec_capacity, vec_len}
use Rattle.std.specs.Prelude.{replicate}
use Rattle.zeus_model.specs.Book.{no_record}
use Rattle.history_book.proofs.book.Book.new.Given as goal

abbrev pub invariant-loop-id : goal.invariant-loop-id
invariant-loop-id l = record {
  items : l.records.items ≡ replicate l._id no_record;
  size : vec_len l.records ≡ l._id;
  room : l.count ≤ vec_capacity l.records;
}
