use Rattle.std.proofs.Common.{◌≡◌, ◌-◌}
use Rattle.history_book.specs.Books.{HasLists, so_far, with_book}
use Rattle.history_book.proofs.Passing.{left}
use Rattle.history_book.proofs.book.Book.pass.Given as goal

-- the entries that are left have the same end, and there is room for them
abbrev pub invariant-loop-number : goal.invariant-loop-number
invariant-loop-number l = record {
  shape : l.self ≡ with_book l.initial.self l.self.book;
  change :
      left (so_far l.self l.points l.acked) l.own l.passed.stream l.number (l.passed.after - l.number)
      ≡ left (so_far l.initial.self l.initial.points l.initial.acked) l.own l.passed.stream l.passed.first (l.passed.after - l.passed.first);
  lists : HasLists l.self.book l.points l.acked;
}
