use Rattle.std.proofs.Common.{◌≡◌, drop}
use Rattle.history_book.specs.Books.{HasLists, so_far, with_book}
use Rattle.history_book.proofs.Passing.{streams_left}
use Rattle.history_book.proofs.book.Book.pass_each.Given as goal

-- the streams that are left have the same end, and there is room for them
abbrev pub invariant-loop-passed : goal.invariant-loop-passed
invariant-loop-passed l = record {
  shape : l.self ≡ with_book l.initial.self l.self.book;
  change :
      streams_left (so_far l.self l.points l.acked) l.me (drop l.passed-index l.passes)
      ≡ streams_left (so_far l.initial.self l.initial.points l.initial.acked) l.me l.passes;
  lists : HasLists l.self.book l.points l.acked;
}
