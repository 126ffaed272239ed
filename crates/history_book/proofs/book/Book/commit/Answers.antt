use Rattle.std.proofs.Common.{arith, ap}
use Rattle.std.specs.Prelude.{is_none}
use Rattle.zeus_model.specs.Book.{tx_from}
use Rattle.history_book.specs.Books.{has_no_entry}
use Rattle.history_book.specs.Entries.{HasEntries, of_stream}
use Rattle.history_book.proofs.Counts.{some_left}
use Rattle.history_book.proofs.Current.{current_free, next_is}
use Rattle.history_book.proofs.Keeping.{kept_committed, seen_unpointed, with_entry}
use Rattle.history_book.proofs.book.Book.commit.Goals as goal

pub push-requires-clause-room : goal.push-requires-clause-room
unfolding HasEntries
push-requires-clause-room c =
    let there = rw (← c.self.view_is) at c.requires.there in
    let current = rw (← c.self.view_is) at c.requires.current in
    let stream = rw (← c.self.view_is) at c.requires.stream in
    let some = some_left has_no_entry c.self.inside.records.items c.args.id there (ap is_none (current_free _ current).entry) in
    let more = c.self.invariant.more c.args.stream stream in
    omega arith

pub invariant_of-self : goal.invariant_of-self
invariant_of-self c =
    let there = rw (← c.self.view_is) at c.requires.there in
    let current = rw (← c.self.view_is) at c.requires.current in
    let stream = rw (← c.self.view_is) at c.requires.stream in
    let next = rw (← c.self.view_is) at c.requires.next in
    let found = rw c.place.ensures at c.index_mut-record.ensures.value in
    let free = current_free _ current in
    let last = next_is (of_stream c.self.inside.entries c.args.stream).ids c.args.number (λ k. tx_from c.args.stream k 0 c.self.inside.records.items) (c.self.invariant.found c.args.stream) next.below next.free in
    rw (c.place.ensures, c.push.ensures.list)
    (kept_committed c.self.inside c.args.id c.commit.new.self c.args.stream c.args.number c.args.reply (of_stream c.push.new.self c.args.stream) c.self.invariant (record {
      changed = record { there = there; before = _; read = found; changed = c.commit.ensures };
      free = free;
      stream = stream;
      next = last;
      added = record { ids = c.push.ensures.ids; room = c.push.ensures.room };
    }))

pub returns : goal.returns
returns c =
    let there = rw (← c.self.view_is) at c.requires.there in
    let current = rw (← c.self.view_is) at c.requires.current in
    let found = rw c.place.ensures at c.index_mut-record.ensures.value in
    let free = current_free _ current in
    rw (← c.self.view_is, c.place.ensures)
    (seen_unpointed (with_entry c.args.stream c.args.number c.args.reply) c.self.inside c.args.id c.commit.new.self c.self.invariant.pointed free.point
    (record { there = there; before = _; read = found; changed = c.commit.ensures }))
