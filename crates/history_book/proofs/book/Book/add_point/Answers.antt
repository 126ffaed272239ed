use Rattle.std.proofs.Common.{arith, ap}
use Rattle.std.specs.Prelude.{is_none}
use Rattle.history_book.specs.Books.{has_no_point}
use Rattle.history_book.proofs.Counts.{some_left}
use Rattle.history_book.proofs.Keeping.{kept_pointed, seen_pointed}
use Rattle.history_book.proofs.book.Book.add_point.Goals as goal

pub push-requires : goal.push-requires
push-requires c =
    let there = rw (← c.self.view_is) at c.requires.there in
    let none = rw (← c.self.view_is) at c.requires.first in
    let some = some_left has_no_point c.self.inside.records.items c.args.id there (ap is_none none) in
    let room = c.self.invariant.room in
    omega arith

pub invariant_of-self : goal.invariant_of-self
invariant_of-self c =
    let there = rw (← c.self.view_is) at c.requires.there in
    let none = rw (← c.self.view_is) at c.requires.first in
    let replied = rw (← c.self.view_is) at c.requires.replied in
    let found = rw c.place.ensures at c.index_mut-record.ensures.value in
    rw c.place.ensures
    (kept_pointed c.self.inside c.args.id c.set_point.new.self c.push.new.self c.self.invariant replied (record {
      changed = record { there = there; before = _; read = found; changed = c.set_point.ensures };
      first = none;
      added = record { ids = c.push.ensures.ids; room = c.push.ensures.room };
    }))

pub returns : goal.returns
returns c =
    let there = rw (← c.self.view_is) at c.requires.there in
    let none = rw (← c.self.view_is) at c.requires.first in
    let found = rw c.place.ensures at c.index_mut-record.ensures.value in
    rw (← c.self.view_is, c.place.ensures)
    (seen_pointed c.self.inside c.args.id c.set_point.new.self c.push.new.self c.self.invariant.pointed (record {
      changed = record { there = there; before = _; read = found; changed = c.set_point.ensures };
      first = none;
      added = record { ids = c.push.ensures.ids; room = c.push.ensures.room };
    }))
