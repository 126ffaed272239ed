use Rattle.std.proofs.Common.{Some, true}
use Rattle.zeus_model.specs.Book.{TxRecord}
use Rattle.history_book.proofs.Keeping.{kept_marked, mark_refused, seen_marked}
use Rattle.history_book.proofs.book.Book.refuse.Goals as goal

pub invariant_of-self : goal.invariant_of-self
invariant_of-self c =
    let there = rw (← c.self.view_is) at c.requires in
    let found = rw c.place.ensures at c.index_mut-record.ensures.value in
    rw c.place.ensures
    (kept_marked (λ (r : TxRecord). record r { refused = true }) c.self.inside c.args.id c.refuse.new.self mark_refused c.self.invariant
    (record { there = there; before = _; read = found; changed = c.refuse.ensures }))

pub returns : goal.returns
returns c =
    let there = rw (← c.self.view_is) at c.requires in
    let found = rw c.place.ensures at c.index_mut-record.ensures.value in
    rw (← c.self.view_is, c.place.ensures)
    (seen_marked (λ (r : TxRecord). record r { refused = true }) c.self.inside c.args.id c.refuse.new.self mark_refused c.self.invariant.pointed
    (record { there = there; before = _; read = found; changed = c.refuse.ensures }))
