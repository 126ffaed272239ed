use Rattle.std.proofs.Common.{Some, true}
use Rattle.zeus_model.specs.Book.{TxRecord}
use Rattle.history_book.proofs.Keeping.{kept_marked, mark_begun, seen_marked}
use Rattle.history_book.proofs.book.Book.begin.Goals as goal

pub invariant_of-self : goal.invariant_of-self
invariant_of-self c =
    let there = rw (← c.self.view_is) at c.requires in
    let found = rw c.place.ensures at c.index_mut-record.ensures.value in
    rw c.place.ensures
    (kept_marked (λ (r : TxRecord). record r { begun = Some c.self.inside.steps }) c.self.inside c.args.id c.begin.new.self (mark_begun c.self.inside.steps) c.self.invariant
    (record { there = there; before = _; read = found; changed = c.begin.ensures }))

pub returns : goal.returns
returns c =
    let there = rw (← c.self.view_is) at c.requires in
    let found = rw c.place.ensures at c.index_mut-record.ensures.value in
    rw (← c.self.view_is, c.place.ensures)
    (seen_marked (λ (r : TxRecord). record r { begun = Some c.self.inside.steps }) c.self.inside c.args.id c.begin.new.self (mark_begun c.self.inside.steps) c.self.invariant.pointed
    (record { there = there; before = _; read = found; changed = c.begin.ensures }))
