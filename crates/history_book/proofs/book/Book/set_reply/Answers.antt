use Rattle.history_book.proofs.Keeping.{kept_replied, seen_unpointed, with_reply}
use Rattle.history_book.proofs.book.Book.set_reply.Goals as goal

pub invariant_of-self : goal.invariant_of-self
invariant_of-self c =
    let there = rw (← c.self.view_is) at c.requires.there in
    let none = rw (← c.self.view_is) at c.requires.first in
    let found = rw c.place.ensures at c.index_mut-record.ensures.value in
    rw c.place.ensures
    (kept_replied c.args.reply c.self.inside c.args.id c.set_reply.new.self c.self.invariant none
    (record { there = there; before = _; read = found; changed = c.set_reply.ensures }))

pub returns : goal.returns
returns c =
    let there = rw (← c.self.view_is) at c.requires.there in
    let none = rw (← c.self.view_is) at c.requires.first in
    let found = rw c.place.ensures at c.index_mut-record.ensures.value in
    rw (← c.self.view_is, c.place.ensures)
    (seen_unpointed (with_reply c.args.reply) c.self.inside c.args.id c.set_reply.new.self c.self.invariant.pointed none
    (record { there = there; before = _; read = found; changed = c.set_reply.ensures }))
