use Rattle.owner_entry.proofs.Entries.{entry_of, on_proposal_written}
use Rattle.owner_entry.proofs.dir.Dir.accept.Goals as goal

pub returns-clause-answer : goal.returns-clause-answer
returns-clause-answer c = λ n from same.
    let there = rw c.place.ensures at c.index_mut-entry.ensures.value in
    let here = rw (← c.self.view_is) at c.requires in
    c.accept.ensures.answer n from c.args.obj (entry_of n _ c.args.obj _ (rw (← c.self.view_is) at same) here there)

pub returns-clause-after : goal.returns-clause-after
returns-clause-after c = λ n from same.
    let there = rw c.place.ensures at c.index_mut-entry.ensures.value in
    let here = rw (← c.self.view_is) at c.requires in
    let same = rw (← c.self.view_is) at same in
    rw c.place.ensures
    (on_proposal_written n _ from c.args.obj c.args.p.now _ same here (c.accept.ensures.after n from c.args.obj (entry_of n _ c.args.obj _ same here there)))
