use Rattle.std.proofs.Common.{◌∙◌, sym}
use Rattle.history_book.proofs.Passing.{replied_there}
use Rattle.history_book.proofs.book.Book.at.Goals as goal

pub returns-clause-tx : goal.returns-clause-tx
returns-clause-tx c = rw (← c.self.view_is) (c.get.ensures ∙ sym (c.self.invariant.found c.args.stream c.args.number))

pub returns-clause-replied : goal.returns-clause-replied
returns-clause-replied c =
    rw (← c.self.view_is)
    (replied_there c.self.inside.steps c.self.inside.points.ids c.self.inside.records.items c.args.stream c.args.number c.get.result c.self.invariant.replies
    (c.get.ensures ∙ sym (c.self.invariant.found c.args.stream c.args.number)))
