use Rattle.std.proofs.Common.{◌∙◌, sym}
use Rattle.history_book.proofs.History.{length-points}
use Rattle.history_book.proofs.book.Book.len.Goals as goal

pub returns : goal.returns
returns c = rw (← c.self.view_is) (c.len.ensures ∙ sym (length-points c.self.inside.records.items c.self.inside.points.ids))
