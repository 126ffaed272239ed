use Rattle.std.proofs.Common.{◌∙◌, sym, ap}
use Rattle.history_book.specs.Books.{BookState, how_many, has_no_ack, has_no_point}
use Rattle.history_book.specs.Ids.{one}
use Rattle.std.specs.Prelude.{true, ◌+◌}
use Rattle.history_book.proofs.Passing.{acks_same, one_false, pointed_before, pointed_first, points_left}
use Rattle.history_book.proofs.book.Book.point_once.Goals as goal

pub returns-then-has_point-clause-change : goal.returns-then-has_point-clause-change
returns-then-has_point-clause-change c = pointed_before _ _ _ (sym c.has_point.ensures ∙ c.if-has_point.true)

pub returns-then-has_point-clause-points : goal.returns-then-has_point-clause-points
returns-then-has_point-clause-points c = one_false _

pub returns-clause-change : goal.returns-clause-change
returns-clause-change c = pointed_first _ _ _ _ (sym c.has_point.ensures ∙ c.if-has_point.false) (ap (λ (b : BookState). b.book) c.add_point.ensures)

pub returns-clause-points : goal.returns-clause-points
returns-clause-points c =
    ap (λ (b : BookState). how_many has_no_point b.book.records + one true) c.add_point.ensures
    ∙ points_left c.args.self.now.book c.args.id c.requires.there (sym c.has_point.ensures ∙ c.if-has_point.false)

pub returns-clause-acks : goal.returns-clause-acks
returns-clause-acks c =
    ap (λ (b : BookState). how_many has_no_ack b.book.records) c.add_point.ensures ∙ acks_same c.args.self.now.book c.args.id c.requires.there
