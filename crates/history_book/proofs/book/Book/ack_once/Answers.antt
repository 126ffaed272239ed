use Rattle.std.proofs.Common.{◌∙◌, sym, ap}
use Rattle.std.specs.Prelude.{true, ◌+◌, Bool}
use Rattle.history_book.specs.Books.{BookState, how_many, has_no_ack, has_no_point}
use Rattle.history_book.specs.Ids.{one}
use Rattle.history_book.proofs.Passing.{acked_before, acked_first, acks_left, not_acked, one_false, points_same}
use Rattle.history_book.proofs.book.Book.ack_once.Goals as goal

pub returns-then-is_acked-clause-change : goal.returns-then-is_acked-clause-change
returns-then-is_acked-clause-change c = acked_before _ _ c.args.own _ (sym c.is_acked.ensures ∙ c.if-is_acked.true)

pub returns-then-is_acked-clause-acks : goal.returns-then-is_acked-clause-acks
returns-then-is_acked-clause-acks c = one_false _

pub returns-then-own-clause-change : goal.returns-then-own-clause-change
returns-then-own-clause-change c =
    acked_first c.args.self.now.book _ c.args.id c.args.own _ (sym c.is_acked.ensures ∙ c.if-is_acked.false) c.if-own.true (ap (λ (b : BookState). b.book) c.ack.ensures)

pub returns-then-own-clause-points : goal.returns-then-own-clause-points
returns-then-own-clause-points c =
    ap (λ (b : BookState). how_many has_no_point b.book.records) c.ack.ensures ∙ points_same c.args.self.now.book c.args.id c.requires

pub returns-then-own-clause-acks : goal.returns-then-own-clause-acks
returns-then-own-clause-acks c =
    ap (λ (b : BookState). how_many has_no_ack b.book.records + one c.args.own) c.ack.ensures
    ∙ ap (λ (o : Bool). how_many has_no_ack (Rattle.zeus_model.specs.Book.book_ack c.args.self.now.book c.args.id).records + one o) c.if-own.true
    ∙ acks_left c.args.self.now.book c.args.id c.requires (sym c.is_acked.ensures ∙ c.if-is_acked.false)

pub returns-else-own-clause-change : goal.returns-else-own-clause-change
returns-else-own-clause-change c = not_acked _ _ c.args.own _ (sym c.is_acked.ensures ∙ c.if-is_acked.false) c.if-own.false

pub returns-else-own-clause-acks : goal.returns-else-own-clause-acks
returns-else-own-clause-acks c = rw c.if-own.false (one_false _)
