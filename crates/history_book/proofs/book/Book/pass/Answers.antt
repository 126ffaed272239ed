use Rattle.std.proofs.Common.{◌∙◌, arith, ap}
use Rattle.history_book.specs.Books.{BookState, so_far, with_book}
use Rattle.history_book.proofs.Passing.{left_none, left_step}
use Rattle.history_book.proofs.book.Book.pass.Goals as goal

pub loop-number-preserved : goal.loop-number-preserved
loop-number-preserved c = record {
  shape = c.pass_entry.ensures.shape ∙ ap (λ (b : BookState). with_book b c.pass_entry.new.self.book) c.loop-number.invariant.shape;
  change =
      left_step (so_far c.loop-number.self c.loop-number.points c.loop-number.acked) _ c.args.own c.args.passed.now.stream c.loop-number.number c.args.passed.now.after c.loop-number-test.true c.pass_entry.ensures.change
      ∙ c.loop-number.invariant.change;
  lists = c.pass_entry.ensures.lists;
}

pub returns-clause-change : goal.returns-clause-change
returns-clause-change c =
    left_none (so_far c.loop-number.self c.loop-number.points c.loop-number.acked) c.args.own c.args.passed.now.stream c.loop-number.number c.args.passed.now.after (omega arith)
    ∙ c.loop-number.invariant.change
