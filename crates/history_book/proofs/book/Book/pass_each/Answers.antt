use Rattle.std.proofs.Common.{◌∙◌, arith, ap, sym}
use Rattle.std.proofs.lemmas.List.{drop_all}
use Rattle.zeus_base.specs.declared.step.Passed.{Passed}
use Rattle.std.specs.Prelude.{List}
use Rattle.history_book.specs.Books.{BookState, so_far, with_book}
use Rattle.history_book.proofs.Passing.{rest_at, streams_left, streams_none, streams_step}
use Rattle.history_book.proofs.book.Book.pass_each.Goals as goal

pub loop-passed-preserved : goal.loop-passed-preserved
loop-passed-preserved c =
    let here = so_far c.loop-passed.self c.loop-passed.points c.loop-passed.acked in
    record {
      shape = c.pass.ensures.shape ∙ ap (λ (b : BookState). with_book b c.pass.new.self.book) c.loop-passed.invariant.shape;
      change =
          streams_step here _ c.args.me c.passed-item.result _ c.eq-own.result c.eq-own.ensures c.pass.ensures.change
          ∙ ap (streams_left here c.args.me) (sym (rest_at c.args.passes.now c.loop-passed.passed-index c.passed-item.result c.loop-passed-test.true c.passed-item.is))
          ∙ c.loop-passed.invariant.change;
      lists = c.pass.ensures.lists;
    }

pub returns-clause-change : goal.returns-clause-change
returns-clause-change c =
    let here = so_far c.loop-passed.self c.loop-passed.points c.loop-passed.acked in
    streams_none here c.args.me
    ∙ ap (streams_left here c.args.me) (sym (drop_all c.loop-passed.passed-index c.args.passes.now (omega arith)))
    ∙ c.loop-passed.invariant.change
