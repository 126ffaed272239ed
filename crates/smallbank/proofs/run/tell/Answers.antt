use Rattle.std.proofs.Common.{List, ap, ◌∙◌}
use Rattle.zeus_txn.specs.declared.map.Versioned.{Versioned}
use Rattle.zeus_model.specs.Book.{Book}
use Rattle.bank_report.specs.Report.{report_text}
use Rattle.bank_report.specs.Totals.{tally_of}
use Rattle.bank_report.specs.declared.totals.Tally.{Tally}
use Rattle.smallbank.specs.Run.{told, unclosed}
use Rattle.smallbank.proofs.run.tell.Goals as goal

pub returns-clause-text : goal.returns-clause-text
unfolding told
returns-clause-text c =
    let n = c.args.numbers.now in
    let w = c.args.world.now in
    let tally = c.of-tally.ensures ∙ ap (λ (b : Book). tally_of c.args.txs.now b.points) c.book.ensures in
    c.in_ok-text.ensures
    ∙ (ap (λ k. report_text n c.args.steps k c.of-tally.result c.in_ok-map.map) c.count_unclosed-unclosed.ensures
    ∙ (ap (λ (t : Tally). report_text n c.args.steps (unclosed w) t c.in_ok-map.map) tally
    ∙ ap (λ (m : List Versioned). report_text n c.args.steps (unclosed w) (tally_of c.args.txs.now w.book.points) m) c.in_ok-map.ensures))
