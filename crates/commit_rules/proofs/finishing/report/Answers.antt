use Rattle.std.proofs.Common.{◌∙◌, sym}
use Rattle.commit_rules.proofs.Passing.{report-again, report-first, report-unrecovered}
use Rattle.commit_rules.proofs.finishing.report.Goals as goal

pub returns-then-not-is_recovered : goal.returns-then-not-is_recovered
returns-then-not-is_recovered c = report-unrecovered c.args.node.now c.args.out.now (sym c.if-not-is_recovered.true ∙ c.is_recovered.ensures) c.requires

pub returns-then-report : goal.returns-then-report
returns-then-report c =
    let recovered = sym c.if-not-is_recovered.false ∙ c.is_recovered.ensures in
    let news = rw c.me-me.ensures.number at (sym c.if-report.true ∙ c.report.ensures.answer) in
    report-first c.args.node.now _ _ _ recovered news (rw c.me-me.ensures.number at c.report.ensures.after)
    (rw (c.without.ensures, c.me-me.ensures.number, c.members.ensures) at c.send_each.ensures)

pub returns-else-report : goal.returns-else-report
returns-else-report c =
    let known = rw c.me-me.ensures.number at (sym c.if-report.false ∙ c.report.ensures.answer) in
    report-again c.args.node.now _ _ known (rw c.me-me.ensures.number at c.report.ensures.after) c.requires
