use Rattle.commit_rules.proofs.Answering.{on_recovered-heard, on_recovered-known}
use Rattle.commit_rules.proofs.follow.on_recovered.Goals as goal

pub returns-then-report : goal.returns-then-report
returns-then-report c = on_recovered-heard c.args.node.now _ c.args.from c.if-report.ensures.answer c.report.ensures.after

pub returns-else-report : goal.returns-else-report
returns-else-report c = on_recovered-known c.args.node.now _ c.args.from c.if-report.ensures.answer c.report.ensures.after
