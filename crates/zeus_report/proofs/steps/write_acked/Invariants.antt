-- What is written and the text of the transactions that are left stay the text of all.
use Rattle.std.proofs.Common.{◌≡◌, ◌++◌, drop}
use Rattle.zeus_model.specs.ReportText.{acked_lines}
use Rattle.zeus_report.proofs.steps.write_acked.Given as goal

abbrev pub invariant-loop-id : goal.invariant-loop-id
invariant-loop-id l = l.out.items ++ acked_lines (drop l.id-index l.ids) ≡ l.fn.out.items ++ acked_lines l.ids
