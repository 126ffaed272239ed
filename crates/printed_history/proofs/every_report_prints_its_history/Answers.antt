use Rattle.printed_history.proofs.Reports.{report-prints}
use Rattle.printed_history.proofs.every_report_prints_its_history.Goals as goal

pub returns : goal.returns
returns c = report-prints
