use Rattle.std.proofs.Common.{drop}
use Rattle.bank_report.proofs.Tallies.{IsTallied}
use Rattle.bank_report.proofs.totals.Tally.of.Given as goal

abbrev pub invariant-loop-place : goal.invariant-loop-place
invariant-loop-place l = IsTallied l.txs l.tally (drop l.place l.book.book.points) l.book.book.points
