use Rattle.std.proofs.Common.{◌≡◌, ◌+◌, drop}
use Rattle.bank_ledger.specs.Money.{held}
use Rattle.bank_report.proofs.totals.held.Given as goal

abbrev pub invariant-loop-object : goal.invariant-loop-object
invariant-loop-object l = l.sum + held (drop l.object l.map) ≡ held l.map
