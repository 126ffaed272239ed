use Rattle.std.proofs.Common.{◌≡◌, ◌-◌, ◌++◌}
use Rattle.bank_report.specs.Report.{account_lines}
use Rattle.bank_report.proofs.text.write_accounts.Given as goal

abbrev pub invariant-loop-account : goal.invariant-loop-account
invariant-loop-account l = l.out.items ++ account_lines l.map l.account (l.accounts - l.account) ≡ l.initial.out.items ++ account_lines l.map 0 l.accounts
