use Rattle.std.proofs.Common.{◌≡◌, ◌-◌, ◌++◌}
use Rattle.bank_ledger.specs.Bank.{objects_from}
use Rattle.smallbank.proofs.script.bank_objects.Given as goal

abbrev pub invariant-loop-account : goal.invariant-loop-account
invariant-loop-account l = l.objects.items ++ objects_from l.account (l.accounts - l.account) ≡ objects_from 0 l.accounts
