use Rattle.bank_ledger.proofs.Runs.{keeps_money}
use Rattle.bank_ledger.proofs.no_run_loses_money.Goals as goal

pub returns : goal.returns
returns c = keeps_money
