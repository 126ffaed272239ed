-- The numbers that a run of a bank comes to.
use Rattle.std.specs.Prelude.{ℕ, ◌+◌, ◌*◌, ◌^◌, ◌<◌, List, [], ◌∷◌, length, Option, Some, None}
use Rattle.zeus_model.specs.Book.{Point}
use Rattle.bank_ledger.specs.declared.bank_tx.BankTx.{BankTx}
use Rattle.bank_ledger.specs.Bank.{opening}
use Rattle.bank_ledger.specs.Money.{brings, paid_in, paid_out, takes_out, unless_failed}
use Rattle.bank_report.specs.declared.totals.Tally.{Tally}

-- 1 for a reply that failed
unfoldable pub failures : Option ℕ → ℕ
failures None = 0
failures (Some place) = 1

-- how many replies of the history failed
unfoldable pub failed : List Point → ℕ
failed [] = 0
failed (p ∷ ps) = failures p.reply.failed + failed ps

-- what a transaction counts behind a tally, with the place at which it failed, if it did
unfoldable pub noted : BankTx → Tally → Option ℕ → Tally
noted tx t place =
    record {
      history = t.history + 1;
      failed = t.failed + failures place;
      paid_in = t.paid_in + unless_failed place (brings tx);
      paid_out = t.paid_out + unless_failed place (takes_out tx);
    }

-- the tally can count the transaction too
pub record CanNote (tx : BankTx) (t : Tally) (place : Option ℕ) : Type 0 where
  pub history : t.history + 1 < 2 ^ 32
  pub failed : t.failed + 1 < 2 ^ 32
  pub paid_in : t.paid_in + unless_failed place (brings tx) < 2 ^ 64
  pub paid_out : t.paid_out + unless_failed place (takes_out tx) < 2 ^ 64

-- what a history comes to
abbrev pub tally_of : List BankTx → List Point → Tally
tally_of txs ps = record { history = length ps; failed = failed ps; paid_in = paid_in txs ps; paid_out = paid_out txs ps }

-- all the money of the declared values
abbrev pub start_of : ℕ → ℕ
start_of accounts = 2 * accounts * opening
