-- The numbers of a bank's run, and the words that ask for it.
use Rattle.std.specs.Prelude.{ℕ, ◌≡◌, ◌<◌, ◌≤◌, ◌^◌, List, [], ◌∷◌, codes, decimal}
use Rattle.bank_report.specs.declared.numbers.BankNumbers.{BankNumbers}

-- the ranges of the numbers
pub record FitsNumbers (n : BankNumbers) : Type 0 where
  pub some_accounts : 1 ≤ n.accounts
  pub few_accounts : n.accounts ≤ 128
  pub txs : n.txs ≤ 10000
  pub steps : n.steps ≤ 50000
  pub loss : n.loss ≤ 100
  pub stops : n.stops ≤ 7
  pub start : n.start < 2 ^ 64

-- the words that ask for the run
abbrev pub bank_words : BankNumbers → List (List ℕ)
bank_words n =
    codes "bank" ∷ decimal n.accounts ∷ decimal n.txs ∷ decimal n.steps ∷ decimal n.loss ∷ decimal n.stops ∷ decimal n.start ∷ []

-- the words ask for the run of a bank with these numbers
pub record AsksBank (words : List (List ℕ)) (n : BankNumbers) : Type 0 where
  pub spelled : words ≡ bank_words n
  pub fits : FitsNumbers n
