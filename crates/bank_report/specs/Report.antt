-- The text that tells of a bank's run.
use Rattle.std.specs.Prelude.{ℕ, zero, suc, List, [], ◌++◌, codes}
use Rattle.zeus_txn.specs.Map.{content}
use Rattle.zeus_txn.specs.declared.map.Versioned.{Versioned}
use Rattle.zeus_model.specs.ReportText.{line_end}
use Rattle.zeus_model.specs.ReportWords.{number}
use Rattle.bank_ledger.specs.Money.{amount, held}
use Rattle.bank_ledger.specs.Operations.{checking, savings}
use Rattle.bank_report.specs.Totals.{start_of}
use Rattle.bank_report.specs.declared.numbers.BankNumbers.{BankNumbers}
use Rattle.bank_report.specs.declared.totals.Tally.{Tally}

-- a label and a number
abbrev pub count_line : List ℕ → ℕ → List ℕ
count_line label n = label ++ number n ++ line_end

-- `bank` and the six numbers
abbrev pub first_line : BankNumbers → List ℕ
first_line n =
    codes "bank" ++ number n.accounts ++ number n.txs ++ number n.steps ++ number n.loss ++ number n.stops ++ number n.start ++ line_end

-- how many transactions are in the history, how many of these failed, and how many are not closed
abbrev pub history_line : Tally → ℕ → List ℕ
history_line t unclosed = codes "history" ++ number t.history ++ codes " failed" ++ number t.failed ++ codes " open" ++ number unclosed ++ line_end

-- the number that an object has
abbrev pub has_amount : List Versioned → ℕ → ℕ
has_amount m x = amount (content m x).value

-- an account, with what it has in checking and in savings
abbrev pub account_line : List Versioned → ℕ → List ℕ
account_line m a = codes "account" ++ number a ++ number (has_amount m (checking a)) ++ number (has_amount m (savings a)) ++ line_end

-- so many accounts, from account a on
unfoldable pub account_lines : List Versioned → ℕ → ℕ → List ℕ
account_lines m a zero = []
account_lines m a (suc n) = account_line m a ++ account_lines m (suc a) n

-- the money: that of the start, what came and what went, and what is held at last
abbrev pub money_lines : ℕ → Tally → List Versioned → List ℕ
money_lines accounts t m =
    count_line (codes "start") (start_of accounts) ++ count_line (codes "in") t.paid_in ++ count_line (codes "out") t.paid_out
    ++ count_line (codes "held") (held m)

-- the whole text: the numbers, the steps that were taken, the history, the money, and each account
abbrev pub report_text : BankNumbers → ℕ → ℕ → Tally → List Versioned → List ℕ
report_text n steps unclosed t m =
    first_line n ++ count_line (codes "steps") steps ++ history_line t unclosed ++ money_lines n.accounts t m
    ++ account_lines m 0 n.accounts ++ codes "end" ++ line_end
