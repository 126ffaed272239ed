-- How much money a history brings into a bank and takes out of it, and how much the bank holds.
use Rattle.std.specs.Prelude.{ℕ, ◌+◌, List, [], ◌∷◌, Option, Some, None}
use Rattle.zeus_base.specs.Tables.{nth}
use Rattle.zeus_base.specs.declared.value.Value.{Value}
use Rattle.zeus_base.specs.declared.value.Value.TheVariants.{Num, Text}
use Rattle.zeus_txn.specs.declared.map.Versioned.{Versioned}
use Rattle.zeus_model.specs.Book.{Point}
use Rattle.bank_ledger.specs.declared.bank_tx.BankTx.{BankTx}
use Rattle.bank_ledger.specs.declared.bank_tx.BankTx.TheVariants.{Balance, Deposit, Withdraw}

-- the transaction of this number
abbrev pub bank_tx : List BankTx → ℕ → BankTx
bank_tx txs id = nth (Balance 0) txs id

-- the transactions of the history, in order
unfoldable pub history_of : List BankTx → List Point → List BankTx
history_of txs [] = []
history_of txs (p ∷ ps) = bank_tx txs p.id ∷ history_of txs ps

-- what a transaction brings into the bank
unfoldable pub brings : BankTx → ℕ
brings (Deposit a v) = v
brings _ = 0

-- what a transaction takes out of the bank
unfoldable pub takes_out : BankTx → ℕ
takes_out (Withdraw a v) = v
takes_out _ = 0

-- a transaction that failed moves nothing
unfoldable pub unless_failed : Option ℕ → ℕ → ℕ
unless_failed None v = v
unless_failed (Some place) v = 0

-- what the transactions of a history that did not fail bring into the bank
unfoldable pub paid_in : List BankTx → List Point → ℕ
paid_in txs [] = 0
paid_in txs (p ∷ ps) = unless_failed p.reply.failed (brings (bank_tx txs p.id)) + paid_in txs ps

-- what the transactions of a history that did not fail take out of the bank
unfoldable pub paid_out : List BankTx → List Point → ℕ
paid_out txs [] = 0
paid_out txs (p ∷ ps) = unless_failed p.reply.failed (takes_out (bank_tx txs p.id)) + paid_out txs ps

-- a value as money
unfoldable pub amount : Value → ℕ
amount (Num n) = n
amount (Text t) = 0

-- all the money in a map
unfoldable pub held : List Versioned → ℕ
held [] = 0
held (v ∷ vs) = amount v.value + held vs
