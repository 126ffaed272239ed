-- The run of a bank, and the text that tells of it.
use Rattle.std.specs.Prelude.{ℕ, ◌+◌, ◌≡◌, List, [], ◌∷◌, length, map, take, if◌then◌else◌}
use Rattle.zeus_txn.specs.declared.tx.TxDecl.{TxDecl}
use Rattle.zeus_model.specs.Readers.{is_closed}
use Rattle.zeus_model.specs.Tables.{below}
use Rattle.zeus_model.specs.World.{World, run, start}
use Rattle.soundness.specs.Promise.{KeepsPromise}
use Rattle.random_schedule.specs.Schedule.{Schedule, schedule}
use Rattle.random_schedule.specs.Words.{words_from}
use Rattle.bank_ledger.specs.declared.bank_tx.BankTx.{BankTx}
use Rattle.bank_ledger.specs.Bank.{KeepsMoney, bank_config, map_left}
use Rattle.bank_report.specs.declared.numbers.BankNumbers.{BankNumbers}
use Rattle.bank_report.specs.Report.{report_text}
use Rattle.bank_report.specs.Totals.{tally_of}
use Rattle.smallbank.specs.declared.orders.Order.{Order}
use Rattle.smallbank.specs.Orders.{declared_tx, picked_orders, tx_of}

-- the orders of the bank
abbrev pub bank_orders : BankNumbers → List Order
bank_orders n = (picked_orders n.accounts n.txs (words_from n.start)).0

-- what they do
abbrev pub bank_txs : BankNumbers → List BankTx
bank_txs n = map tx_of (bank_orders n)

-- the transactions that are declared
abbrev pub bank_declared : BankNumbers → List TxDecl
bank_declared n = map declared_tx (bank_orders n)

-- their schedule, by the words behind those of the orders
abbrev pub bank_schedule : BankNumbers → Schedule
bank_schedule n =
    let words = (picked_orders n.accounts n.txs (words_from n.start)).1 in
    schedule (bank_config n.accounts) (bank_declared n) n.steps record { loss = n.loss; stops = n.stops } words

-- the world that the run leads to
abbrev pub bank_world : BankNumbers → World
bank_world n = (bank_schedule n).world

-- 1 for a transaction that is not closed
unfoldable pub unclosed_one : World → ℕ → ℕ
unclosed_one w k = if is_closed w k then 0 else 1

-- how many of the transactions are not closed
unfoldable pub unclosed_of : World → List ℕ → ℕ
unclosed_of w [] = 0
unclosed_of w (k ∷ ks) = unclosed_one w k + unclosed_of w ks

-- how many of all transactions are not closed
abbrev pub unclosed : World → ℕ
unclosed w = unclosed_of w (below (length w.txs))

-- the text that tells of so many steps of these transactions, which have led to this world
unfoldable pub told : BankNumbers → ℕ → List BankTx → World → List ℕ
told n steps txs w = report_text n steps (unclosed w) (tally_of txs w.book.points) (map_left w)

-- the text that tells of the run
abbrev pub bank_text : BankNumbers → List ℕ
bank_text n = told n (length (bank_schedule n).steps) (bank_txs n) (bank_world n)

-- what holds of the run
pub record IsGood (n : BankNumbers) : Type 0 where
  -- the world is that of the steps
  pub leads : bank_world n ≡ run (start (bank_config n.accounts) (bank_declared n)) (bank_schedule n).steps
  -- no money is lost or made
  pub money : KeepsMoney n.accounts (bank_txs n) (bank_world n)
  -- and the run keeps the whole promise after each prefix of its steps
  pub promise : (k : ℕ) → KeepsPromise (start (bank_config n.accounts) (bank_declared n)) (take k (bank_schedule n).steps)
