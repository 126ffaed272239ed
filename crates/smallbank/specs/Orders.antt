-- The orders of a bank: its transactions, as the words of the generator choose them.
use Rattle.std.specs.Prelude.{ℕ, zero, suc, ◌+◌, ◌<◌, ◌==◌, List, [], ◌∷◌, None, if◌then◌else◌}
use Rattle.rand_pcg.specs.Lcg.{Lcg}
use Rattle.zeus_txn.specs.declared.tx.TxDecl.{TxDecl}
use Rattle.random_schedule.specs.Words.{pick}
use Rattle.bank_ledger.specs.declared.bank_tx.BankTx.{BankTx}
use Rattle.bank_ledger.specs.declared.bank_tx.BankTx.TheVariants.{Balance, Deposit, Withdraw, Pay, Save}
use Rattle.bank_ledger.specs.Operations.{FitsBank, operations}
use Rattle.smallbank.specs.declared.orders.Order.{Order}

-- the transaction of a kind
unfoldable pub tx_of_kind : ℕ → ℕ → ℕ → ℕ → BankTx
tx_of_kind kind a b v =
    if kind == 0 then Balance a
    else (if kind == 1 then Deposit a v else (if kind == 2 then Withdraw a v else (if kind == 3 then Pay a b v else Save a v)))

-- what is picked for a transaction, one word each: kind, two accounts and an amount from 1 to 100
unfoldable pub picked_tx : ℕ → Lcg → BankTx × Lcg
picked_tx accounts words =
    let kind = pick 5 words in
    let a = pick accounts kind.1 in
    let b = pick accounts a.1 in
    let v = pick 100 b.1 in
    (tx_of_kind kind.0 a.0 b.0 (v.0 + 1), v.1)

-- what is picked for an order: node and slot, one word each, and the transaction
unfoldable pub picked_order : ℕ → Lcg → Order × Lcg
picked_order accounts words =
    let node = pick 4 words in
    let slot = pick 2 node.1 in
    let tx = picked_tx accounts slot.1 in
    (record { node = node.0; slot = slot.0; tx = tx.0 }, tx.1)

-- so many orders, one after another
unfoldable pub picked_orders : ℕ → ℕ → Lcg → List Order × Lcg
picked_orders accounts zero words = ([], words)
picked_orders accounts (suc n) words =
    let first = picked_order accounts words in
    let rest = picked_orders accounts n first.1 in
    (first.0 ∷ rest.0, rest.1)

-- the bank's transaction of an order
abbrev pub tx_of : Order → BankTx
tx_of o = o.tx

-- the order as a declared transaction, which waits for none
unfoldable pub declared_tx : Order → TxDecl
declared_tx o = record { node = o.node; slot = o.slot; after = None; tx = operations o.tx }

-- the order is for one of four nodes with two slots, and for accounts that there are
pub record FitsOrder (accounts : ℕ) (o : Order) : Type 0 where
  pub node : o.node < 4
  pub slot : o.slot < 2
  pub tx : FitsBank accounts o.tx
