-- What the transactions of a bank do to the objects of its accounts.
use Rattle.std.specs.Prelude.{ℕ, ◌+◌, ◌-◌, ◌*◌, ◌^◌, ◌<◌, ◌≤◌, List, [], ◌∷◌}
use Rattle.zeus_txn.specs.declared.ops.Op.{Op}
use Rattle.zeus_txn.specs.declared.ops.Op.TheVariants.{Get, Add, Need}
use Rattle.bank_ledger.specs.declared.bank_tx.BankTx.{BankTx}
use Rattle.bank_ledger.specs.declared.bank_tx.BankTx.TheVariants.{Balance, Deposit, Withdraw, Pay, Save}

-- each account has two objects, one behind the other: its checking and its savings
abbrev pub checking : ℕ → ℕ
checking a = 2 * a

-- the object of the savings of an account
abbrev pub savings : ℕ → ℕ
savings a = 2 * a + 1

-- an amount is taken by adding what it lacks to 2^64, since additions are modulo 2^64
abbrev pub taking : ℕ → ℕ
taking v = 2 ^ 64 - v

-- a transaction that takes an amount needs it first
unfoldable pub operations : BankTx → List Op
operations (Balance a) = Get (checking a) ∷ Get (savings a) ∷ []
operations (Deposit a v) = Add (checking a) v ∷ []
operations (Withdraw a v) = Need (savings a) v ∷ Add (savings a) (taking v) ∷ []
operations (Pay a b v) = Need (checking a) v ∷ Add (checking a) (taking v) ∷ Add (checking b) v ∷ []
operations (Save a v) = Need (checking a) v ∷ Add (checking a) (taking v) ∷ Add (savings a) v ∷ []

-- the account is one of so many, and the amount is from 1 to 100
pub record FitsAccount (accounts a v : ℕ) : Type 0 where
  pub account : a < accounts
  pub some : 1 ≤ v
  pub few : v ≤ 100

-- a transaction names accounts that there are, and amounts from 1 to 100
unfoldable pub FitsBank : ℕ → BankTx → Type 0
FitsBank accounts (Balance a) = a < accounts
FitsBank accounts (Deposit a v) = FitsAccount accounts a v
FitsBank accounts (Withdraw a v) = FitsAccount accounts a v
FitsBank accounts (Pay a b v) = FitsAccount accounts a v × FitsAccount accounts b v
FitsBank accounts (Save a v) = FitsAccount accounts a v
