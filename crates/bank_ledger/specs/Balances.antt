-- The balances of a bank as whole numbers, and what its transactions make of them one after another.
use Rattle.std.specs.Prelude.{ℕ, ◌+◌, ◌-◌, Bool, false, nat_lt, List, [], ◌∷◌, if◌then◌else◌}
use Rattle.zeus_base.specs.Tables.{nth, put}
use Rattle.bank_ledger.specs.declared.bank_tx.BankTx.{BankTx}
use Rattle.bank_ledger.specs.declared.bank_tx.BankTx.TheVariants.{Balance, Deposit, Withdraw, Pay, Save}
use Rattle.bank_ledger.specs.Operations.{checking, savings}

-- the balance of an object
abbrev pub balance : List ℕ → ℕ → ℕ
balance bs x = nth 0 bs x

-- the amount is put to the balance
abbrev pub credited : List ℕ → ℕ → ℕ → List ℕ
credited bs x v = put 0 bs x (balance bs x + v)

-- the amount is taken from the balance, which has as much
abbrev pub debited : List ℕ → ℕ → ℕ → List ℕ
debited bs x v = put 0 bs x (balance bs x - v)

-- whether the transaction finds less than it takes
unfoldable pub lacks : List ℕ → BankTx → Bool
lacks bs (Balance a) = false
lacks bs (Deposit a v) = false
lacks bs (Withdraw a v) = nat_lt (balance bs (savings a)) v
lacks bs (Pay a b v) = nat_lt (balance bs (checking a)) v
lacks bs (Save a v) = nat_lt (balance bs (checking a)) v

-- the money goes where the transaction says
unfoldable pub moved : List ℕ → BankTx → List ℕ
moved bs (Balance a) = bs
moved bs (Deposit a v) = credited bs (checking a) v
moved bs (Withdraw a v) = debited bs (savings a) v
moved bs (Pay a b v) = credited (debited bs (checking a) v) (checking b) v
moved bs (Save a v) = credited (debited bs (checking a) v) (savings a) v

-- a transaction that finds less than it takes changes nothing
abbrev pub posted : List ℕ → BankTx → List ℕ
posted bs t = if lacks bs t then bs else moved bs t

-- the balances after transactions one after another
unfoldable pub balances : List ℕ → List BankTx → List ℕ
balances bs [] = bs
balances bs (t ∷ ts) = balances (posted bs t) ts
