-- The orders of a bank make transactions that its configuration can run.
use Rattle.std.proofs.Common.{ℕ, suc, ◌≡◌, ◌*◌, ◌^◌, ◌<◌, ◌≤◌, List, [], ◌∷◌, Ok, length, map, refl, ap, arith}
use Rattle.std.specs.Prelude.{All}
use Rattle.std.proofs.lemmas.Bool.Decides.{nat_tests}
use Rattle.std.proofs.lemmas.List.{length-map}
use Rattle.std.proofs.lemmas.List.Elements.{All-nil, All-cons, All-head, All-tail, All-weaker, All-map}
use Rattle.zeus_txn.specs.Ops.{named, object_of}
use Rattle.zeus_txn.specs.Tx.{IsTx, made_tx}
use Rattle.zeus_txn.specs.declared.ops.Op.{Op}
use Rattle.zeus_txn.specs.declared.ops.Op.TheVariants.{Get, Add, Need}
use Rattle.zeus_model.specs.Scripts.{FitsOp, FitsTx, FitTxs, FitsTxs, FitsVersion}
use Rattle.bank_ledger.specs.declared.bank_tx.BankTx.{BankTx}
use Rattle.bank_ledger.specs.declared.bank_tx.BankTx.TheVariants.{Balance, Deposit, Withdraw, Pay, Save}
use Rattle.bank_ledger.specs.Bank.{IsBank, bank_config, ops_of}
use Rattle.bank_ledger.specs.Operations.{FitsAccount, FitsBank, checking, operations, savings, taking}
use Rattle.bank_ledger.proofs.Configuration.{length-objects_from}
use Rattle.bank_ledger.proofs.Making.{few-made}
use Rattle.smallbank.specs.Orders.{FitsOrder, declared_tx, tx_of}
use Rattle.smallbank.specs.declared.orders.Order.{Order}

-- ---- what fits few accounts fits more

account_wider : (a b x v : ℕ) → a ≤ b → FitsAccount a x v → FitsAccount b x v
account_wider a b x v le f = record { account = omega (arith, f.account); some = f.some; few = f.few }

bank_wider : (a b : ℕ) (t : BankTx) → a ≤ b → FitsBank a t → FitsBank b t
unfolding FitsBank
bank_wider a b (Balance x) le f = omega arith
bank_wider a b (Deposit x v) le f = account_wider a b x v le f
bank_wider a b (Withdraw x v) le f = account_wider a b x v le f
bank_wider a b (Pay x y v) le f = (account_wider a b x v le f.0, account_wider a b y v le f.1)
bank_wider a b (Save x v) le f = account_wider a b x v le f

-- if orders fit so many accounts, then they fit more accounts
pub orders_wider : (a b : ℕ) (os : List Order) → a ≤ b → All (FitsOrder a) os → All (FitsOrder b) os
orders_wider a b os le fits =
    All-weaker (FitsOrder a) (FitsOrder b) (λ o f. record { node = f.node; slot = f.slot; tx = bank_wider a b o.tx le f.tx }) os fits

-- ---- the operations of a transaction

get_fits : (accounts x : ℕ) → x < 2 * accounts → FitsOp (bank_config accounts) (Get x)
unfolding FitsVersion object_of
get_fits accounts x less = let count = length-objects_from 0 accounts in record { object = omega arith; version = tt }

add_fits : (accounts x v : ℕ) → x < 2 * accounts → v < 2 ^ 64 → FitsOp (bank_config accounts) (Add x v)
unfolding FitsVersion object_of
add_fits accounts x v less low = let count = length-objects_from 0 accounts in record { object = omega arith; version = low }

need_fits : (accounts x v : ℕ) → x < 2 * accounts → v < 2 ^ 64 → FitsOp (bank_config accounts) (Need x v)
unfolding FitsVersion object_of
need_fits accounts x v less low = let count = length-objects_from 0 accounts in record { object = omega arith; version = low }

all_one : {A : Type 0} (P : A → Type 0) (a : A) → P a → All P (a ∷ [])
all_one P a p = All-cons P a [] p (All-nil P)

all_two : {A : Type 0} (P : A → Type 0) (a b : A) → P a → P b → All P (a ∷ b ∷ [])
all_two P a b p q = All-cons P a (b ∷ []) p (all_one P b q)

all_three : {A : Type 0} (P : A → Type 0) (a b c : A) → P a → P b → P c → All P (a ∷ b ∷ c ∷ [])
all_three P a b c p q r = All-cons P a (b ∷ c ∷ []) p (all_two P b c q r)

move_fits : (accounts x y v : ℕ) → x < 2 * accounts → y < 2 * accounts → 1 ≤ v → v ≤ 100
    → All (FitsOp (bank_config accounts)) (Need x v ∷ Add x (taking v) ∷ Add y v ∷ [])
move_fits accounts x y v here there some few =
    all_three (FitsOp (bank_config accounts)) (Need x v) (Add x (taking v)) (Add y v) (need_fits accounts x v here (omega arith))
    (add_fits accounts x (taking v) here (omega arith)) (add_fits accounts y v there (omega arith))

ops_fit : (accounts : ℕ) (t : BankTx) → FitsBank accounts t → All (FitsOp (bank_config accounts)) (operations t)
unfolding operations FitsBank
ops_fit accounts (Balance a) f =
    all_two (FitsOp (bank_config accounts)) (Get (checking a)) (Get (savings a)) (get_fits accounts (checking a) (omega arith)) (get_fits accounts (savings a) (omega arith))
ops_fit accounts (Deposit a v) f =
    let account = f.account in
    let few = f.few in
    all_one (FitsOp (bank_config accounts)) (Add (checking a) v) (add_fits accounts (checking a) v (omega arith) (omega arith))
ops_fit accounts (Withdraw a v) f =
    let account = f.account in
    let some = f.some in
    let few = f.few in
    all_two (FitsOp (bank_config accounts)) (Need (savings a) v) (Add (savings a) (taking v)) (need_fits accounts (savings a) v (omega arith) (omega arith))
    (add_fits accounts (savings a) (taking v) (omega arith) (omega arith))
ops_fit accounts (Pay a b v) f =
    let here = f.0.account in
    let there = f.1.account in
    move_fits accounts (checking a) (checking b) v (omega arith) (omega arith) f.0.some f.0.few
ops_fit accounts (Save a v) f =
    let here = f.account in
    move_fits accounts (checking a) (savings a) v (omega arith) (omega arith) f.some f.few

made_few : (ops : List Op) → made_tx ops ≡ Ok ops → length (named ops) ≤ 8
unfolding made_tx
made_few ops is = grind (arith, nat_tests, is)

few_make : (ops : List Op) → 1 ≤ length ops → length ops ≤ 3 → IsTx ops
few_make ops some few = record { some = some; few = omega arith; objects = made_few ops (few-made ops some (omega arith)) }

is_tx : (t : BankTx) → IsTx (operations t)
unfolding operations
is_tx (Balance a) = few_make (operations (Balance a)) (omega arith) (omega arith)
is_tx (Deposit a v) = few_make (operations (Deposit a v)) (omega arith) (omega arith)
is_tx (Withdraw a v) = few_make (operations (Withdraw a v)) (omega arith) (omega arith)
is_tx (Pay a b v) = few_make (operations (Pay a b v)) (omega arith) (omega arith)
is_tx (Save a v) = few_make (operations (Save a v)) (omega arith) (omega arith)

-- ---- the declared transactions

tx_fits : (accounts k : ℕ) (o : Order) → FitsOrder accounts o → FitsTx (bank_config accounts) k (declared_tx o)
unfolding declared_tx
tx_fits accounts k o f = record { node = f.node; slot = f.slot; after = tt; tx = is_tx o.tx; ops = ops_fit accounts o.tx f.tx }

each_fits : (accounts k : ℕ) (os : List Order) → All (FitsOrder accounts) os → FitTxs (bank_config accounts) k (map declared_tx os)
unfolding FitTxs
each_fits accounts k [] fits = tt
each_fits accounts k (o ∷ os) fits =
    (tx_fits accounts k o (All-head (FitsOrder accounts) o os fits), each_fits accounts (suc k) os (All-tail (FitsOrder accounts) o os fits))

-- if at most 10,000 orders fit the accounts, then their transactions fit the bank's configuration
pub txs_fit : (accounts : ℕ) (os : List Order) → length os ≤ 10000 → All (FitsOrder accounts) os → FitsTxs (bank_config accounts) (map declared_tx os)
txs_fit accounts os few fits =
    let count = length-map os declared_tx in
    record { few = omega arith; each = each_fits accounts 0 os fits }

-- ---- they are those of the bank

same_operations : (os : List Order) → map ops_of (map declared_tx os) ≡ map operations (map tx_of os)
unfolding declared_tx
same_operations [] = refl
same_operations (o ∷ os) = ap (λ (all : List (List Op)). operations o.tx ∷ all) (same_operations os)

-- if orders fit 1 to 128 accounts, then their declared transactions are those of the bank
pub is_bank : (accounts : ℕ) (os : List Order) → 1 ≤ accounts → accounts ≤ 128 → All (FitsOrder accounts) os → IsBank accounts (map tx_of os) (map declared_tx os)
is_bank accounts os some few fits =
    record {
      some = some;
      few = few;
      each = All-map (FitsBank accounts) tx_of os (All-weaker (FitsOrder accounts) (λ o. FitsBank accounts o.tx) (λ o f. f.tx) os fits);
      operations = same_operations os;
    }
