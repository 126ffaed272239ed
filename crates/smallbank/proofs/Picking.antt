-- Orders that are picked one after another.
use Rattle.std.proofs.Common.{ℕ, zero, suc, ◌≡◌, ◌+◌, ◌-◌, ◌<◌, ◌≤◌, Bool, List, [], ◌∷◌, ◌++◌, length, refl, sym, subst, ◌∙◌, arith, append_assoc}
use Rattle.std.specs.Prelude.{All, ◌==◌, if◌then◌else◌}
use Rattle.std.proofs.lemmas.Bool.{cond_both}
use Rattle.std.proofs.Math.Nat.{mod-lt}
use Rattle.std.proofs.lemmas.List.Elements.{All-cons, All-nil}
use Rattle.std.proofs.lemmas.List.{append-nil}
use Rattle.rand_pcg.specs.Lcg.{Lcg}
use Rattle.random_schedule.specs.Words.{next_word, pick}
use Rattle.bank_ledger.specs.declared.bank_tx.BankTx.{BankTx}
use Rattle.bank_ledger.specs.declared.bank_tx.BankTx.TheVariants.{Balance, Deposit, Withdraw, Pay, Save}
use Rattle.bank_ledger.specs.Operations.{FitsAccount, FitsBank}
use Rattle.smallbank.specs.Orders.{FitsOrder, picked_order, picked_orders, picked_tx, tx_of_kind}
use Rattle.smallbank.specs.declared.orders.Order.{Order}

-- ---- the transaction of a kind

fits_either : (accounts : ℕ) (b : Bool) (t u : BankTx) → FitsBank accounts t → FitsBank accounts u → FitsBank accounts (if b then t else u)
fits_either accounts b t u f g = cond_both b t u (FitsBank accounts) (λ _. f) (λ _. g)

-- if accounts and amount are in range, then the transaction of any kind fits the bank
pub fits_kind : (accounts kind a b v : ℕ) → a < accounts → b < accounts → 1 ≤ v → v ≤ 100 → FitsBank accounts (tx_of_kind kind a b v)
unfolding tx_of_kind FitsBank
fits_kind accounts kind a b v here there some few =
    let one : FitsAccount accounts a v = record { account = here; some = some; few = few } in
    let other : FitsAccount accounts b v = record { account = there; some = some; few = few } in
    let pay : FitsBank accounts (if kind == 3 then Pay a b v else Save a v) = fits_either accounts (kind == 3) (Pay a b v) (Save a v) (one, other) one in
    let withdraw : FitsBank accounts (if kind == 2 then Withdraw a v else (if kind == 3 then Pay a b v else Save a v)) =
    fits_either accounts (kind == 2) (Withdraw a v) (if kind == 3 then Pay a b v else Save a v) one pay in
    let deposit = fits_either accounts (kind == 1) (Deposit a v) (if kind == 2 then Withdraw a v else (if kind == 3 then Pay a b v else Save a v)) one withdraw in
    fits_either accounts (kind == 0) (Balance a)
    (if kind == 1 then Deposit a v else (if kind == 2 then Withdraw a v else (if kind == 3 then Pay a b v else Save a v))) here deposit

tx-fits : (accounts : ℕ) (words : Lcg) → 1 ≤ accounts → FitsBank accounts (picked_tx accounts words).0
unfolding picked_tx
tx-fits accounts words some =
    let kind = pick 5 words in
    let a = pick accounts kind.1 in
    let b = pick accounts a.1 in
    let v = pick 100 b.1 in
    let here : a.0 < accounts = mod-lt (next_word kind.1).0 some in
    let there : b.0 < accounts = mod-lt (next_word a.1).0 some in
    fits_kind accounts kind.0 a.0 b.0 (v.0 + 1) here there (omega arith) (omega arith)

-- if there is an account, then the order that words pick fits
pub picked-fits : (accounts : ℕ) (words : Lcg) → 1 ≤ accounts → FitsOrder accounts (picked_order accounts words).0
unfolding picked_order
picked-fits accounts words some =
    record {
      node = omega arith;
      slot = omega arith;
      tx = tx-fits accounts (pick 2 (pick 4 words).1).1 some;
    }

-- ---- orders one after another

-- as many orders are picked as asked for
pub length-picked : (accounts count : ℕ) (words : Lcg) → length (picked_orders accounts count words).0 ≡ count
unfolding picked_orders
length-picked accounts zero words = refl
length-picked accounts (suc n) words = let rest = length-picked accounts n (picked_order accounts words).1 in omega arith

-- if there is an account, then all orders that words pick fit
pub all_picked-fit : (accounts count : ℕ) (words : Lcg) → 1 ≤ accounts → All (FitsOrder accounts) (picked_orders accounts count words).0
unfolding picked_orders
all_picked-fit accounts zero words some = All-nil (FitsOrder accounts)
all_picked-fit accounts (suc n) words some =
    let first = picked_order accounts words in
    All-cons (FitsOrder accounts) first.0 (picked_orders accounts n first.1).0 (picked-fits accounts words some) (all_picked-fit accounts n first.1 some)

-- these orders were picked, the rest are those of these words, and all are those of the first words
pub record IsPicking (accounts rest : ℕ) (orders : List Order) (words : Lcg) (all : List Order × Lcg) : Type 0 where
  pub orders_are : orders ++ (picked_orders accounts rest words).0 ≡ all.0
  pub words_are : (picked_orders accounts rest words).1 ≡ all.1

-- before the first order is picked, all orders are left to pick
pub picking_none : (accounts count : ℕ) (orders : List Order) (words : Lcg) → orders ≡ []
    → IsPicking accounts (count - 0) orders words (picked_orders accounts count words)
picking_none accounts count orders words none =
    let all : count - 0 ≡ count = omega arith in
    rw (none, all) record { orders_are = refl; words_are = refl }

picking_next : (accounts rest : ℕ) (orders : List Order) (words : Lcg) (all : List Order × Lcg) → IsPicking accounts (suc rest) orders words all
    → IsPicking accounts rest (orders ++ (picked_order accounts words).0 ∷ []) (picked_order accounts words).1 all
unfolding picked_orders
picking_next accounts rest orders words all k =
    let next = picked_order accounts words in
    record {
      orders_are = append_assoc orders (next.0 ∷ []) (picked_orders accounts rest next.1).0 ∙ k.orders_are;
      words_are = k.words_are;
    }

-- if the next order is picked and added, then those that are left give the same whole
pub picking_more : (accounts count number : ℕ) (orders more : List Order) (words next : Lcg) (all : List Order × Lcg) → number < count
    → more ≡ orders ++ (picked_order accounts words).0 ∷ [] → next ≡ (picked_order accounts words).1 → IsPicking accounts (count - number) orders words all
    → IsPicking accounts (count - (number + 1)) more next all
picking_more accounts count number orders more words next all less grown left k =
    let one : count - number ≡ suc (count - (number + 1)) = omega arith in
    rw (grown, left) (picking_next accounts (count - (number + 1)) orders words all (subst (λ r. IsPicking accounts r orders words all) one k))

pair : (orders : List Order) (words : Lcg) (all : List Order × Lcg) → orders ≡ all.0 → words ≡ all.1 → (orders, words) ≡ all
pair orders words (a, b) h k = cc

-- once as many orders are picked as asked for, they are the whole
pub picking_all : (accounts count number : ℕ) (orders : List Order) (words : Lcg) (all : List Order × Lcg) → count ≤ number
    → IsPicking accounts (count - number) orders words all → (orders, words) ≡ all
unfolding picked_orders
picking_all accounts count number orders words all past k =
    let none : count - number ≡ 0 = omega arith in
    let last : IsPicking accounts 0 orders words all = subst (λ r. IsPicking accounts r orders words all) none k in
    pair orders words all (sym (append-nil orders) ∙ last.orders_are) last.words_are
