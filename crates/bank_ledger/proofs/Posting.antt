-- A transaction of the bank does to the values of a map what it does to the balances.
use Rattle.std.proofs.Common.{ℕ, ◌≡◌, ◌+◌, ◌-◌, ◌%◌, ◌^◌, ◌<◌, ◌≤◌, Bool, true, false, List, [], ◌∷◌, Option, Some, None, refl, sym, ap, subst, ◌∙◌, arith}
use Rattle.std.specs.Prelude.{◌==◌, ◌≢◌, nat_lt, if◌then◌else◌}
use Rattle.std.proofs.lemmas.Bool.{eqb-true}
use Rattle.std.proofs.lemmas.Bool.Decides.{nat_tests}
use Rattle.zeus_base.specs.TableLaws.{nth-put_same, nth-put_other}
use Rattle.zeus_base.specs.Tables.{put}
use Rattle.zeus_base.specs.declared.value.Value.TheVariants.{Num}
use Rattle.zeus_txn.specs.Map.{applied_map, content, no_content, run_at, written_map}
use Rattle.zeus_txn.specs.Run.{fails_at, succeeds}
use Rattle.zeus_txn.specs.declared.map.Versioned.{Versioned}
use Rattle.zeus_txn.specs.declared.ops.Op.{Op}
use Rattle.zeus_txn.specs.declared.ops.Op.TheVariants.{Get, Add, Need}
use Rattle.zeus_txn.specs.declared.reply.Ran.{Ran}
use Rattle.bank_ledger.specs.declared.bank_tx.BankTx.{BankTx}
use Rattle.bank_ledger.specs.declared.bank_tx.BankTx.TheVariants.{Balance, Deposit, Withdraw, Pay, Save}
use Rattle.bank_ledger.specs.Operations.{FitsBank, checking, operations, savings, taking}
use Rattle.bank_ledger.specs.Balances.{balance, credited, debited, lacks, moved, posted}
use Rattle.bank_ledger.proofs.Tables.{Shows, put-put, shown_balance, shown_put}
use Rattle.bank_ledger.proofs.Running.{run_add, run_get, run_lacking, run_move, run_move_back, run_take, taken}

-- where a transaction fails that lacks something
abbrev pub failed_at : Bool → Option ℕ
failed_at b = if b then Some 0 else None

-- operations leave these balances at a map, and fail at this place
pub record Posts (m : List Versioned) (ops : List Op) (after : List ℕ) (place : Option ℕ) : Type 0 where
  pub shown : Shows (applied_map m ops) after
  pub failed : (run_at m ops).reply.failed ≡ place

-- no balance is near the end of the numbers
pub record IsLow (bs : List ℕ) : Type 0 where
  pub low : (x : ℕ) → balance bs x + 100 < 2 ^ 64

by_ran : (m : List Versioned) (ops : List Op) (r : Ran) (after : List ℕ) → run_at m ops ≡ r → Shows (written_map m r.writes) after → Posts m ops after r.reply.failed
by_ran m ops r after is s =
    record {
      shown = subst (λ (q : Ran). Shows (written_map m q.writes) after) (sym is) s;
      failed = ap (λ (q : Ran). q.reply.failed) is;
    }

-- ---- an amount is paid in

add_posts : (m : List Versioned) (bs : List ℕ) (x v : ℕ) → Shows m bs → IsLow bs → v ≤ 100 → Posts m (Add x v ∷ []) (credited bs x v) None
unfolding written_map
add_posts m bs x v s low few =
    let n = balance bs x in
    let small = low.low x in
    let sum : (n + v) % 2 ^ 64 ≡ n + v = omega arith in
    by_ran m (Add x v ∷ []) (succeeds (Num (n + v) ∷ []) ((x, Num (n + v)) ∷ [])) (credited bs x v)
    (run_add (λ y. (content m y).value) x v n (n + v) (shown_balance m bs x s) sum)
    (shown_put m bs x (n + v) ((content m x).ver + 1) s)

-- ---- an amount is paid out

take_posts : (m : List Versioned) (bs : List ℕ) (x v : ℕ) (b : Bool) → nat_lt (balance bs x) v ≡ b → Shows m bs → IsLow bs → v ≤ 100
    → Posts m (Need x v ∷ Add x (taking v) ∷ []) (if b then bs else debited bs x v) (failed_at b)
unfolding written_map
take_posts m bs x v true is s low few =
    by_ran m (Need x v ∷ Add x (taking v) ∷ []) (fails_at 0 []) bs
    (run_lacking (λ y. (content m y).value) x v (balance bs x) (Add x (taking v) ∷ []) (shown_balance m bs x s) is) s
take_posts m bs x v false is s low few =
    let n = balance bs x in
    let small = low.low x in
    by_ran m (Need x v ∷ Add x (taking v) ∷ []) (succeeds (Num (n - v) ∷ []) ((x, Num (n - v)) ∷ [])) (debited bs x v)
    (run_take (λ y. (content m y).value) x v n (n - v) (shown_balance m bs x s) is (taken n v is (omega arith) (omega arith)))
    (shown_put m bs x (n - v) ((content m x).ver + 1) s)

-- ---- an amount is moved

credit_back : (bs : List ℕ) (x y v : ℕ) → y ≡ x → credited (debited bs x v) y v ≡ put 0 bs y (balance bs x - v + v)
credit_back bs x y v e =
    subst (λ z. credited (debited bs x v) z v ≡ put 0 bs z (balance bs x - v + v)) (sym e)
    (put-put 0 bs x (balance bs x - v) (balance (debited bs x v) x + v) ∙ ap (λ k. put 0 bs x (k + v)) (nth-put_same 0 bs x (balance bs x - v)))

credit_other : (bs : List ℕ) (x y v : ℕ) → x ≢ y → credited (debited bs x v) y v ≡ put 0 (debited bs x v) y (balance bs y + v)
credit_other bs x y v other = ap (λ k. put 0 (debited bs x v) y (k + v)) (nth-put_other 0 bs x y (balance bs x - v) other)

paid_on : (m : List Versioned) (bs : List ℕ) (x y v : ℕ) (c : Bool) → (y == x) ≡ c → nat_lt (balance bs x) v ≡ false → Shows m bs → IsLow bs → v ≤ 100
    → Posts m (Need x v ∷ Add x (taking v) ∷ Add y v ∷ []) (credited (debited bs x v) y v) None
unfolding written_map
paid_on m bs x y v true same is s low few =
    let n = balance bs x in
    let small = low.low x in
    let here : y ≡ x = eqb-true y x same in
    let sum : (n - v + v) % 2 ^ 64 ≡ n - v + v = grind (arith, nat_tests) in
    rw (credit_back bs x y v here)
    (by_ran m (Need x v ∷ Add x (taking v) ∷ Add y v ∷ []) (succeeds (Num (n - v) ∷ Num (n - v + v) ∷ []) ((y, Num (n - v + v)) ∷ [])) (put 0 bs y (n - v + v))
    (run_move_back (λ z. (content m z).value) x y v n (n - v) (n - v + v) same (shown_balance m bs x s) is (taken n v is (omega arith) (omega arith)) sum)
    (shown_put m bs y (n - v + v) ((content m y).ver + 1) s))
paid_on m bs x y v false other is s low few =
    let n = balance bs x in
    let k = balance bs y in
    let small = low.low x in
    let small_y = low.low y in
    let apart : x ≢ y = λ e. grind (arith, nat_tests) in
    let sum : (k + v) % 2 ^ 64 ≡ k + v = omega arith in
    let first : Versioned = record { ver = (content m x).ver + 1; value = Num (n - v) } in
    rw (credit_other bs x y v apart)
    (by_ran m (Need x v ∷ Add x (taking v) ∷ Add y v ∷ []) (succeeds (Num (n - v) ∷ Num (k + v) ∷ []) ((x, Num (n - v)) ∷ (y, Num (k + v)) ∷ [])) (put 0 (debited bs x v) y (k + v))
    (run_move (λ z. (content m z).value) x y v n (n - v) k (k + v) other (shown_balance m bs x s) is (taken n v is (omega arith) (omega arith)) (shown_balance m bs y s) sum)
    (shown_put (put no_content m x first) (debited bs x v) y (k + v) ((content (put no_content m x first) y).ver + 1)
    (shown_put m bs x (n - v) ((content m x).ver + 1) s)))

move_posts : (m : List Versioned) (bs : List ℕ) (x y v : ℕ) (b : Bool) → nat_lt (balance bs x) v ≡ b → Shows m bs → IsLow bs → v ≤ 100
    → Posts m (Need x v ∷ Add x (taking v) ∷ Add y v ∷ []) (if b then bs else credited (debited bs x v) y v) (failed_at b)
unfolding written_map
move_posts m bs x y v true is s low few =
    by_ran m (Need x v ∷ Add x (taking v) ∷ Add y v ∷ []) (fails_at 0 []) bs
    (run_lacking (λ z. (content m z).value) x v (balance bs x) (Add x (taking v) ∷ Add y v ∷ []) (shown_balance m bs x s) is) s
move_posts m bs x y v false is s low few = paid_on m bs x y v (y == x) refl is s low few

-- ---- each transaction

-- if a map shows low balances, then a transaction's operations leave those that the bank posts, and fail where it lacks
pub posts : (accounts : ℕ) (m : List Versioned) (bs : List ℕ) (t : BankTx) → FitsBank accounts t → Shows m bs → IsLow bs
    → Posts m (operations t) (posted bs t) (failed_at (lacks bs t))
unfolding operations lacks moved FitsBank written_map
posts accounts m bs (Balance a) fits s low =
    by_ran m (Get (checking a) ∷ Get (savings a) ∷ []) (succeeds ((content m (checking a)).value ∷ (content m (savings a)).value ∷ []) []) bs
    (run_get (λ y. (content m y).value) (checking a) (savings a)) s
posts accounts m bs (Deposit a v) fits s low = add_posts m bs (checking a) v s low fits.few
posts accounts m bs (Withdraw a v) fits s low = take_posts m bs (savings a) v (nat_lt (balance bs (savings a)) v) refl s low fits.few
posts accounts m bs (Pay a b v) fits s low =
    move_posts m bs (checking a) (checking b) v (nat_lt (balance bs (checking a)) v) refl s low fits.0.few
posts accounts m bs (Save a v) fits s low =
    move_posts m bs (checking a) (savings a) v (nat_lt (balance bs (checking a)) v) refl s low fits.few
