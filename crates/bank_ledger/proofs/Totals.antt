-- A transaction of the bank moves money, and makes or loses none.
use Rattle.std.proofs.Common.{ℕ, ◌≡◌, ◌+◌, ◌-◌, ◌*◌, ◌<◌, ◌≤◌, Bool, true, false, List, length, refl, ◌∙◌, arith}
use Rattle.std.specs.Prelude.{nat_lt, if◌then◌else◌}
use Rattle.std.proofs.lemmas.Bool.Decides.{nat_tests}
use Rattle.zeus_base.specs.TableLaws.{length-put}
use Rattle.bank_ledger.specs.declared.bank_tx.BankTx.{BankTx}
use Rattle.bank_ledger.specs.declared.bank_tx.BankTx.TheVariants.{Balance, Deposit, Withdraw, Pay, Save}
use Rattle.bank_ledger.specs.Operations.{FitsBank, checking, savings}
use Rattle.bank_ledger.specs.Balances.{balance, credited, debited, lacks, moved, posted}
use Rattle.bank_ledger.specs.Money.{brings, takes_out, unless_failed}
use Rattle.bank_ledger.proofs.Posting.{failed_at}
use Rattle.bank_ledger.proofs.Tables.{total, total-put}

-- the balances after a transaction that brings and takes out this much
pub record IsEven (bs after : List ℕ) (comes goes : ℕ) : Type 0 where
  pub size : length after ≡ length bs
  pub even : total after + goes ≡ total bs + comes
  pub few : comes ≤ 100

same : (bs : List ℕ) → IsEven bs bs 0 0
same bs = record { size = refl; even = refl; few = omega arith }

add_even : (bs : List ℕ) (x v : ℕ) → x < length bs → v ≤ 100 → IsEven bs (credited bs x v) v 0
add_even bs x v h few =
    let whole = total-put bs x (balance bs x + v) h in
    record { size = length-put 0 bs x (balance bs x + v) h; even = omega arith; few = few }

debit_even : (bs : List ℕ) (x v : ℕ) → x < length bs → nat_lt (balance bs x) v ≡ false → IsEven bs (debited bs x v) 0 v
debit_even bs x v h is =
    let enough : v ≤ balance bs x = grind (arith, nat_tests) in
    let whole = total-put bs x (balance bs x - v) h in
    record { size = length-put 0 bs x (balance bs x - v) h; even = omega arith; few = omega arith }

take_even : (bs : List ℕ) (x v : ℕ) (b : Bool) → nat_lt (balance bs x) v ≡ b → x < length bs
    → IsEven bs (if b then bs else debited bs x v) (unless_failed (failed_at b) 0) (unless_failed (failed_at b) v)
unfolding unless_failed
take_even bs x v true is h = same bs
take_even bs x v false is h = debit_even bs x v h is

move_even : (bs : List ℕ) (x y v : ℕ) (b : Bool) → nat_lt (balance bs x) v ≡ b → x < length bs → y < length bs → v ≤ 100
    → IsEven bs (if b then bs else credited (debited bs x v) y v) (unless_failed (failed_at b) 0) (unless_failed (failed_at b) 0)
unfolding unless_failed
move_even bs x y v true is h k few = same bs
move_even bs x y v false is h k few =
    let out = debit_even bs x v h is in
    let size = out.size in
    let into = add_even (debited bs x v) y v (omega arith) few in
    record { size = into.size ∙ out.size; even = omega arith; few = omega arith }

-- the total after a transaction, with what it took out, is the total before, with what it brought; if it fails, both are none
pub posted_even : (accounts : ℕ) (bs : List ℕ) (t : BankTx) → FitsBank accounts t → length bs ≡ 2 * accounts
    → IsEven bs (posted bs t) (unless_failed (failed_at (lacks bs t)) (brings t)) (unless_failed (failed_at (lacks bs t)) (takes_out t))
unfolding FitsBank lacks moved brings takes_out unless_failed
posted_even accounts bs (Balance a) fits size = same bs
posted_even accounts bs (Deposit a v) fits size = add_even bs (checking a) v (omega arith) fits.few
posted_even accounts bs (Withdraw a v) fits size = take_even bs (savings a) v (nat_lt (balance bs (savings a)) v) refl (omega arith)
posted_even accounts bs (Pay a b v) fits size =
    move_even bs (checking a) (checking b) v (nat_lt (balance bs (checking a)) v) refl (omega arith) (omega arith) fits.0.few
posted_even accounts bs (Save a v) fits size =
    move_even bs (checking a) (savings a) v (nat_lt (balance bs (checking a)) v) refl (omega arith) (omega arith) fits.few
