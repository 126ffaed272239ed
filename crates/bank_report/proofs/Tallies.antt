-- Tallies of a part of a history, and sums of a part of a map.
use Rattle.std.proofs.Common.{ℕ, zero, suc, ◌≡◌, ◌+◌, ◌^◌, ◌<◌, ◌≤◌, List, [], ◌∷◌, Option, Some, None, length, drop, refl, ap, arith}
use Rattle.std.specs.Prelude.{slice_get}
use Rattle.zeus_txn.specs.Map.{content}
use Rattle.zeus_txn.specs.declared.map.Versioned.{Versioned}
use Rattle.zeus_base.specs.Tables.{nth}
use Rattle.zeus_model.specs.Book.{Point}
use Rattle.bank_ledger.specs.declared.bank_tx.BankTx.{BankTx}
use Rattle.bank_ledger.specs.Money.{amount, bank_tx, held, paid_in, paid_out}
use Rattle.bank_report.specs.Totals.{CanNote, failed, failures, noted, tally_of}
use Rattle.bank_report.specs.declared.totals.Tally.{Tally}

-- the tally has counted all but the rest
pub record IsTallied (txs : List BankTx) (t : Tally) (rest all : List Point) : Type 0 where
  pub history : t.history + length rest ≡ length all
  pub fails : t.failed + failed rest ≡ failed all
  pub comes : t.paid_in + paid_in txs rest ≡ paid_in txs all
  pub goes : t.paid_out + paid_out txs rest ≡ paid_out txs all
  pub few : t.failed ≤ t.history

-- before the first transaction of a history the tally is of nothing
pub tallied_none : (txs : List BankTx) (all : List Point) → IsTallied txs record { history = 0; failed = 0; paid_in = 0; paid_out = 0 } all all
tallied_none txs all = record { history = omega arith; fails = omega arith; comes = omega arith; goes = omega arith; few = omega arith }

drop_found : (all : List Point) (place : ℕ) (p : Point) → slice_get all place ≡ Some p → drop place all ≡ p ∷ drop (suc place) all
drop_found [] place p is = absurd cc
drop_found (q ∷ qs) zero p is = let same : q ≡ p = cc in ap (λ (o : Point). o ∷ qs) same
drop_found (q ∷ qs) (suc place) p is = drop_found qs place p is

failures-few : (o : Option ℕ) → failures o ≤ 1
unfolding failures
failures-few None = omega arith
failures-few (Some place) = omega arith

next_of : (txs : List BankTx) (t : Tally) (p : Point) (rest all : List Point) → IsTallied txs t (p ∷ rest) all → IsTallied txs (noted (bank_tx txs p.id) t p.reply.failed) rest all
unfolding noted failed paid_in paid_out
next_of txs t p rest all k =
    let history = k.history in
    let fails = k.fails in
    let comes = k.comes in
    let goes = k.goes in
    let few = k.few in
    let one = failures-few p.reply.failed in
    record { history = omega arith; fails = omega arith; comes = omega arith; goes = omega arith; few = omega arith }

-- if a tally is of the transactions before a place, then noting the one there makes it that of those up to it
pub tallied_next : (txs : List BankTx) (t : Tally) (p : Point) (place : ℕ) (all : List Point) → slice_get all place ≡ Some p → IsTallied txs t (drop place all) all
    → IsTallied txs (noted (bank_tx txs p.id) t p.reply.failed) (drop (place + 1) all) all
tallied_next txs t p place all is k =
    let one : place + 1 ≡ suc place = omega arith in
    rw one (next_of txs t p (drop (suc place) all) all (rw (drop_found all place p is) at k))

can_note : (txs : List BankTx) (t : Tally) (p : Point) (rest all : List Point) → length all < 2 ^ 32 → paid_in txs all < 2 ^ 64 → paid_out txs all < 2 ^ 64
    → IsTallied txs t (p ∷ rest) all → CanNote (bank_tx txs p.id) t p.reply.failed
unfolding failed paid_in paid_out
can_note txs t p rest all size comes_low goes_low k =
    let history = k.history in
    let comes = k.comes in
    let goes = k.goes in
    let few = k.few in
    record { history = omega arith; failed = omega arith; paid_in = omega arith; paid_out = omega arith }

-- if a history and what it pays in and out are small enough, then the transaction at a place can be noted in the tally
pub tallied_can : (txs : List BankTx) (t : Tally) (p : Point) (place : ℕ) (all : List Point) → slice_get all place ≡ Some p → length all < 2 ^ 32
    → paid_in txs all < 2 ^ 64 → paid_out txs all < 2 ^ 64 → IsTallied txs t (drop place all) all → CanNote (bank_tx txs p.id) t p.reply.failed
tallied_can txs t p place all is size comes goes k = can_note txs t p (drop (suc place) all) all size comes goes (rw (drop_found all place p is) at k)

same_tally : (t : Tally) (h f i o : ℕ) → t.history ≡ h → t.failed ≡ f → t.paid_in ≡ i → t.paid_out ≡ o → t ≡ record { history = h; failed = f; paid_in = i; paid_out = o }
same_tally t h f i o a b d e = rw (← a, ← b, ← d, ← e) refl

-- if no transaction is left, then the tally is that of the whole history
pub tallied_all : (txs : List BankTx) (t : Tally) (all : List Point) → IsTallied txs t [] all → t ≡ tally_of txs all
unfolding failed paid_in paid_out
tallied_all txs t all k =
    let history = k.history in
    let fails = k.fails in
    let comes = k.comes in
    let goes = k.goes in
    same_tally t (length all) (failed all) (paid_in txs all) (paid_out txs all) (omega arith) (omega arith) (omega arith) (omega arith)

-- ---- what a map holds from an object on

-- what the accounts from one on hold is what this one holds and what those behind it hold
pub held_from : (m : List Versioned) (x : ℕ) → x < length m → held (drop x m) ≡ amount (content m x).value + held (drop (x + 1) m)
unfolding held nth
held_from [] x h = absurd (omega arith)
held_from (v ∷ m) zero h = refl
held_from (v ∷ m) (suc x) h = let one : suc x + 1 ≡ suc (x + 1) = omega arith in rw one (held_from m x (omega arith))

-- if a place is past the last account, then the accounts from there hold nothing
pub held-none : (m : List Versioned) (x : ℕ) → length m ≤ x → held (drop x m) ≡ 0
unfolding held
held-none [] zero h = refl
held-none [] (suc x) h = refl
held-none (v ∷ m) zero h = absurd (omega arith)
held-none (v ∷ m) (suc x) h = held-none m x (omega arith)
