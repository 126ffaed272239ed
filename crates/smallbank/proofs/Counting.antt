-- Transactions that are not closed, counted one after another.
use Rattle.std.proofs.Common.{ℕ, zero, suc, ◌≡◌, ◌+◌, ◌-◌, ◌<◌, ◌≤◌, refl, ap, arith}
use Rattle.std.proofs.lemmas.Bool.{cond_both}
use Rattle.zeus_base.specs.Tables.{numbers_from}
use Rattle.zeus_model.specs.Readers.{is_closed}
use Rattle.zeus_model.specs.World.{World}
use Rattle.smallbank.specs.Run.{unclosed_of, unclosed_one}

unclosed_next : (w : World) (k n j : ℕ) → n ≡ suc j → unclosed_of w (numbers_from k n) ≡ unclosed_one w k + unclosed_of w (numbers_from (suc k) j)
unfolding numbers_from unclosed_of
unclosed_next w k zero j e = absurd (omega arith)
unclosed_next w k (suc n) j e = let same : n ≡ j = omega arith in ap (λ i. unclosed_one w k + unclosed_of w (numbers_from (suc k) i)) same

-- the rest begins with the next transaction
pub unclosed_more : (w : World) (k n : ℕ) → k < n
    → unclosed_of w (numbers_from k (n - k)) ≡ unclosed_one w k + unclosed_of w (numbers_from (k + 1) (n - (k + 1)))
unclosed_more w k n h =
    let one : k + 1 ≡ suc k = omega arith in
    rw one (unclosed_next w k (n - k) (n - suc k) (omega arith))

-- past the last transaction none is left that is not closed
pub unclosed-none : (w : World) (k n : ℕ) → n ≤ k → unclosed_of w (numbers_from k (n - k)) ≡ 0
unfolding numbers_from unclosed_of
unclosed-none w k n h = let none : n - k ≡ 0 = omega arith in rw none refl

one-few : (w : World) (k : ℕ) → unclosed_one w k ≤ 1
unfolding unclosed_one
one-few w k = cond_both (is_closed w k) 0 1 (λ (i : ℕ). i ≤ 1) (λ _. omega arith) (λ _. omega arith)

-- of n transactions at most n are not closed
pub unclosed-few : (w : World) (k n : ℕ) → unclosed_of w (numbers_from k n) ≤ n
unfolding numbers_from unclosed_of
unclosed-few w k zero = omega arith
unclosed-few w k (suc n) =
    let rest = unclosed-few w (suc k) n in
    let one = one-few w k in
    omega arith
