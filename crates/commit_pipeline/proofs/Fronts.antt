-- The front of entries that pass, by place.
use Rattle.std.proofs.Common.{ℕ, zero, suc, ◌≡◌, ◌≤◌, Bool, true, false, List, [], ◌∷◌, Some, length, drop, map, slice_get, refl, arith}
use Rattle.zeus_model.specs.declared.state.Kept.{Kept}
use Rattle.zeus_model.specs.declared.state.Pending.{Pending}
use Rattle.zeus_model.specs.Commit.{as_kept}
use Rattle.zeus_model.specs.Tables.{front}

-- if the entry at an index passes the test, then the front from there is one more than the front behind it
pub front_step : (test : Kept → Bool) (ps : List Pending) (i : ℕ) (p : Pending) → slice_get ps i ≡ Some p → test (as_kept p) ≡ true → front test (drop i (map as_kept ps)) ≡ suc (front test (drop (suc i) (map as_kept ps)))
unfolding front
front_step test [] i p e t = absurd cc
front_step test (x ∷ xs) zero p e t = let same : x ≡ p = cc in rw (same, t) refl
front_step test (x ∷ xs) (suc i) p e t = front_step test xs i p e t

-- if the entry at an index does not pass the test, then the front from there is empty
pub front_stop : (test : Kept → Bool) (ps : List Pending) (i : ℕ) (p : Pending) → slice_get ps i ≡ Some p → test (as_kept p) ≡ false → front test (drop i (map as_kept ps)) ≡ 0
unfolding front
front_stop test [] i p e t = absurd cc
front_stop test (x ∷ xs) zero p e t = let same : x ≡ p = cc in rw (same, t) refl
front_stop test (x ∷ xs) (suc i) p e t = front_stop test xs i p e t

-- past the end of the entries the front is empty
pub front_end : (test : Kept → Bool) (ps : List Pending) (i : ℕ) → length ps ≤ i → front test (drop i (map as_kept ps)) ≡ 0
unfolding front
front_end test [] zero h = refl
front_end test [] (suc i) h = refl
front_end test (x ∷ xs) zero h = absurd (omega arith)
front_end test (x ∷ xs) (suc i) h = front_end test xs i (omega arith)
