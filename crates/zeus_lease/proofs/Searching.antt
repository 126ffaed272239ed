-- A search over the numbers below one, number by number.
use Rattle.std.proofs.Common.{ℕ, suc, ◌≡◌, ◌∙◌, ◌<◌, ◌≤◌, ◌+◌, ◌-◌, true, Option, Some, None, refl, ap, add-one, arith}
use Rattle.std.specs.Prelude.{is_some}
use Rattle.zeus_model.specs.Tables.{below, first_of, numbers_from, or_else}

module _ {A : Type 0} (f : ℕ → Option A) (n : ℕ) where
  -- what is found from a number on
  abbrev pub first_from : ℕ → Option A
  first_from i = first_of f (numbers_from i (n - i))

  next_number : (i : ℕ) → i < n → numbers_from i (n - i) ≡ numbers_from i (suc (n - (i + 1)))
  next_number i h =
      let one : n - i ≡ suc (n - (i + 1)) = omega arith in
      rw one refl

  pub first_from-none : (i : ℕ) → n ≤ i → first_from i ≡ None
  unfolding first_of numbers_from
  first_from-none i h =
      let none : n - i ≡ 0 = omega arith in
      rw none refl

  pub first_from-found : (i : ℕ) (a : A) → i < n → f i ≡ Some a → first_from i ≡ Some a
  unfolding first_of numbers_from or_else
  first_from-found i a h e = ap (first_of f) (next_number i h) ∙ rw e refl

  pub first_from-passed : (i : ℕ) → i < n → f i ≡ None → first_from i ≡ first_from (i + 1)
  unfolding first_of numbers_from or_else
  first_from-passed i h e = ap (first_of f) (next_number i h) ∙ rw (e, add-one) refl

  pub first_from-some : (i : ℕ) (o : Option A) → i < n → f i ≡ o → is_some o ≡ true → first_from i ≡ o
  first_from-some i None h e some = absurd cc
  first_from-some i (Some a) h e some = first_from-found i a h e
