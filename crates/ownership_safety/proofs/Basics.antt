-- Tables by index, and the order of ballots.
use Rattle.std.specs.Prelude.{ℕ, zero, suc, ◌≡◌, ◌≢◌, ◌≤◌, true, false, List, [], ◌∷◌, ◌++◌, ◌⊎◌}
use Rattle.std.proofs.Common.{arith, sym, inl, inr}
use Rattle.std.proofs.lemmas.Bool.{cases_order, cases_Bool}
use Rattle.zeus_base.specs.Order.{is_below}
use Rattle.zeus_base.specs.OrderLaws.{is_below-irrefl, is_below-total, is_below-lower}
use Rattle.zeus_base.specs.declared.order.Stamp.{Stamp}
use Rattle.zeus_model.specs.Tables.{nth}
use Rattle.ownership_safety.specs.OwnershipInvariant.{IsLesser}

-- ---- tables

-- what holds of each element and of the default holds with one more element, of which it holds too
pub nth-append_each : {A : Type 0} (P : A → Type 0) (d : A) (xs : List A) (y : A) → P d → ((i : ℕ) → P (nth d xs i)) → P y → (i : ℕ) → P (nth d (xs ++ y ∷ []) i)
unfolding nth
nth-append_each P d [] y at_d at_xs at_y zero = at_y
nth-append_each P d [] y at_d at_xs at_y (suc i) = at_d
nth-append_each P d (x ∷ xs) y at_d at_xs at_y zero = at_xs zero
nth-append_each P d (x ∷ xs) y at_d at_xs at_y (suc i) = nth-append_each P d xs y at_d (λ j. at_xs (suc j)) at_y i

-- ---- ballots

-- of two ballots of different stamps one is the lesser
pub ballots : (e f : ℕ) (t s : Stamp) → t ≢ s → IsLesser e t f s ⊎ IsLesser f s e t
ballots e f t s ne =
    elim (cases_order e f) [
      | inl same ↦ elim (cases_Bool (is_below t s)) [
        | inl yes_below ↦ inl (inr (same, yes_below))
        | inr not_below ↦ elim (cases_Bool (is_below s t)) [
          | inl above ↦ inr (inr (sym same, above))
          | inr not_above ↦ absurd (ne (is_below-total t s not_below not_above))
        ]
      ]
      | inr other ↦ elim other [ inl less ↦ inl (inl less) | inr more ↦ inr (inl more) ]
    ]

-- a stamp that is below one is another
pub below_ne : (t s : Stamp) → is_below t s ≡ true → t ≢ s
below_ne t s h same =
    let none : is_below s s ≡ false = is_below-irrefl s in
    let some : is_below s s ≡ true = rw (same) at h in
    absurd cc

-- two stamps are equal, or they are not
pub stamp_cases : (t s : Stamp) → (t ≡ s) ⊎ (t ≢ s)
stamp_cases t s =
    elim (cases_Bool (is_below t s)) [
      | inl below ↦ inr (below_ne t s below)
      | inr not_below ↦ elim (cases_Bool (is_below s t)) [
        | inl above ↦ inr (λ same. below_ne s t above (sym same))
        | inr not_above ↦ inl (is_below-total t s not_below not_above)
      ]
    ]

-- what is not below another stamp has no lower version
pub not_below-ver : (t s : Stamp) → is_below t s ≡ false → s.ver ≤ t.ver
not_below-ver t s h = grind (arith, is_below-lower t s)

-- a stamp that is not below another one is above it
pub not_below-above : (t s : Stamp) → is_below t s ≡ false → t ≢ s → is_below s t ≡ true
not_below-above t s h ne =
    elim (cases_Bool (is_below s t)) [ inl above ↦ above | inr not_above ↦ absurd (ne (is_below-total t s h not_above)) ]

-- a lower stamp of an epoch that is not later has the lesser ballot
pub lesser-from : (e f : ℕ) (t s : Stamp) → e ≤ f → is_below t s ≡ true → IsLesser e t f s
lesser-from e f t s le below =
    elim (cases_order e f) [
      | inl same ↦ inr (same, below)
      | inr other ↦ elim other [ inl less ↦ inl less | inr more ↦ absurd (omega arith) ]
    ]

-- so has an epoch that is not later, and a lower stamp where the epochs are one
pub lesser-epoch : (e f : ℕ) (t s : Stamp) → IsLesser e t f s → e ≤ f
lesser-epoch e f t s (inl less) = omega arith
lesser-epoch e f t s (inr both) = omega (arith, both.0)
