-- Numbers that are below another one, each by a test.
use Rattle.std.proofs.Common.{ℕ, ◌≡◌, ◌<◌, true, false, List, refl, arith}
use Rattle.std.specs.Prelude.{All, nat_lt}
use Rattle.std.specs.List.{list_all}
use Rattle.std.proofs.Math.ListN.{get_or}
use Rattle.std.proofs.lemmas.Bool.Decides.{nat_tests}
use Rattle.std.proofs.lemmas.List.Folds.{list_all_at}

-- if the test finds all numbers below another one, then each of them is
pub below_all : (k : ℕ) (xs : List ℕ) → list_all (λ x. nat_lt x k) xs ≡ true → All (λ x. x < k) xs
below_all k xs all = λ i d h.
    elim (nat_lt (get_or xs i d) k) as (λ b. nat_lt (get_or xs i d) k ≡ b → get_or xs i d < k) [
      | true ↦ λ e. grind (arith, nat_tests)
      | false ↦ λ e. let none = list_all_at (λ x. nat_lt x k) xs i d h e in absurd cc
    ] refl
