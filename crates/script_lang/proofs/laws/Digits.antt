-- The digits of a number, from one to the next.
use Rattle.std.proofs.Common.{◌≡◌, ℕ, suc, ◌⊎◌, ◌+◌, ◌-◌, ◌*◌, ◌^◌, ◌<◌, ◌≤◌, List, [], ◌∷◌, length, get_or, drop, Option, Some, None, arith, refl, sym, ap, ◌∙◌}
use Rattle.std.proofs.lemmas.Grind.{common_steps}
use Rattle.std.proofs.Math.Seq.{drop-cons}
use Rattle.std.proofs.lemmas.Bool.Decides.{nat_tests}
use Rattle.script_lang.specs.Numbers.{digits_from}

-- if the place is past the last digit, then the number is the one read so far
pub digits_end : (n i : ℕ) (w : List ℕ) → length w ≤ i → digits_from n (drop i w) ≡ Some n
unfolding digits_from
digits_end n i w le =
    let none : drop i w ≡ [] = grind (arith, common_steps) in
    rw none refl

digits_bad : (n b : ℕ) (bs : List ℕ) → (b < 48) ⊎ (57 < b) ⊎ (2 ^ 64 ≤ 10 * n + (b - 48)) → digits_from n (b ∷ bs) ≡ None
unfolding digits_from
digits_bad n b bs bad = grind (arith, nat_tests)

digits_good : (n b : ℕ) (bs : List ℕ) → 48 ≤ b → b ≤ 57 → 10 * n + (b - 48) < 2 ^ 64 → digits_from n (b ∷ bs) ≡ digits_from (10 * n + (b - 48)) bs
unfolding digits_from
digits_good n b bs low high fits = grind (arith, nat_tests)

-- if the next byte is no digit or the number would reach 2^64, then the word is no number
pub digits_none : (n i : ℕ) (w : List ℕ) (total : Option ℕ) → i < length w → digits_from n (drop i w) ≡ total → (get_or w i 0 < 48) ⊎ (57 < get_or w i 0) ⊎ (2 ^ 64 ≤ 10 * n + (get_or w i 0 - 48)) → None ≡ total
digits_none n i w total lt so_far bad =
    sym (digits_bad n (get_or w i 0) (drop (suc i) w) bad) ∙ ap (digits_from n) (sym (drop-cons w i 0 lt)) ∙ so_far

-- if the next byte is a digit and the number stays below 2^64, then the number is that of the digits behind it, read on
pub digits_next : (n i : ℕ) (w : List ℕ) (total : Option ℕ) → i < length w → digits_from n (drop i w) ≡ total → 48 ≤ get_or w i 0 → get_or w i 0 ≤ 57 → 10 * n + (get_or w i 0 - 48) < 2 ^ 64 → digits_from (10 * n + (get_or w i 0 - 48)) (drop (suc i) w) ≡ total
digits_next n i w total lt so_far low high fits =
    sym (digits_good n (get_or w i 0) (drop (suc i) w) low high fits) ∙ ap (digits_from n) (sym (drop-cons w i 0 lt)) ∙ so_far
