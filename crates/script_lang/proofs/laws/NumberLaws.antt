-- Numbers as words: what is read is spelled so, and what is spelled so is read.
use Rattle.std.proofs.Common.{◌≡◌, ℕ, zero, suc, ◌+◌, ◌-◌, ◌*◌, ◌^◌, ◌<◌, ◌≤◌, Bool, true, false, cond, List, [], ◌∷◌, length, get_or, Some, None, Ok, refl, sym, ap, ◌∙◌, arith, rules}
use Rattle.std.specs.Prelude.{◌&&◌, ◌==◌, nat_lt, nat_le, decimal, slice_index}
use Rattle.std.specs.Str.{all_ascii_digits}
use Rattle.std.proofs.lemmas.Bool.{ltb-true, lt-ltb}
use Rattle.std.proofs.lemmas.Bool.Decides.{nat_tests}
use Rattle.std.proofs.lemmas.Fmt.{decimal-digits_value, digits_decimal, digits_value-decimal, decimal_nonempty, first_decimal, decimal_digit}
use Rattle.std.proofs.lemmas.Str.Parse.{IsNumeralModel, numerals_by_fold}
use Rattle.script_lang.specs.Reads.{word_at}
use Rattle.script_lang.specs.Numbers.{is_digit, digits_from, number_of, range_of, number_at, range_at}
use Rattle.script_lang.proofs.Sound.{IfRead, read_bind, read_ok, read_err, read_cond, read_or}

abbrev pub read_on : ℕ → List ℕ → ℕ
read_on n [] = n
read_on n (c ∷ cs) = read_on (10 * n + (c - 48)) cs

-- our numerals are the standard library's: read from 0 on, where all bytes are ASCII digits
pub own : IsNumeralModel (λ ds. all_ascii_digits ds ≡ true) (read_on 0)
own = numerals_by_fold _ (search rules) read_on (search rules)

-- reading on never makes a number less
read_on-le : (n : ℕ) (w : List ℕ) → n ≤ read_on n w
read_on-le n [] = omega arith
read_on-le n (c ∷ cs) = omega (arith, read_on-le (10 * n + (c - 48)) cs)

digits-sound : (n m : ℕ) (w : List ℕ) → n < 2 ^ 64 → digits_from n w ≡ Some m → (all_ascii_digits w ≡ true) × (read_on n w ≡ m) × (m < 2 ^ 64)
unfolding digits_from
digits-sound n m [] lt h = let same : n ≡ m = cc in (refl, same, rw (← same) lt)
digits-sound n m (b ∷ bs) lt h = go (is_digit b) (nat_lt (10 * n + (b - 48)) (2 ^ 64)) refl refl h (λ l. digits-sound (10 * n + (b - 48)) m bs l)
  where
    go : (t u : Bool) → is_digit b ≡ t → nat_lt (10 * n + (b - 48)) (2 ^ 64) ≡ u → cond (t && u) (digits_from (10 * n + (b - 48)) bs) None ≡ Some m
        → (10 * n + (b - 48) < 2 ^ 64 → digits_from (10 * n + (b - 48)) bs ≡ Some m → (all_ascii_digits bs ≡ true) × (read_on (10 * n + (b - 48)) bs ≡ m) × (m < 2 ^ 64))
        → (all_ascii_digits (b ∷ bs) ≡ true) × (read_on (10 * n + (b - 48)) bs ≡ m) × (m < 2 ^ 64)
    go true true e f g rest = let r = rest (ltb-true _ _ f) g in (rw (e, r.0) refl, r.1, r.2)
    go true false e f g rest = absurd cc
    go false u e f g rest = absurd cc

digits-complete : (n : ℕ) (w : List ℕ) → all_ascii_digits w ≡ true → read_on n w < 2 ^ 64 → digits_from n w ≡ Some (read_on n w)
unfolding digits_from
digits-complete n [] d lt = refl
digits-complete n (b ∷ bs) d lt = go (is_digit b) (all_ascii_digits bs) refl refl d (digits-complete (10 * n + (b - 48)) bs)
  where
    go : (t u : Bool) → is_digit b ≡ t → all_ascii_digits bs ≡ u → (t && u) ≡ true
        → (all_ascii_digits bs ≡ true → read_on (10 * n + (b - 48)) bs < 2 ^ 64 → digits_from (10 * n + (b - 48)) bs ≡ Some (read_on (10 * n + (b - 48)) bs))
        → cond (is_digit b && nat_lt (10 * n + (b - 48)) (2 ^ 64)) (digits_from (10 * n + (b - 48)) bs) None ≡ Some (read_on (10 * n + (b - 48)) bs)
    go true true e f g rest =
        let small : nat_lt (10 * n + (b - 48)) (2 ^ 64) ≡ true = lt-ltb _ _ (omega (arith, read_on-le (10 * n + (b - 48)) bs)) in
        rw (e, small) (rest f lt)
    go true false e f g rest = absurd cc
    go false u e f g rest = absurd cc

-- the number of a word is spelled so
pub number_of-sound : (w : List ℕ) (n : ℕ) → number_of w ≡ Some n → (w ≡ decimal n) × (n < 2 ^ 64)
unfolding number_of
number_of-sound w n h = go (length w == 0) ((slice_index w 0 == 48) && nat_lt 1 (length w)) refl refl h
  where
    go : (t u : Bool) → (length w == 0) ≡ t → ((slice_index w 0 == 48) && nat_lt 1 (length w)) ≡ u → cond t None (cond u None (digits_from 0 w)) ≡ Some n → (w ≡ decimal n) × (n < 2 ^ 64)
    go true u e f g = absurd cc
    go false true e f g = absurd cc
    go false false e f g =
        let d = digits-sound 0 n w (omega arith) g in
        let some : 0 < length w = grind (arith, nat_tests) in
        let lead : get_or w 0 0 ≡ 48 → length w ≡ 1 = λ z. grind (arith, nat_tests) in
        let same : decimal (read_on 0 w) ≡ w = decimal-digits_value own w d.0 some lead (rw d.1 d.2) in
        (sym same ∙ ap decimal d.1, d.2)

-- a spelled number is read
pub number_of-decimal : (n : ℕ) → n < 2 ^ 64 → number_of (decimal n) ≡ Some n
unfolding number_of
number_of-decimal n lt =
    let d : all_ascii_digits (decimal n) ≡ true = digits_decimal own n lt in
    let v : read_on 0 (decimal n) ≡ n = digits_value-decimal own n lt in
    let some : (length (decimal n) == 0) ≡ false = grind (arith, nat_tests, decimal_nonempty n lt) in
    let read : digits_from 0 (decimal n) ≡ Some (read_on 0 (decimal n)) = digits-complete 0 (decimal n) d (rw v lt) in
    let lead : ((slice_index (decimal n) 0 == 48) && nat_lt 1 (length (decimal n))) ≡ false = no_lead n lt in
    rw (some, lead, read, v) refl
  where
    no_lead : (n : ℕ) → n < 2 ^ 64 → ((slice_index (decimal n) 0 == 48) && nat_lt 1 (length (decimal n))) ≡ false
    no_lead zero lt = rw (decimal_digit 0 (omega arith)) refl
    no_lead (suc n) lt = grind (arith, nat_tests, first_decimal (suc n) (omega arith) lt)

-- if a word is read as a number of a range, then it spells a number that is in the range and below 2^64
pub range_of-sound : (lowest limit : ℕ) (w : List ℕ) → IfRead (range_of lowest limit w) (λ n. (w ≡ decimal n) × (n < 2 ^ 64) × (lowest ≤ n) × (n < limit))
unfolding range_of
range_of-sound lowest limit w =
    read_bind _ _ _ (read_or _ _ _ (number_of-sound w)) (λ n p. read_cond (nat_le lowest n && nat_lt n limit) _ _ _ (λ t. read_ok _ _ (p.0, p.1, grind (arith, nat_tests), grind (arith, nat_tests))) (λ f. read_err _ _))

-- if the next word is read as a number, then it spells a number below 2^64
pub number_at-sound : (ws : List (List ℕ)) → IfRead (number_at ws) (λ x. (ws ≡ decimal x.0 ∷ x.1) × (x.0 < 2 ^ 64))
unfolding number_at word_at
number_at-sound [] = read_err _ _
number_at-sound (w ∷ ws) =
    read_bind _ _ _ (read_or _ _ _ (number_of-sound w)) (λ n p. read_ok _ _ (ap (λ (v : List ℕ). v ∷ ws) p.0, p.1))

-- if the next word is read as a number of a range, then it spells a number that is in the range and below 2^64
pub range_at-sound : (lowest limit : ℕ) (ws : List (List ℕ)) → IfRead (range_at lowest limit ws) (λ x. (ws ≡ decimal x.0 ∷ x.1) × (x.0 < 2 ^ 64) × (lowest ≤ x.0) × (x.0 < limit))
unfolding range_at word_at
range_at-sound lowest limit [] = read_err _ _
range_at-sound lowest limit (w ∷ ws) =
    read_bind _ _ _ (range_of-sound lowest limit w) (λ n p. read_ok _ _ (ap (λ (v : List ℕ). v ∷ ws) p.0, p.1, p.2, p.3))

-- ---- what is spelled is read

-- if a number is in the range and below 2^64, then its word is read as that number
pub range_of-decimal : (lowest limit n : ℕ) → n < 2 ^ 64 → lowest ≤ n → n < limit → range_of lowest limit (decimal n) ≡ Ok n
unfolding range_of
range_of-decimal lowest limit n fits low high = rw (number_of-decimal n fits) (grind (arith, nat_tests))

-- if a number is below 2^64, then its word is read as that number, and the words behind it are left
pub number_at-decimal : (n : ℕ) (ws : List (List ℕ)) → n < 2 ^ 64 → number_at (decimal n ∷ ws) ≡ Ok (n, ws)
unfolding number_at word_at
number_at-decimal n ws fits = rw (number_of-decimal n fits) refl

-- if a number is in the range and below 2^64, then its word is read as that number, and the words behind it are left
pub range_at-decimal : (lowest limit n : ℕ) (ws : List (List ℕ)) → n < 2 ^ 64 → lowest ≤ n → n < limit → range_at lowest limit (decimal n ∷ ws) ≡ Ok (n, ws)
unfolding range_at word_at
range_at-decimal lowest limit n ws fits low high = rw (range_of-decimal lowest limit n fits low high) refl
