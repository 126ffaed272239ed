-- Members of lists, cuts of lists, and tables by index.
use Rattle.std.specs.Prelude.{ℕ, zero, suc, ◌≡◌, ◌≢◌, ◌+◌, ◌-◌, ◌<◌, ◌≤◌, true, List, [], ◌∷◌, ◌++◌, length, take, map, replicate, ◌⊎◌}
use Rattle.std.proofs.Common.{arith, refl, ap, sym, inl, inr}
use Rattle.std.proofs.lemmas.Bool.{cases_eq}
use Rattle.std.proofs.lemmas.Bool.Decides.{nat_tests}
use Rattle.zeus_base.specs.Nodes.{has}
use Rattle.zeus_base.specs.NodeLaws.{has-head, has-tail}
use Rattle.zeus_model.specs.In.{In, here, there}
use Rattle.zeus_model.specs.Tables.{nth, put, numbers_from}

-- ---- members

-- nothing is in the empty list
pub In-nothing : {A : Type 0} {P : Type 0} (a : A) → In a [] → P
In-nothing a m = elim m [ ]

-- what is in the front of a list is in the list
pub In-take : {A : Type 0} (a : A) (k : ℕ) (xs : List A) → In a (take k xs) → In a xs
In-take a zero xs m = elim m [ ]
In-take a (suc k) [] m = elim m [ ]
In-take a (suc k) (x ∷ xs) (here _ _ e) = here x xs e
In-take a (suc k) (x ∷ xs) (there _ _ m) = there x xs (In-take a k xs m)

-- the last element stands in a cut that is long enough
pub In-take_last : {A : Type 0} (a : A) (k : ℕ) (xs ys : List A) → length xs < k → In a (take k (xs ++ a ∷ ys))
In-take_last a zero xs ys h = absurd (omega arith)
In-take_last a (suc k) [] ys h = here a (take k ys) refl
In-take_last a (suc k) (x ∷ xs) ys h = there x (take k (xs ++ a ∷ ys)) (In-take_last a k xs ys (omega arith))

-- the front of the empty list is empty
pub take-none : {A : Type 0} (k : ℕ) → ◌≡◌ {A = List A} (take k []) []
take-none zero = refl
take-none (suc k) = refl

-- the front of two lists one after the other is the front of the first, then what is left of the count from the second
pub take-append : {A : Type 0} (k : ℕ) (xs ys : List A) → take k (xs ++ ys) ≡ take k xs ++ take (k - length xs) ys
take-append zero [] ys = refl
take-append zero (x ∷ xs) ys = let e : 0 - suc (length xs) ≡ 0 = omega arith in rw e refl
take-append (suc k) [] ys = let e : suc k - 0 ≡ suc k = omega arith in rw e refl
take-append {A = A} (suc k) (x ∷ xs) ys =
    let e : suc k - suc (length xs) ≡ k - length xs = omega arith in
    rw (e) (ap (λ (zs : List A). x ∷ zs) (take-append k xs ys))

-- ---- tables

-- each other index than the one written reads as before (the law of zeus_base, with its premise turned)
pub nth-put_other : {A : Type 0} (d : A) (xs : List A) (i j : ℕ) (v : A) → j ≢ i → nth d (put d xs i v) j ≡ nth d xs j
nth-put_other d xs i j v ne = Rattle.zeus_base.specs.TableLaws.nth-put_other d xs i j v (λ e. ne (sym e))

-- of two writes at one index the second alone is seen
pub put-put : {A : Type 0} (d : A) (xs : List A) (i : ℕ) (v w : A) → put d (put d xs i v) i w ≡ put d xs i w
unfolding put
put-put d [] zero v w = refl
put-put {A = A} d [] (suc i) v w = ap (λ (ys : List A). d ∷ ys) (put-put d [] i v w)
put-put d (x ∷ xs) zero v w = refl
put-put {A = A} d (x ∷ xs) (suc i) v w = ap (λ (ys : List A). x ∷ ys) (put-put d xs i v w)

-- a write does not make a list shorter
pub length-put : {A : Type 0} (d : A) (xs : List A) (i : ℕ) (v : A) → length xs ≤ length (put d xs i v)
unfolding put
length-put d [] i v = omega arith
length-put d (x ∷ xs) zero v = omega arith
length-put d (x ∷ xs) (suc i) v = omega (arith, length-put d xs i v)

-- ---- the numbers below a bound

-- each number from i to below i + n is among the n numbers from i
pub has-numbers_from : (k i n : ℕ) → i ≤ k → k < i + n → has k (numbers_from i n) ≡ true
unfolding numbers_from
has-numbers_from k i zero h g = absurd (omega arith)
has-numbers_from k i (suc n) h g =
    elim (cases_eq k i) [
      | inl same ↦ rw (same) (has-head i (numbers_from (suc i) n))
      | inr other ↦ has-tail k i (numbers_from (suc i) n) (has-numbers_from k (suc i) n (omega arith) (omega arith))
    ]

-- each of the n numbers from i is below i + n
pub has-numbers_bound : (k i n : ℕ) → has k (numbers_from i n) ≡ true → k < i + n
unfolding numbers_from has
has-numbers_bound k i zero h = absurd cc
has-numbers_bound k i (suc n) h =
    elim (cases_eq k i) [
      | inl same ↦ omega arith
      | inr other ↦ let rest : k < suc i + n = has-numbers_bound k (suc i) n (grind (arith, nat_tests)) in omega arith
    ]

-- a table of a function over the n numbers from i reads at index k the function at i + k
pub nth-map_numbers : {A : Type 0} (d : A) (f : ℕ → A) (i n k : ℕ) → k < n → nth d (map f (numbers_from i n)) k ≡ f (i + k)
unfolding nth numbers_from
nth-map_numbers d f i zero k h = absurd (omega arith)
nth-map_numbers d f i (suc n) zero h = let e : i + 0 ≡ i = omega arith in rw e refl
nth-map_numbers d f i (suc n) (suc k) h =
    let e : suc i + k ≡ i + suc k = omega arith in
    rw (← e) (nth-map_numbers d f (suc i) n k (omega arith))

-- a table of a function over n numbers has n elements
pub length-map_numbers : {A : Type 0} (f : ℕ → A) (i n : ℕ) → length (map f (numbers_from i n)) ≡ n
unfolding numbers_from
length-map_numbers f i zero = refl
length-map_numbers f i (suc n) = ap suc (length-map_numbers f (suc i) n)

-- any index of a list of one value repeated reads that value, or the default
pub nth-replicate : {A : Type 0} (d v : A) (n k : ℕ) → (nth d (replicate n v) k ≡ v) ⊎ (nth d (replicate n v) k ≡ d)
unfolding nth
nth-replicate d v zero k = inr refl
nth-replicate d v (suc n) zero = inl refl
nth-replicate d v (suc n) (suc k) = nth-replicate d v n k
