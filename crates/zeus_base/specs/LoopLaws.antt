-- A list that a loop makes, one piece after another: what is made, with what the rest makes, stays the whole. The loop
-- goes over a list, or over the numbers below a bound.
use Rattle.std.specs.Prelude.{ℕ, suc, ◌≡◌, ◌+◌, ◌-◌, ◌<◌, ◌≤◌, List, [], ◌∷◌, ◌++◌, length, drop, refl}
use Rattle.std.proofs.Common.{arith, add-one, append_assoc}
use Rattle.std.proofs.Math.ListN.{get_or, drop_of_length-le}
use Rattle.std.proofs.lemmas.List.{drop_more, append-nil}
use Rattle.zeus_base.specs.Tables.{below, numbers_from}

-- the next of the elements that are left
pub one_more : {X Y : Type 0} (F : List X → List Y) (g : X → List Y) → ((x : X) (xs : List X) → F (x ∷ xs) ≡ g x ++ F xs) → (xs : List X) (i : ℕ) (x : X) (out after whole : List Y) → i < length xs → x ≡ get_or xs i x
    → out ++ F (drop i xs) ≡ whole → after ≡ out ++ g x → after ++ F (drop (i + 1) xs) ≡ whole
one_more F g cons xs i x out after whole h here kept added =
    let e = append_assoc out (g x) (F (drop (i + 1) xs)) in
    let f = cons x (drop (i + 1) xs) in
    let s = drop_more xs i x h in
    cc (e, f, s)

-- no element is left
pub all_done : {X Y : Type 0} (F : List X → List Y) → F [] ≡ [] → (xs : List X) (i : ℕ) (out whole : List Y) → length xs ≤ i → out ++ F (drop i xs) ≡ whole → out ≡ whole
all_done F nil xs i out whole h kept =
    let s = drop_of_length-le xs h in
    let e = append-nil out in
    cc (s, e, nil)

-- ---- the numbers that are left

-- if i is below n, then the numbers from i to below n are i and those from i + 1
pub numbers-next : (i n : ℕ) → i < n → numbers_from i (n - i) ≡ i ∷ numbers_from (i + 1) (n - (i + 1))
unfolding numbers_from
numbers-next i n h =
    let one : n - i ≡ suc (n - (i + 1)) = omega arith in
    rw (one, add-one) refl

-- if i is not below n, then there is no number from i to below n
pub numbers-none : (i n : ℕ) → n ≤ i → numbers_from i (n - i) ≡ []
unfolding numbers_from
numbers-none i n h =
    let none : n - i ≡ 0 = omega arith in
    rw none refl

-- the numbers from 0 to below n are the numbers below n
pub numbers-all : (n : ℕ) → numbers_from 0 (n - 0) ≡ below n
numbers-all n =
    let all : n - 0 ≡ n = omega arith in
    rw all refl

-- the next of the numbers that are left
pub count_more : {Y : Type 0} (F : List ℕ → List Y) (g : ℕ → List Y) → ((x : ℕ) (xs : List ℕ) → F (x ∷ xs) ≡ g x ++ F xs) → (i n : ℕ) (out after whole : List Y) → i < n
    → out ++ F (numbers_from i (n - i)) ≡ whole → after ≡ out ++ g i → after ++ F (numbers_from (i + 1) (n - (i + 1))) ≡ whole
count_more F g cons i n out after whole h kept added =
    let next = numbers-next i n h in
    let e = append_assoc out (g i) (F (numbers_from (i + 1) (n - (i + 1)))) in
    let f = cons i (numbers_from (i + 1) (n - (i + 1))) in
    cc (next, e, f)

-- no number is left
pub count_done : {Y : Type 0} (F : List ℕ → List Y) → F [] ≡ [] → (i n : ℕ) (out whole : List Y) → n ≤ i → out ++ F (numbers_from i (n - i)) ≡ whole → out ≡ whole
count_done F nil i n out whole h kept =
    let none = numbers-none i n h in
    let e = append-nil out in
    cc (none, e, nil)
