-- Which nodes a byte has as a set, told by how large the byte is.
use Rattle.std.proofs.Common.{◌≡◌, ℕ, zero, suc, ◌+◌, ◌/◌, ◌%◌, ◌^◌, ◌<◌, ◌≤◌, Bool, true, false, not, ◌&&◌, ◌||◌, nat_lt, ◌==◌, if◌then◌else◌, List, ◌∷◌, refl, ap, ◌∙◌, arith, zero-add}
use Rattle.std.specs.List.{list_all}
use Rattle.std.proofs.lemmas.Bool.{lt-ltb}
use Rattle.std.proofs.lemmas.Bool.Decides.{nat_tests}
use Rattle.std.proofs.lemmas.Nat.{pow_pos}
use Rattle.zeus_base.specs.Bits.{nodes_from, nodes_of, bits_of, bits_of-view}
use Rattle.zeus_wire.specs.Ranges.{IsSet}

list_all-cond : (p : ℕ → Bool) (t : Bool) (n : ℕ) (ns : List ℕ) → list_all p (if t then n ∷ ns else ns) ≡ ((not t || p n) && list_all p ns)
list_all-cond p true n ns = refl
list_all-cond p false n ns = refl

none_step : (n k bits : ℕ) → k ≤ n → ((not (bits % 2 == 1) || nat_lt n k) && nat_lt (bits / 2) 1) ≡ nat_lt bits 1
none_step n k bits h = grind (arith, nat_tests)

-- no node below k, so no bit
none_below : (w n k bits : ℕ) → k ≤ n → bits < 2 ^ w → list_all (λ m. nat_lt m k) (nodes_from w n bits) ≡ nat_lt bits 1
unfolding nodes_from
none_below zero n k bits h fits = let none : bits ≡ 0 = omega arith in rw none refl
none_below (suc w) n k bits h fits =
    let rest : list_all (λ m. nat_lt m k) (nodes_from w (suc n) (bits / 2)) ≡ nat_lt (bits / 2) 1 = none_below w (suc n) k (bits / 2) (omega arith) (omega arith) in
    rw (list_all-cond (λ m. nat_lt m k) (bits % 2 == 1) n (nodes_from w (suc n) (bits / 2)), rest) (none_step n k bits h)

some_step : (n j p bits : ℕ) → ((not (bits % 2 == 1) || nat_lt n (n + suc j)) && nat_lt (bits / 2) p) ≡ nat_lt bits (p + p)
some_step n j p bits = grind (arith, nat_tests)

some_below : (w j n bits : ℕ) → bits < 2 ^ w → list_all (λ m. nat_lt m (n + j)) (nodes_from w n bits) ≡ nat_lt bits (2 ^ j)
unfolding nodes_from
some_below w zero n bits fits = none_below w n (n + 0) bits (omega arith) fits
some_below zero (suc j) n bits fits = let none : bits ≡ 0 = omega arith in rw (none, lt-ltb 0 (2 ^ suc j) (pow_pos (suc j))) refl
some_below (suc w) (suc j) n bits fits =
    let same : n + suc j ≡ suc n + j = omega arith in
    let double : 2 ^ suc j ≡ 2 ^ j + 2 ^ j = omega arith in
    let rest : list_all (λ m. nat_lt m (n + suc j)) (nodes_from w (suc n) (bits / 2)) ≡ nat_lt (bits / 2) (2 ^ j) = rw same (some_below w j (suc n) (bits / 2) (omega arith)) in
    rw (list_all-cond (λ m. nat_lt m (n + suc j)) (bits % 2 == 1) n (nodes_from w (suc n) (bits / 2)), rest, double) (some_step n j (2 ^ j) bits)

-- each node of a byte is below k exactly where the byte is below 2 ^ k
pub all_below : (k bits : ℕ) → bits < 2 ^ 8 → list_all (λ m. nat_lt m k) (nodes_of bits) ≡ nat_lt bits (2 ^ k)
unfolding nodes_of
all_below k bits fits = rw zero-add at (some_below 8 k 0 bits fits)

-- the set of a byte is that of its byte
pub set_of_byte : (bits : ℕ) (ns : List ℕ) → nodes_of bits ≡ ns → bits < 2 ^ 8 → IsSet ns × (bits_of ns ≡ bits)
set_of_byte bits ns is fits =
    let byte : bits_of ns ≡ bits = bits_of-view bits ns is fits in
    (record { byte = omega arith; back = ap nodes_of byte ∙ is }, byte)
