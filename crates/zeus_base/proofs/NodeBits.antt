-- What the operations on a byte with a bit for each node do to the rising list of the nodes.
use Rattle.std.specs.Prelude.{ℕ, zero, suc, Bool, true, false, not, ◌&&◌, ◌||◌, ◌==◌, ◌≡◌, ◌+◌, ◌*◌, ◌/◌, ◌%◌, ◌^◌, ◌<◌, min, max, List, [], ◌∷◌, length, Some, None, if◌then◌else◌, bit_and, bit_or, refl}
use Rattle.std.proofs.Common.{arith, sym, ap, ◌∙◌, zero-add, inl, inr}
use Rattle.std.specs.Int.{bit_at, bit_not, w8, trailing_zeros}
use Rattle.std.specs.Int.Count.{ones}
use Rattle.std.proofs.lemmas.Bool.{eq-eqb, ne_eqb, cases_eq, cases_lt}
use Rattle.std.proofs.lemmas.Bool.Decides.{nat_tests, same_from_decides, Decides-eqb}
use Rattle.std.proofs.lemmas.Slice.Eq.{bytes_eq-Decides}
use Rattle.std.proofs.lemmas.Nat.{ones_cat, or_of_8, and_le_l}
use Rattle.std.proofs.lemmas.Nat.Bits.{bit_at_lowest, bit_at-suc, bit_at-zero, bit_at-lt, bit_at_and, bit_at_or, bit_at_above, bit_at_set_same, bit_at_set_other, bit_at_clear_same, bit_at_clear_other, bit_at-trailing_zeros}
use Rattle.zeus_base.specs.Nodes.{same_nodes, has, with_node, without, meet, join, is_subset, least}
use Rattle.zeus_base.specs.NodeLaws.{RisesFrom, IsRising, IsBelow, IsNodeSet, RisesFrom-lower, RisesFrom-with_node, RisesFrom-without, RisesFrom-meet, RisesFrom-join, has-below, has-with_node, has-without, has-meet, has-join, same_from_members, least-from_members, is_subset-has, is_subset-meet_right}
use Rattle.zeus_base.specs.Bits.{nodes_from, nodes_of, bits_of, bits_of-view, bits_of-nodes_of}

has-cond : (k n : ℕ) (t : Bool) (ms : List ℕ) → has k (if t then n ∷ ms else ms) ≡ ((t && (k == n)) || has k ms)
unfolding has
has-cond k n true ms = refl
has-cond k n false ms = refl

length-cond : (n : ℕ) (r : ℕ) (ms : List ℕ) → r < 2 → length (if r == 1 then n ∷ ms else ms) ≡ length ms + r
length-cond n zero ms h = omega arith
length-cond n (suc zero) ms h = omega arith
length-cond n (suc (suc r)) ms h = absurd (omega arith)

RisesFrom-cond : (n : ℕ) (t : Bool) (ms : List ℕ) → RisesFrom (suc n) ms → RisesFrom n (if t then n ∷ ms else ms)
unfolding RisesFrom
RisesFrom-cond n true ms r = (omega arith, r)
RisesFrom-cond n false ms r = RisesFrom-lower n (suc n) ms (omega arith) r

RisesFrom-nodes_from : (w n bits : ℕ) → RisesFrom n (nodes_from w n bits)
unfolding nodes_from
RisesFrom-nodes_from zero n bits = unfold RisesFrom in tt
RisesFrom-nodes_from (suc w) n bits =
    RisesFrom-cond n (bits % 2 == 1) (nodes_from w (suc n) (bits / 2)) (RisesFrom-nodes_from w (suc n) (bits / 2))

IsBelow-nodes_from : (w n bits k : ℕ) → has k (nodes_from w n bits) ≡ true → k < n + w
unfolding nodes_from
IsBelow-nodes_from zero n bits k h =
    let none : has k [] ≡ false = unfold has in refl in
    absurd cc
IsBelow-nodes_from (suc w) n bits k h =
    let rest = IsBelow-nodes_from w (suc n) (bits / 2) k in
    let parts = has-cond k n (bits % 2 == 1) (nodes_from w (suc n) (bits / 2)) in
    grind (arith, nat_tests)

has-nodes_from : (w n bits i : ℕ) → bits < 2 ^ w → has (n + i) (nodes_from w n bits) ≡ (bit_at bits i == 1)
unfolding nodes_from
has-nodes_from zero n bits i h =
    let none : bits ≡ 0 = omega arith in
    let nothing : has (n + i) [] ≡ false = unfold has in refl in
    rw (none, bit_at-zero i) nothing
has-nodes_from (suc w) n bits zero h =
    let rest : has n (nodes_from w (suc n) (bits / 2)) ≡ false = has-below n (suc n) (nodes_from w (suc n) (bits / 2)) (RisesFrom-nodes_from w (suc n) (bits / 2)) (omega arith) in
    rw (has-cond) (grind (arith, nat_tests, bit_at_lowest bits))
has-nodes_from (suc w) n bits (suc i) h =
    let low : bits / 2 < 2 ^ w = omega arith in
    let rest = has-nodes_from w (suc n) (bits / 2) i low in
    rw (has-cond, bit_at-suc bits i) (grind (arith, nat_tests))

ones-digit : (r : ℕ) → r < 2 → ones r ≡ r
unfolding ones
ones-digit zero h = refl
ones-digit (suc zero) h = refl
ones-digit (suc (suc r)) h = absurd (omega arith)

length-nodes_from : (w n bits : ℕ) → bits < 2 ^ w → length (nodes_from w n bits) ≡ ones bits
unfolding nodes_from
length-nodes_from zero n bits h =
    let none : bits ≡ 0 = omega arith in
    rw (none, ones-digit 0 (omega arith)) refl
length-nodes_from (suc w) n bits h =
    let low : bits / 2 < 2 ^ w = omega arith in
    let rest : length (nodes_from w (suc n) (bits / 2)) ≡ ones (bits / 2) = length-nodes_from w (suc n) (bits / 2) low in
    let again : bits / 2 * 2 ^ 1 + bits % 2 ≡ bits = omega arith in
    let cut : ones bits ≡ ones (bits / 2) + ones (bits % 2) = rw again at (ones_cat 1 (bits / 2) (bits % 2) (omega arith)) in
    rw (length-cond n (bits % 2) (nodes_from w (suc n) (bits / 2)) (omega arith), cut, ones-digit (bits % 2) (omega arith), rest) refl

-- ---- the byte and its nodes

-- the nodes of a byte rise from one to the next
pub IsRising-nodes_of : (bits : ℕ) → IsRising (nodes_of bits)
unfolding nodes_of
IsRising-nodes_of bits = RisesFrom-nodes_from 8 0 bits

-- the nodes of a byte are below 8
pub IsBelow-nodes_of : (bits : ℕ) → IsBelow 8 (nodes_of bits)
unfolding nodes_of
IsBelow-nodes_of bits = λ k h. IsBelow-nodes_from 8 0 bits k h

-- the nodes of a byte are a set of nodes: they rise, and are below 8
pub IsNodeSet-nodes_of : (bits : ℕ) → IsNodeSet (nodes_of bits)
IsNodeSet-nodes_of bits = record { rising = IsRising-nodes_of bits; below = IsBelow-nodes_of bits }

-- a number is a node of a byte exactly if the byte has that bit set
pub has-nodes_of : (k bits : ℕ) → bits < 2 ^ 8 → has k (nodes_of bits) ≡ (bit_at bits k == 1)
unfolding nodes_of
has-nodes_of k bits h = rw (zero-add k) at (has-nodes_from 8 0 bits k h)

-- a byte has as many nodes as bits that are set
pub length-nodes_of : (bits : ℕ) → bits < 2 ^ 8 → length (nodes_of bits) ≡ ones bits
unfolding nodes_of
length-nodes_of bits h = length-nodes_from 8 0 bits h

-- the byte 0 has no node
pub nodes_of-zero : nodes_of 0 ≡ []
unfolding nodes_of nodes_from
nodes_of-zero = refl

-- a byte is known by which nodes it has
by_members : (bits : ℕ) (ms : List ℕ) → bits < 2 ^ 8 → IsRising ms → ((k : ℕ) → (bit_at bits k == 1) ≡ has k ms) → nodes_of bits ≡ ms
by_members bits ms h r f =
    same_from_members 0 0 (nodes_of bits) ms (IsRising-nodes_of bits) r (λ k. has-nodes_of k bits h ∙ f k)

max_digit : (a b : ℕ) → a < 2 → b < 2 → (max a b == 1) ≡ ((a == 1) || (b == 1))
max_digit a b h g = grind (arith, nat_tests)

min_digit : (a b : ℕ) → a < 2 → b < 2 → (min a b == 1) ≡ ((a == 1) && (b == 1))
min_digit a b h g = grind (arith, nat_tests)

-- the nodes of the bitwise "or" of two bytes are the union of their nodes
pub nodes_of-or : (a b : ℕ) → a < 2 ^ 8 → b < 2 ^ 8 → nodes_of (bit_or a b) ≡ join (nodes_of a) (nodes_of b)
nodes_of-or a b h g =
    by_members (bit_or a b) (join (nodes_of a) (nodes_of b)) (or_of_8 a b h g) (RisesFrom-join 0 (nodes_of a) (nodes_of b) (IsRising-nodes_of a) (IsRising-nodes_of b)) (λ k.
    rw (has-join k (nodes_of a) (nodes_of b), has-nodes_of k a h, has-nodes_of k b g, bit_at_or a b k) (max_digit (bit_at a k) (bit_at b k) (bit_at-lt a k) (bit_at-lt b k)))

-- the nodes of the bitwise "and" of two bytes are the intersection of their nodes
pub nodes_of-and : (a b : ℕ) → a < 2 ^ 8 → b < 2 ^ 8 → nodes_of (bit_and a b) ≡ meet (nodes_of a) (nodes_of b)
nodes_of-and a b h g =
    let fits : bit_and a b < 2 ^ 8 = omega (arith, and_le_l a b) in
    by_members (bit_and a b) (meet (nodes_of a) (nodes_of b)) fits (RisesFrom-meet 0 (nodes_of a) (nodes_of b) (IsRising-nodes_of a)) (λ k.
    rw (has-meet k (nodes_of a) (nodes_of b), has-nodes_of k a h, has-nodes_of k b g, bit_at_and a b k) (min_digit (bit_at a k) (bit_at b k) (bit_at-lt a k) (bit_at-lt b k)))

set_digit : (a k n : ℕ) → n < 8 → (bit_at (bit_or a (1 * 2 ^ n % 2 ^ 8)) k == 1) ≡ ((k == n) || (bit_at a k == 1))
set_digit a k n h =
    elim (cases_eq k n) [
      | inl same ↦ rw (same, bit_at_set_same w8 a n h, eq-eqb n n refl) refl
      | inr other ↦ rw (bit_at_set_other w8 a n h k other, ne_eqb k n other) refl
    ]

-- if bit n of a byte is set, then its nodes are those from before with n
pub nodes_of-set : (a n : ℕ) → a < 2 ^ 8 → n < 8 → nodes_of (bit_or a (1 * 2 ^ n % 2 ^ 8)) ≡ with_node n (nodes_of a)
nodes_of-set a n h g =
    let fits : bit_or a (1 * 2 ^ n % 2 ^ 8) < 2 ^ 8 = or_of_8 a (1 * 2 ^ n % 2 ^ 8) h (omega arith) in
    by_members (bit_or a (1 * 2 ^ n % 2 ^ 8)) (with_node n (nodes_of a)) fits (RisesFrom-with_node 0 n (nodes_of a) (omega arith) (IsRising-nodes_of a)) (λ k.
    rw (has-with_node k n (nodes_of a), has-nodes_of k a h) (set_digit a k n g))

clear_digit : (a k n : ℕ) → a < 2 ^ 8 → n < 8 → (bit_at (bit_and a (bit_not w8 (1 * 2 ^ n % 2 ^ 8))) k == 1) ≡ (not (k == n) && (bit_at a k == 1))
clear_digit a k n f h =
    elim (cases_eq k n) [
      | inl same ↦ rw (same, bit_at_clear_same w8 a n h, eq-eqb n n refl) refl
      | inr other ↦ elim (cases_lt k 8) [
        | inl low ↦ rw (bit_at_clear_other w8 a n h k low other, ne_eqb k n other) refl
        | inr high ↦
            let fits : bit_and a (bit_not w8 (1 * 2 ^ n % 2 ^ 8)) < 2 ^ 8 = omega (arith, and_le_l a (bit_not w8 (1 * 2 ^ n % 2 ^ 8))) in
            rw (bit_at_above (bit_and a (bit_not w8 (1 * 2 ^ n % 2 ^ 8))) 8 k fits high, ne_eqb k n other, bit_at_above a 8 k f high) refl
      ]
    ]

-- if bit n of a byte is cleared, then its nodes are those from before without n
pub nodes_of-clear : (a n : ℕ) → a < 2 ^ 8 → n < 8 → nodes_of (bit_and a (bit_not w8 (1 * 2 ^ n % 2 ^ 8))) ≡ without n (nodes_of a)
nodes_of-clear a n h g =
    let fits : bit_and a (bit_not w8 (1 * 2 ^ n % 2 ^ 8)) < 2 ^ 8 = omega (arith, and_le_l a (bit_not w8 (1 * 2 ^ n % 2 ^ 8))) in
    by_members (bit_and a (bit_not w8 (1 * 2 ^ n % 2 ^ 8))) (without n (nodes_of a)) fits (RisesFrom-without 0 n (nodes_of a) (IsRising-nodes_of a)) (λ k.
    rw (has-without k n (nodes_of a), has-nodes_of k a h) (clear_digit a k n h g))

-- the byte 0 has no least node
pub least-zero : (a : ℕ) → a ≡ 0 → least (nodes_of a) ≡ None
unfolding least
least-zero a is = ap (λ (b : ℕ). least (nodes_of b)) is ∙ ap least nodes_of-zero

-- the least node of a byte above 0 is the number of its zeros below the lowest set bit
pub least-nodes_of : (a : ℕ) → 0 < a → a < 2 ^ 8 → least (nodes_of a) ≡ Some (trailing_zeros w8 a)
least-nodes_of a h g =
    let lowest = bit_at-trailing_zeros w8 a h g in
    let t = trailing_zeros w8 a in
    least-from_members 0 t (nodes_of a) (IsRising-nodes_of a) (rw (has-nodes_of t a g, lowest.1) refl) (λ k l. rw (has-nodes_of k a g, lowest.2 k l) refl)

-- if a byte has no node, then it is 0
pub nodes_of-empty : (a : ℕ) → a < 2 ^ 8 → nodes_of a ≡ [] → a ≡ 0
nodes_of-empty a h is = sym (bits_of-view a [] is h) ∙ unfold bits_of in refl

is_subset-false : (a b : ℕ) → a < 2 ^ 8 → b < 2 ^ 8 → is_subset (nodes_of a) (nodes_of b) ≡ true → bit_and a b ≡ a
is_subset-false a b h g s =
    let fits : bit_and a b < 2 ^ 8 = omega (arith, and_le_l a b) in
    let kept : meet (nodes_of a) (nodes_of b) ≡ nodes_of a =
    same_from_members 0 0 (meet (nodes_of a) (nodes_of b)) (nodes_of a) (RisesFrom-meet 0 (nodes_of a) (nodes_of b) (IsRising-nodes_of a)) (IsRising-nodes_of a) (λ k. grind (arith, has-meet k (nodes_of a) (nodes_of b), is_subset-has k (nodes_of a) (nodes_of b) s)) in
    sym (bits_of-nodes_of (bit_and a b) fits) ∙ (ap bits_of (nodes_of-and a b h g ∙ kept) ∙ bits_of-nodes_of a h)

-- the "and" of two bytes is the first byte exactly if its nodes lie in those of the second
pub is_subset-nodes_of : (a b : ℕ) → a < 2 ^ 8 → b < 2 ^ 8 → (bit_and a b == a) ≡ is_subset (nodes_of a) (nodes_of b)
is_subset-nodes_of a b h g =
    let one : bit_and a b ≡ a → is_subset (nodes_of a) (nodes_of b) ≡ true =
    λ e. rw (sym (nodes_of-and a b h g) ∙ ap nodes_of e) at (is_subset-meet_right (nodes_of a) (nodes_of b)) in
    let other = is_subset-false a b h g in
    grind (arith, nat_tests)

-- two bytes are equal exactly if they have the same nodes
pub same_nodes-nodes_of : (a b : ℕ) → a < 2 ^ 8 → b < 2 ^ 8 → (a == b) ≡ same_nodes (nodes_of a) (nodes_of b)
same_nodes-nodes_of a b h g =
    let tells = bytes_eq-Decides (nodes_of a) (nodes_of b) in
    same_from_decides (a == b) (same_nodes (nodes_of a) (nodes_of b)) (Decides-eqb a b) (λ t. sym (bits_of-nodes_of a h) ∙ (ap bits_of (tells.0 t) ∙ bits_of-nodes_of b g), λ is. tells.1 (ap nodes_of is))
