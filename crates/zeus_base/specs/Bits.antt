-- A set of nodes as a byte with a bit for each node, and as the rising list of the nodes.
use Rattle.std.specs.Prelude.{ℕ, zero, suc, ◌≡◌, ◌+◌, ◌*◌, ◌/◌, ◌%◌, ◌^◌, ◌<◌, ◌==◌, List, [], ◌∷◌, if◌then◌else◌, refl}
use Rattle.std.proofs.Common.{arith, Bool, true, false, ap}
use Rattle.zeus_base.specs.declared.node_set.NodeSet.TheInside.{Inside}

-- the nodes from n on whose bits are set, the lowest of w bits being that of n
unfoldable pub nodes_from : ℕ → ℕ → ℕ → List ℕ
nodes_from zero n bits = []
nodes_from (suc w) n bits = if bits % 2 == 1 then n ∷ nodes_from w (suc n) (bits / 2) else nodes_from w (suc n) (bits / 2)

-- the nodes whose bits are set, in order
unfoldable pub nodes_of : ℕ → List ℕ
nodes_of bits = nodes_from 8 0 bits

-- the byte with a bit for each of the nodes
unfoldable pub bits_of : List ℕ → ℕ
bits_of [] = 0
bits_of (n ∷ ns) = 2 ^ n + bits_of ns

-- a number is twice its half, and what is left
double_half : (b : ℕ) → b ≡ b / 2 + b / 2 + b % 2
double_half b = omega arith

pow_double : (p b r : ℕ) → p * (b + b + r) ≡ (p + p) * b + p * r
pow_double p b r = grind arith

bits_of-cond : (t : Bool) (n : ℕ) (ns : List ℕ) → bits_of (if t then n ∷ ns else ns) ≡ (if t then 2 ^ n else 0) + bits_of ns
unfolding bits_of
bits_of-cond true n ns = refl
bits_of-cond false n ns = omega arith

one_bit : (p r : ℕ) → r < 2 → (if r == 1 then p else 0) ≡ p * r
one_bit p zero h = omega arith
one_bit p (suc zero) h = omega arith
one_bit p (suc (suc r)) h = absurd (omega arith)

lowest : (p b : ℕ) → (if b % 2 == 1 then p else 0) ≡ p * (b % 2)
lowest p b = one_bit p (b % 2) (omega arith)

bits_of-nodes_from : (w n bits : ℕ) → bits < 2 ^ w → bits_of (nodes_from w n bits) ≡ 2 ^ n * bits
unfolding nodes_from bits_of
bits_of-nodes_from zero n bits h = let none : bits ≡ 0 = omega arith in rw none (omega arith)
bits_of-nodes_from (suc w) n bits h =
    let double : 2 ^ suc w ≡ 2 ^ w + 2 ^ w = omega arith in
    let low : bits / 2 < 2 ^ w = omega arith in
    let again : bits ≡ bits / 2 + bits / 2 + bits % 2 = double_half bits in
    let next : 2 ^ suc n ≡ 2 ^ n + 2 ^ n = omega arith in
    rw (bits_of-cond, bits_of-nodes_from w (suc n) (bits / 2) low, lowest, next) (omega (arith, pow_double (2 ^ n) (bits / 2) (bits % 2), ap (λ (b : ℕ). 2 ^ n * b) again))

-- the byte gives the set back
pub bits_of-nodes_of : (bits : ℕ) → bits < 2 ^ 8 → bits_of (nodes_of bits) ≡ bits
unfolding nodes_of
bits_of-nodes_of bits h = rw (bits_of-nodes_from 8 0 bits h) (omega arith)

-- if a byte shows these nodes, then their bits are that byte
pub bits_of-view : (bits : ℕ) (ns : List ℕ) → nodes_of bits ≡ ns → bits < 2 ^ 8 → bits_of ns ≡ bits
bits_of-view bits ns is h = rw (← is) (bits_of-nodes_of bits h)

-- the set of these nodes, as it is kept
abbrev pub set_of : List ℕ → Inside
set_of ns = record { bits = bits_of ns }

-- the set made from the nodes of a byte is that byte again
pub set_of-nodes_of : (s : Inside) → s.bits < 2 ^ 8 → set_of (nodes_of s.bits) ≡ s
set_of-nodes_of s h = rw (bits_of-nodes_of s.bits h) refl
