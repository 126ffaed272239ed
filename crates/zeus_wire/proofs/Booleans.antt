-- What tests that hold say of their parts.
use Rattle.std.proofs.Common.{◌≡◌, Bool, true, false, not, ◌&&◌, ◌||◌, ◌==◌, ℕ, refl, arith}
use Rattle.std.proofs.lemmas.Bool.Decides.{nat_tests}
use Rattle.std.proofs.lemmas.Bool.{false≢true}

-- both sides of an `and` that holds
pub both_true : (a b : Bool) → (a && b) ≡ true → (a ≡ true) × (b ≡ true)
both_true true b h = (refl, h)
both_true false b h = absurd (false≢true h)

-- what is not so is false
pub not_true : (b : Bool) → not b ≡ true → b ≡ false
not_true true h = absurd (false≢true h)
not_true false h = refl

-- a test of two numbers, one way and the other, beside others that fail
pub apart : (m n : ℕ) (a b c : Bool) → c ≡ false → (a || ((n == m) || b)) ≡ false → ((m == n) || c) ≡ false
apart m n a b c last h = grind (arith, nat_tests)

-- an object that is new among writes is new among the later ones
pub later_new : (m n : ℕ) (c : Bool) → ((m == n) || c) ≡ false → c ≡ false
later_new m n c h = grind arith

-- the object of an earlier write is not that of a new one
pub both_new : (m n : ℕ) (a c : Bool) → a ≡ false → ((m == n) || c) ≡ false → (not (a || ((n == m) || false)) && true) ≡ true
both_new m n a c first h = grind (arith, nat_tests)
