-- Laws of the equality of values, of texts and of sets of nodes.
use Rattle.std.specs.Prelude.{ℕ, true, ◌≡◌, ◌↔◌, List, refl}
use Rattle.std.proofs.Common.{ap}
use Rattle.std.proofs.lemmas.Bool.{eqb-true, eq-eqb, false≢true}
use Rattle.std.proofs.lemmas.Slice.Eq.{bytes_eq-Decides}
use Rattle.zeus_base.specs.declared.value.Value.{Value}
use Rattle.zeus_base.specs.declared.value.Value.TheVariants.{Num, Text}
use Rattle.zeus_base.specs.Nodes.{same_nodes}
use Rattle.zeus_base.specs.Texts.{same_text}
use Rattle.zeus_base.specs.Values.{same_value}

-- if the test says that two sets of nodes are one, then they are equal
pub same_nodes-true : (ms ns : List ℕ) → same_nodes ms ns ≡ true → ms ≡ ns
same_nodes-true ms ns h = (bytes_eq-Decides ms ns).0 h

-- if two sets of nodes are equal, then the test says that they are one
pub same_nodes-from : (ms ns : List ℕ) → ms ≡ ns → same_nodes ms ns ≡ true
same_nodes-from ms ns h = (bytes_eq-Decides ms ns).1 h

-- the test is true exactly if the two sets of nodes are equal
pub same_nodes-decides : (ms ns : List ℕ) → (same_nodes ms ns ≡ true) ↔ (ms ≡ ns)
same_nodes-decides ms ns = (same_nodes-true ms ns, same_nodes-from ms ns)

-- if the test says that two texts are one, then they are equal
pub same_text-true : (s t : List ℕ) → same_text s t ≡ true → s ≡ t
same_text-true s t h = (bytes_eq-Decides s t).0 h

-- if two texts are equal, then the test says that they are one
pub same_text-from : (s t : List ℕ) → s ≡ t → same_text s t ≡ true
same_text-from s t h = (bytes_eq-Decides s t).1 h

-- if the test says that two values are one, then they are equal
pub same_value-true : (a b : Value) → same_value a b ≡ true → a ≡ b
unfolding same_value
same_value-true (Num m) (Num n) h = ap (λ (k : ℕ). Num k) (eqb-true m n h)
same_value-true (Num m) (Text t) h = absurd (false≢true h)
same_value-true (Text s) (Num n) h = absurd (false≢true h)
same_value-true (Text s) (Text t) h = ap (λ (k : List ℕ). Text k) (same_text-true s t h)

-- the test says that a value is the same as itself
pub same_value-refl : (a : Value) → same_value a a ≡ true
unfolding same_value
same_value-refl (Num m) = eq-eqb m m refl
same_value-refl (Text s) = same_text-from s s refl

-- if two values are equal, then the test says that they are one
pub same_value-from : (a b : Value) → a ≡ b → same_value a b ≡ true
same_value-from a b is = rw is (same_value-refl b)

-- the test is true exactly if the two values are equal
pub same_value-decides : (a b : Value) → (same_value a b ≡ true) ↔ (a ≡ b)
same_value-decides a b = (same_value-true a b, same_value-from a b)
