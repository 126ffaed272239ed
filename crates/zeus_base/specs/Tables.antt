-- Tables by index that never end, where what stands past the end of the list is a default; and lists of numbers.
use Rattle.std.specs.Prelude.{ℕ, zero, suc, List, [], ◌∷◌}

-- the element at a place, or the default past the end
unfoldable pub nth : {A : Type 0} → A → List A → ℕ → A
nth d [] i = d
nth d (x ∷ xs) zero = x
nth d (x ∷ xs) (suc i) = nth d xs i

-- the table with another element at a place, filled up with the default where it was shorter
unfoldable pub put : {A : Type 0} → A → List A → ℕ → A → List A
put d [] zero v = v ∷ []
put d [] (suc i) v = d ∷ put d [] i v
put d (x ∷ xs) zero v = v ∷ xs
put d (x ∷ xs) (suc i) v = x ∷ put d xs i v

-- n numbers from i on
unfoldable pub numbers_from : ℕ → ℕ → List ℕ
numbers_from i zero = []
numbers_from i (suc n) = i ∷ numbers_from (suc i) n

-- the numbers below n
abbrev pub below : ℕ → List ℕ
below n = numbers_from 0 n
