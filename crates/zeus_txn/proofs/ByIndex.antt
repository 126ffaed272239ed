-- Tables by index where the index is in range.
use Rattle.std.proofs.Common.{ℕ, ◌≡◌, ◌+◌, ◌<◌, List, [], ◌∷◌, ◌++◌, length, get_or, map, take}
use Rattle.std.proofs.lemmas.List.{take_more, map-append}

-- the elements up to a place and the one that stands there
pub map-front : {A B : Type 0} (f : A → B) (xs : List A) (i : ℕ) (x : A) → i < length xs → x ≡ get_or xs i x → map f (take (i + 1) xs) ≡ map f (take i xs) ++ f x ∷ []
map-front f xs i x h is = rw (take_more xs i x h, ← is) (map-append f (take i xs) (x ∷ []))
