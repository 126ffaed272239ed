-- Laws of the first that there is.
use Rattle.std.specs.Prelude.{ℕ, suc, ◌≡◌, ◌+◌, ◌<◌, List, ◌∷◌, Option, length, drop, refl}
use Rattle.std.proofs.Common.{add-one, drop-cons}
use Rattle.std.proofs.Math.ListN.{get_or}
use Rattle.zeus_model.specs.Tables.{first_of, or_else}

-- what a list gives is what its head gives, or else what its tail gives
pub first_of-cons : {A B : Type 0} (f : A → Option B) (x : A) (xs : List A) → first_of f (x ∷ xs) ≡ or_else (f x) (first_of f xs)
unfolding first_of
first_of-cons f x xs = refl

-- from a place on
pub first_of-at : {A B : Type 0} (f : A → Option B) (xs : List A) (i : ℕ) (x : A) → i < length xs → x ≡ get_or xs i x → first_of f (drop i xs) ≡ or_else (f x) (first_of f (drop (i + 1) xs))
first_of-at f xs i x h e =
    rw (add-one, drop-cons xs i x h, ← e) (first_of-cons f x (drop (suc i) xs))
