-- Whether a word is among others, from one to the next.
use Rattle.std.proofs.Common.{◌≡◌, ℕ, Bool, true, false, List, [], ◌∷◌, refl}
use Rattle.std.specs.Str.{bytes_eq}
use Rattle.zeus_model.specs.Words.{is_among}

pub is_among-found : (w v : List ℕ) (vs : List (List ℕ)) → bytes_eq w v ≡ true → is_among w (v ∷ vs) ≡ true
unfolding is_among
is_among-found w v vs h = rw h refl

pub is_among-other : (w v : List ℕ) (vs : List (List ℕ)) → bytes_eq w v ≡ false → is_among w (v ∷ vs) ≡ is_among w vs
unfolding is_among
is_among-other w v vs h = rw h refl

pub is_among-none : (w : List ℕ) → is_among w [] ≡ false
unfolding is_among
is_among-none w = refl
