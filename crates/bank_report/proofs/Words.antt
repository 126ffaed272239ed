-- Lists of seven words.
use Rattle.std.proofs.Common.{ℕ, zero, suc, ◌≡◌, ◌<◌, ◌≤◌, Bool, true, false, List, [], ◌∷◌, length, map, drop, get_or, refl, sym, ap, ◌∙◌, arith}
use Rattle.std.specs.Prelude.{not}
use Rattle.std.specs.Str.{bytes_eq}
use Rattle.std.proofs.lemmas.List.{drop_all}
use Rattle.std.proofs.lemmas.Slice.Eq.{bytes_eq-Decides}

-- an element of a list, in the list of what a function makes of them
pub get_or-mapped : {A B : Type 0} (f : A → B) (xs : List A) (i : ℕ) (x : A) → i < length xs → x ≡ get_or xs i x → get_or (map f xs) i (f x) ≡ f x
get_or-mapped f [] i x h is = absurd (omega arith)
get_or-mapped f (y ∷ ys) zero x h is = ap f (sym is)
get_or-mapped f (y ∷ ys) (suc i) x h is = get_or-mapped f ys i x (omega arith) is

-- what a function makes of an element, in front of what it makes of those behind
pub mapped_next : {A B : Type 0} (f : A → B) (xs : List A) (i : ℕ) (x : A) (y : B) (rest : List B) → i < length xs → x ≡ get_or xs i x → f x ≡ y
    → map f (drop (suc i) xs) ≡ rest → map f (drop i xs) ≡ y ∷ rest
mapped_next f [] i x y rest h is e more = absurd (omega arith)
mapped_next f (w ∷ ws) zero x y rest h is e more = let first : f w ≡ y = ap f (sym is) ∙ e in cc (first, more)
mapped_next f (w ∷ ws) (suc i) x y rest h is e more = mapped_next f ws i x y rest (omega arith) is e more

-- if a place is past the end of a list, then mapping what is left of it gives nothing
pub mapped-none : {A B : Type 0} (f : A → B) (xs : List A) (i : ℕ) → length xs ≤ i → map f (drop i xs) ≡ []
mapped-none f xs i h = ap (map f) (drop_all i xs h)

-- two texts that are not found to differ are one
pub told_same : (xs ys : List ℕ) (r : Bool) → r ≡ not (bytes_eq xs ys) → r ≡ false → xs ≡ ys
told_same xs ys r is e = (bytes_eq-Decides xs ys).0 (one (bytes_eq xs ys) (sym is ∙ e))
  where
    one : (b : Bool) → not b ≡ false → b ≡ true
    one true h = refl
    one false h = absurd cc
