-- Members of a list that is two lists one after the other.
use Rattle.std.specs.Prelude.{List, [], ◌∷◌, ◌++◌, ◌⊎◌}
use Rattle.std.proofs.Common.{inl, inr}
use Rattle.zeus_model.specs.In.{In, here, there}

-- what is in the left list is in both, one after the other
pub In-append_left : {A : Type 0} (a : A) (xs ys : List A) → In a xs → In a (xs ++ ys)
In-append_left a [] ys m = elim m [ ]
In-append_left a (x ∷ xs) ys (here _ _ e) = here x (xs ++ ys) e
In-append_left a (x ∷ xs) ys (there _ _ m) = there x (xs ++ ys) (In-append_left a xs ys m)

-- what is in the right list is in both, one after the other
pub In-append_right : {A : Type 0} (a : A) (xs ys : List A) → In a ys → In a (xs ++ ys)
In-append_right a [] ys m = m
In-append_right a (x ∷ xs) ys m = there x (xs ++ ys) (In-append_right a xs ys m)

-- what is in two lists, one after the other, is in one of them
pub In-append : {A : Type 0} (a : A) (xs ys : List A) → In a (xs ++ ys) → In a xs ⊎ In a ys
In-append a [] ys m = inr m
In-append a (x ∷ xs) ys (here _ _ e) = inl (here x xs e)
In-append a (x ∷ xs) ys (there _ _ m) = elim (In-append a xs ys m) [ inl l ↦ inl (there x xs l) | inr r ↦ inr r ]
