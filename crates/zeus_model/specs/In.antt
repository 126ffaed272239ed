-- Membership in a list.
use Rattle.std.specs.Prelude.{◌≡◌, List, ◌∷◌}

-- the element stands in the list
pub data In {A : Type 0} (a : A) : List A → Type 0 where
  here : (b : A) (bs : List A) → a ≡ b → In a (b ∷ bs)
  there : (b : A) (bs : List A) → In a bs → In a (b ∷ bs)
