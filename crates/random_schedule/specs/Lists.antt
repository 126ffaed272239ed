-- Lists of one element or of none.
use Rattle.std.specs.Prelude.{Bool, List, [], ◌∷◌, Option, Some, None, if◌then◌else◌}

-- the element where the test holds
abbrev pub if_passes : {A : Type 0} → Bool → A → List A
if_passes test a = if test then a ∷ [] else []

-- the element where there is one
unfoldable pub if_there : {A : Type 0} → Option A → List A
if_there None = []
if_there (Some a) = a ∷ []
