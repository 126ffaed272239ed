-- Tables by index, lists of numbers, and the first that there is.
use Rattle.std.specs.Prelude.{ℕ, suc, Bool, List, [], ◌∷◌, Option, Some, None, if◌then◌else◌}
unfoldable pub use Rattle.zeus_base.specs.Tables.{nth, put, numbers_from}
pub use Rattle.zeus_base.specs.Tables.{below}

-- the first that there is
unfoldable pub or_else : {A : Type 0} → Option A → Option A → Option A
or_else None b = b
or_else (Some a) b = Some a

-- the value where the test holds
unfoldable pub where_true : {A : Type 0} → Bool → A → Option A
where_true test a = if test then Some a else None

-- what a function answers at the first element at which it answers
unfoldable pub first_of : {A B : Type 0} → (A → Option B) → List A → Option B
first_of f [] = None
first_of f (x ∷ xs) = or_else (f x) (first_of f xs)

-- how many elements pass the test before the first that does not
unfoldable pub front : {A : Type 0} → (A → Bool) → List A → ℕ
front passes [] = 0
front passes (x ∷ xs) = if passes x then suc (front passes xs) else 0
