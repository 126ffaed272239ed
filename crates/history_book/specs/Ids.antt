-- Transactions in order.
use Rattle.std.specs.Prelude.{ℕ, Bool, true, false, List, [], ◌∷◌}

-- transactions in order, and how many more there is room for
pub record IdsState : Type 0 where
  pub ids : List ℕ
  pub room : ℕ

abbrev pub no_ids : IdsState
no_ids = record { ids = []; room = 0 }

-- a list of the one transaction, or of none
unfoldable pub listed : Bool → ℕ → List ℕ
listed true id = id ∷ []
listed false id = []

-- one if true
unfoldable pub one : Bool → ℕ
one true = 1
one false = 0
