-- Bytes cut at a separator, and put together again.
use Rattle.std.specs.Prelude.{◌≡◌, ℕ, List, [], ◌∷◌, ◌++◌, Option, Some, None}
use Rattle.std.proofs.Common.{Bor}
unfoldable pub use Rattle.zeus_model.specs.Words.{with_byte, cut}

-- the parts of what is left, if anything is
unfoldable pub parts_left : ℕ → Option (Bor (List ℕ)) → List (List ℕ)
parts_left d None = []
parts_left d (Some bytes) = cut d bytes.now

-- parts with the separator between each two
unfoldable pub joined : ℕ → List (List ℕ) → List ℕ
joined d [] = []
joined d (p ∷ []) = p
joined d (p ∷ q ∷ ps) = p ++ d ∷ joined d (q ∷ ps)

-- the first part was taken, if any was left
abbrev pub IsNextPart : Option (Bor (List ℕ)) → List (List ℕ) → List (List ℕ) → Type 0
IsNextPart None old new = (old ≡ []) × (new ≡ old)
IsNextPart (Some part) old new = old ≡ part.now ∷ new

-- the first part, if any is left
abbrev pub IsFirstPart : Option (Bor (List ℕ)) → List (List ℕ) → Type 0
IsFirstPart None parts = parts ≡ []
IsFirstPart (Some part) parts = (others : List (List ℕ)) × (parts ≡ part.now ∷ others)
