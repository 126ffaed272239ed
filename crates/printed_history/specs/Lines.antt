-- The lines of a text by their first bytes.
use Rattle.std.specs.Prelude.{ℕ, Bool, false, ◌==◌, List, [], ◌∷◌}
use Rattle.std.specs.List.{filter}
unfoldable pub use Rattle.zeus_model.specs.Words.{cut, with_byte}

-- whether a line begins with the byte
unfoldable pub begins_with : ℕ → List ℕ → Bool
begins_with b [] = false
begins_with b (c ∷ cs) = c == b

-- the lines of a text that begin with the byte, in order; byte 10 ends a line
abbrev pub lines_with : ℕ → List ℕ → List (List ℕ)
lines_with b text = filter (begins_with b) (cut 10 text)
