-- Which line of bytes is the first faulty one, and the kinds of a line as a whole. `IsText` says which bytes are a whole text.
use Rattle.std.specs.Prelude.{◌≡◌, ◌≢◌, ◌<◌, ◌-◌, ◌↔◌, ℕ, List}
use Rattle.zeus_model.specs.FirstFault.{first_lines, lines_ended}
use Rattle.zeus_model.specs.declared.fault.Kind.{Kind}
use Rattle.zeus_model.specs.declared.fault.Kind.TheVariants as kinds

-- the first n lines of the bytes are the first n lines of a text
pub record BeginsText (IsText : List ℕ → Type 0) (bytes : List ℕ) (n : ℕ) : Type 0 where
  pub text : List ℕ
  pub is : IsText text
  pub same : first_lines n text ≡ first_lines n bytes

-- line n is the first faulty one: fewer lines begin a text, and the first n begin none
pub record IsFirstFaultyLine (IsText : List ℕ → Type 0) (bytes : List ℕ) (n : ℕ) : Type 0 where
  pub before : (k : ℕ) → k < n → BeginsText IsText bytes k
  pub faulty : ¬ BeginsText IsText bytes n

-- line n is extra where the lines before it are a text, missing where they are all bytes, and wants its end where neither
-- holds and no byte 10 ends it
pub record IsKindOfFaultyLine (IsText : List ℕ → Type 0) (bytes : List ℕ) (n : ℕ) (kind : Kind) : Type 0 where
  pub extra : (kind ≡ kinds.Extra) ↔ IsText (first_lines (n - 1) bytes)
  pub missing : (kind ≡ kinds.Missing) ↔ (first_lines (n - 1) bytes ≡ bytes)
  pub line_end : (kind ≡ kinds.LineEnd) ↔ ((¬ IsText (first_lines (n - 1) bytes)) × (first_lines (n - 1) bytes ≢ bytes) × (lines_ended bytes < n))
