-- Numbers as words: decimal digits without a leading zero, below 2^64.
use Rattle.std.specs.Prelude.{ℕ, ◌+◌, ◌-◌, ◌*◌, ◌^◌, Bool, ◌&&◌, ◌==◌, nat_lt, nat_le, List, [], ◌∷◌, Option, Some, None, Result, Ok, Err, length, slice_index, if◌then◌else◌}
use Rattle.zeus_model.specs.declared.fault.Kind.{Kind}
use Rattle.zeus_model.specs.declared.fault.Kind.TheVariants.{Number, Range}
use Rattle.script_lang.specs.Reads.{◌>>=◌, or_fault, word_at}

-- a decimal digit
abbrev pub is_digit : ℕ → Bool
is_digit b = nat_le 48 b && nat_le b 57

-- digits read on behind a number, while the number is below 2^64
unfoldable pub digits_from : ℕ → List ℕ → Option ℕ
digits_from n [] = Some n
digits_from n (b ∷ bs) = if is_digit b && nat_lt (10 * n + (b - 48)) (2 ^ 64) then digits_from (10 * n + (b - 48)) bs else None

-- the number that a word is
unfoldable pub number_of : List ℕ → Option ℕ
number_of w = if length w == 0 then None else (if (slice_index w 0 == 48) && nat_lt 1 (length w) then None else digits_from 0 w)

-- the number that a word is, from the lowest on and below the limit
unfoldable pub range_of : ℕ → ℕ → List ℕ → Result ℕ Kind
range_of lowest limit w = do
  n ← or_fault (number_of w) Number
  if nat_le lowest n && nat_lt n limit then Ok n else Err Range

-- the next word as a number
unfoldable pub number_at : List (List ℕ) → Result (ℕ × List (List ℕ)) Kind
number_at ws = do
  w ← word_at ws
  n ← or_fault (number_of w.0) Number
  Ok (n, w.1)

-- the next word as a number of a range
unfoldable pub range_at : ℕ → ℕ → List (List ℕ) → Result (ℕ × List (List ℕ)) Kind
range_at lowest limit ws = do
  w ← word_at ws
  n ← range_of lowest limit w.0
  Ok (n, w.1)
