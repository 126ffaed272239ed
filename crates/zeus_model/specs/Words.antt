-- Words of a line: where bytes are cut into them, and which of them are numbers, names and texts.
use Rattle.std.specs.Prelude.{ℕ, ◌+◌, ◌-◌, ◌*◌, ◌^◌, Bool, false, ◌&&◌, ◌||◌, ◌==◌, nat_lt, nat_le, List, [], ◌∷◌, length, slice_index, decimal, if◌then◌else◌}
use Rattle.std.specs.List.{list_all}
use Rattle.std.specs.Str.{bytes_eq}

-- the first part with a byte before it
unfoldable pub with_byte : ℕ → List (List ℕ) → List (List ℕ)
with_byte b [] = (b ∷ []) ∷ []
with_byte b (p ∷ ps) = (b ∷ p) ∷ ps

-- the parts of bytes, cut at each separator: one more than there are separators
unfoldable pub cut : ℕ → List ℕ → List (List ℕ)
cut d [] = [] ∷ []
cut d (b ∷ bs) = if b == d then [] ∷ cut d bs else with_byte b (cut d bs)

-- whether a word is one of these
unfoldable pub is_among : List ℕ → List (List ℕ) → Bool
is_among w [] = false
is_among w (v ∷ vs) = bytes_eq w v || is_among w vs

-- the number that digits say, behind one that was read
unfoldable pub digits_said : ℕ → List ℕ → ℕ
digits_said n [] = n
digits_said n (b ∷ bs) = digits_said (10 * n + (b - 48)) bs

-- the number that a word says, where it is one
abbrev pub number_in : List ℕ → ℕ
number_in w = digits_said 0 w

-- a word is a number where it is the decimal text of one below 2^64: so without sign and leading zero, and not empty
unfoldable pub is_number : List ℕ → Bool
is_number w = bytes_eq w (decimal (number_in w)) && nat_lt (number_in w) (2 ^ 64)

-- an ASCII letter
abbrev pub is_letter : ℕ → Bool
is_letter b = (nat_le 65 b && nat_le b 90) || (nat_le 97 b && nat_le b 122)

-- a letter, a digit or `_`
abbrev pub is_name_byte : ℕ → Bool
is_name_byte b = is_letter b || (nat_le 48 b && nat_le b 57) || (b == 95)

-- a name has 1 to 16 bytes: first a letter, then letters, digits or `_`
unfoldable pub is_name : List ℕ → Bool
is_name w = nat_lt 0 (length w) && nat_le (length w) 16 && is_letter (slice_index w 0) && list_all is_name_byte w

-- a byte that is printed and no space
abbrev pub is_printable : ℕ → Bool
is_printable b = nat_le 33 b && nat_le b 126

-- a text has 1 to 32 printable bytes
unfoldable pub is_text : List ℕ → Bool
is_text w = nat_lt 0 (length w) && nat_le (length w) 32 && list_all is_printable w
