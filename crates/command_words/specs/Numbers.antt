-- Numbers as words.
use Rattle.std.specs.Prelude.{ℕ, ◌≡◌, ◌≤◌, List, decimal}

-- the word is the decimal digits of the number, which is from the lowest on up to the highest
pub record IsNumberIn (lowest highest : ℕ) (word : List ℕ) (n : ℕ) : Type 0 where
  pub spelled : word ≡ decimal n
  pub low : lowest ≤ n
  pub high : n ≤ highest
