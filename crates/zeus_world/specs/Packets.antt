-- The packets that a step sends.
use Rattle.std.specs.Prelude.{ℕ, List, [], ◌∷◌}
use Rattle.zeus_packet.specs.declared.letter.Letter.{Letter}
use Rattle.zeus_packet.specs.declared.letter.Packet.{Packet}

-- packets in order, and how many more there is room for
pub record PacketsState : Type 0 where
  pub packets : List Packet
  pub room : ℕ

-- letters, each with its number
unfoldable pub with_numbers : List ℕ → List Letter → List Packet
with_numbers [] ls = []
with_numbers (n ∷ ns) [] = []
with_numbers (n ∷ ns) (l ∷ ls) = record { number = n; letter = l } ∷ with_numbers ns ls
