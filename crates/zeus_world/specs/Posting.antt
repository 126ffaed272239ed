-- Letters that one sender puts on its links.
use Rattle.std.specs.Prelude.{ℕ, true, ◌≡◌, ◌<◌, List, [], ◌∷◌, length}
use Rattle.zeus_packet.specs.Fits.{fits}
use Rattle.zeus_packet.specs.declared.letter.Letter.{Letter}
use Rattle.zeus_wire.specs.Ranges.{largest}
use Rattle.zeus_model.specs.Tables.{nth}
use Rattle.zeus_model.specs.World.{link, posted}
use Rattle.lossy_fabric.specs.Links.{LinkState, HasRoom}

-- letters of a sender to nodes that there are, which fit the largest limits
unfoldable pub AreFrom : ℕ → ℕ → List Letter → Type 0
AreFrom sender nodes [] = Unit {0}
AreFrom sender nodes (l ∷ ls) = ((l.from ≡ sender) × (l.to < nodes) × (fits l (largest 2) ≡ true)) × AreFrom sender nodes ls

-- the letters are of one sender, whose links are there and have room for all of them
pub record CanPost (rows : List (List LinkState)) (ls : List Letter) : Type 0 where
  pub sender : ℕ
  pub there : sender < length rows
  pub receivers : AreFrom sender (length (nth [] rows sender)) ls
  pub room : HasRoom (length ls) (nth [] rows sender)

-- the number that each of the letters gets on its link, if they are put there one after another
unfoldable pub link_numbers : List (List (List Letter)) → List Letter → List ℕ
link_numbers links [] = []
link_numbers links (l ∷ ls) = length (link links l.from l.to) ∷ link_numbers (posted links l) ls
