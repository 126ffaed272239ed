-- Packets by their numbers and their letters.
use Rattle.std.proofs.Common.{ℕ, zero, suc, ◌≡◌, ◌<◌, List, [], ◌∷◌, length, map, get_or, refl, arith}
use Rattle.std.proofs.lemmas.List.{length-map}
use Rattle.zeus_packet.specs.declared.letter.Letter.{Letter}
use Rattle.zeus_packet.specs.declared.letter.Packet.{Packet}

-- each packet has its place among the numbers, and among the letters
pub place_there : {A : Type 0} (f : Packet → A) (ps : List Packet) (xs : List A) (k n : ℕ) → xs ≡ map f ps → n ≡ length ps → k < n → k < length xs
place_there f ps xs k n is e h = let size = length-map ps f in rw is (omega arith)

-- the packet at a place
pub packet_there : (ps : List Packet) (k n : ℕ) (l : Letter) → k < length ps → n ≡ get_or (map (λ (p : Packet). p.number) ps) k 0 → l ≡ get_or (map (λ (p : Packet). p.letter) ps) k l
    → record { number = n; letter = l } ≡ get_or ps k record { number = n; letter = l }
packet_there [] k n l h e f = absurd (omega arith)
packet_there (p ∷ ps) zero n l h e f = rw (e, f) refl
packet_there (p ∷ ps) (suc k) n l h e f = packet_there ps k n l (omega arith) e f
