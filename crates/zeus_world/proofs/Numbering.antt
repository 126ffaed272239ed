-- Letters with their numbers.
use Rattle.std.proofs.Common.{ℕ, suc, zero, ◌≡◌, ◌<◌, List, [], ◌∷◌, ◌++◌, length, map, take, get_or, refl, ap, arith}
use Rattle.zeus_packet.specs.declared.letter.Letter.{Letter}
use Rattle.zeus_packet.specs.declared.letter.Packet.{Packet}
use Rattle.zeus_model.specs.World.{link, packets, posted}
use Rattle.zeus_world.specs.Packets.{with_numbers}
use Rattle.zeus_world.specs.Posting.{link_numbers}

pub letters_with_numbers : (ns : List ℕ) (ls : List Letter) → length ns ≡ length ls → ls ≡ map (λ (p : Packet). p.letter) (with_numbers ns ls)
unfolding with_numbers
letters_with_numbers [] [] e = refl
letters_with_numbers [] (l ∷ ls) e = absurd (omega arith)
letters_with_numbers (n ∷ ns) [] e = absurd (omega arith)
letters_with_numbers (n ∷ ns) (l ∷ ls) e = ap (λ rest. l ∷ rest) (letters_with_numbers ns ls (omega arith))

pub numbers_with_numbers : (ns : List ℕ) (ls : List Letter) → length ns ≡ length ls → ns ≡ map (λ (p : Packet). p.number) (with_numbers ns ls)
unfolding with_numbers
numbers_with_numbers [] ls e = refl
numbers_with_numbers (n ∷ ns) [] e = absurd (omega arith)
numbers_with_numbers (n ∷ ns) (l ∷ ls) e = ap (λ rest. n ∷ rest) (numbers_with_numbers ns ls (omega arith))

pub length_with_numbers : (ns : List ℕ) (ls : List Letter) → length ns ≡ length ls → length ls ≡ length (with_numbers ns ls)
unfolding with_numbers
length_with_numbers [] [] e = refl
length_with_numbers [] (l ∷ ls) e = absurd (omega arith)
length_with_numbers (n ∷ ns) [] e = absurd (omega arith)
length_with_numbers (n ∷ ns) (l ∷ ls) e = ap suc (length_with_numbers ns ls (omega arith))

-- letters with the numbers that they get are the packets
pub with_numbers_posted : (links : List (List (List Letter))) (ls : List Letter) → with_numbers (link_numbers links ls) ls ≡ packets links ls
unfolding with_numbers link_numbers packets
with_numbers_posted links [] = refl
with_numbers_posted links (l ∷ ls) = ap (λ rest. record { number = length (link links l.from l.to); letter = l } ∷ rest) (with_numbers_posted (posted links l) ls)

pub length_link_numbers : (links : List (List (List Letter))) (ls : List Letter) → length (link_numbers links ls) ≡ length ls
unfolding link_numbers
length_link_numbers links [] = refl
length_link_numbers links (l ∷ ls) = ap suc (length_link_numbers (posted links l) ls)

-- one packet more, by its number and its letter
pub taken_more : (ps : List Packet) (k n : ℕ) (l : Letter) → k < length ps → n ≡ get_or (map (λ (p : Packet). p.number) ps) k 0 → l ≡ get_or (map (λ (p : Packet). p.letter) ps) k l
    → take k ps ++ record { number = n; letter = l } ∷ [] ≡ take (suc k) ps
taken_more [] k n l h e f = absurd (omega arith)
taken_more (p ∷ ps) zero n l h e f = rw (e, f) refl
taken_more (p ∷ ps) (suc k) n l h e f = ap (λ rest. p ∷ rest) (taken_more ps k n l (omega arith) e f)
