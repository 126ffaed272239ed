-- Letters put on links, by the words of the machine.
use Rattle.std.proofs.Common.{ℕ, zero, suc, ◌≡◌, ◌<◌, ◌≤◌, ◌+◌, List, [], ◌∷◌, length, map, refl, ap, ◌∙◌, arith}
use Rattle.std.proofs.Math.ListN.{get_or, set}
use Rattle.zeus_packet.specs.declared.letter.Letter.{Letter}
use Rattle.std.specs.List.{slice_get}
use Rattle.zeus_base.specs.TableLaws.{nth-set_same}
use Rattle.zeus_model.specs.Tables.{nth, put}
use Rattle.zeus_model.specs.World.{nth_letter}
use Rattle.lossy_fabric.specs.Links.{LinkState, letters_of, row_letters, letters, no_link, room, HasRoom}

-- setting an element leaves the length of a list
pub length-set : {A : Type 0} (xs : List A) (i : ℕ) (v : A) → length (set xs i v) ≡ length xs
length-set [] i v = refl
length-set (x ∷ xs) zero v = refl
length-set (x ∷ xs) (suc i) v = ap suc (length-set xs i v)

-- the letters of one link, read through the row
pub row_letters-nth : (ls : List LinkState) (i : ℕ) → nth [] (row_letters ls) i ≡ (nth no_link ls i).letters
unfolding nth row_letters letters_of
row_letters-nth [] i = refl
row_letters-nth (l ∷ ls) zero = refl
row_letters-nth (l ∷ ls) (suc i) = row_letters-nth ls i

-- the letters of one sender's links are those of its row
pub letters-nth : (rows : List (List LinkState)) (i : ℕ) → nth [] (letters rows) i ≡ row_letters (nth [] rows i)
unfolding nth row_letters letters
letters-nth [] i = refl
letters-nth (r ∷ rows) zero = refl
letters-nth (r ∷ rows) (suc i) = letters-nth rows i

-- if one link of a row is set, then the row's letters are put there
pub row_letters-set : (ls : List LinkState) (i : ℕ) (l : LinkState) → i < length ls → row_letters (set ls i l) ≡ put [] (row_letters ls) i l.letters
unfolding put row_letters letters_of
row_letters-set [] i l h = absurd (omega arith)
row_letters-set (k ∷ ls) zero l h = refl
row_letters-set (k ∷ ls) (suc i) l h = ap (λ r. k.letters ∷ r) (row_letters-set ls i l (omega arith))

-- if one row is set, then its letters are put there
pub letters-set : (rows : List (List LinkState)) (i : ℕ) (r : List LinkState) → i < length rows → letters (set rows i r) ≡ put [] (letters rows) i (row_letters r)
unfolding put letters
letters-set [] i r h = absurd (omega arith)
letters-set (k ∷ rows) zero r h = refl
letters-set (k ∷ rows) (suc i) r h = ap (λ x. row_letters k ∷ x) (letters-set rows i r (omega arith))

-- a link with the same letters in its place
pub row_letters-same : (ls : List LinkState) (i : ℕ) (k l : LinkState) → i < length ls → k ≡ get_or ls i k → l.letters ≡ k.letters → row_letters (set ls i l) ≡ row_letters ls
unfolding row_letters letters_of
row_letters-same [] i k l h e s = absurd (omega arith)
row_letters-same (x ∷ ls) zero k l h e s = ap (λ y. y ∷ map letters_of ls) (s ∙ ap (λ (z : LinkState). z.letters) e)
row_letters-same (x ∷ ls) (suc i) k l h e s = ap (λ r. x.letters ∷ r) (row_letters-same ls i k l (omega arith) e s)

-- if a row is set that has the letters of the row before, then all letters stay
pub letters-same : (rows : List (List LinkState)) (i : ℕ) (k r : List LinkState) → i < length rows → k ≡ get_or rows i k → row_letters r ≡ row_letters k → letters (set rows i r) ≡ letters rows
unfolding letters
letters-same [] i k r h e s = absurd (omega arith)
letters-same (x ∷ rows) zero k r h e s = ap (λ y. y ∷ map row_letters rows) (s ∙ ap row_letters e)
letters-same (x ∷ rows) (suc i) k r h e s = ap (λ y. row_letters x ∷ y) (letters-same rows i k r (omega arith) e s)

-- the room of the links before a place
pub room_before : ℕ → ℕ → List LinkState → Type 0
room_before count n row = (to : ℕ) → to < n → count ≤ (nth no_link row to).room

-- one link more has room
pub room_more : (count : ℕ) (row : List LinkState) (i : ℕ) (l : LinkState) → i < length row → ((to : ℕ) → to < i → count ≤ (nth no_link row to).room) → count ≤ l.room → (to : ℕ) → to < i + 1 → count ≤ (nth no_link (set row i l) to).room
unfolding nth
room_more count [] i l h e r to k = absurd (omega arith)
room_more count (x ∷ row) zero l h e r zero k = r
room_more count (x ∷ row) zero l h e r (suc to) k = absurd (omega arith)
room_more count (x ∷ row) (suc i) l h e r zero k = e 0 (omega arith)
room_more count (x ∷ row) (suc i) l h e r (suc to) k = room_more count row i l (omega arith) (λ j m. e (suc j) (omega arith)) r to (omega arith)

-- the room of each link falls by one at most
pub row_room : (ls : List LinkState) (i : ℕ) (k l : LinkState) → i < length ls → k ≡ get_or ls i k → k.room ≤ l.room + 1 → (j : ℕ) → (nth no_link ls j).room ≤ (nth no_link (set ls i l) j).room + 1
unfolding nth
row_room [] i k l h e s j = absurd (omega arith)
row_room (x ∷ ls) zero k l h e s zero = let f : k.room ≡ x.room = ap (λ (z : LinkState). z.room) e in omega arith
row_room (x ∷ ls) zero k l h e s (suc j) = omega arith
row_room (x ∷ ls) (suc i) k l h e s zero = omega arith
row_room (x ∷ ls) (suc i) k l h e s (suc j) = row_room ls i k l (omega arith) e s j

-- if each link of a row that is set lost at most one letter's room, then so did each link
pub rows_room : (rows : List (List LinkState)) (i : ℕ) (k r : List LinkState) → i < length rows → k ≡ get_or rows i k → ((j : ℕ) → (nth no_link k j).room ≤ (nth no_link r j).room + 1) → (from to : ℕ) → room rows from to ≤ room (set rows i r) from to + 1
unfolding nth
rows_room [] i k r h e s from to = absurd (omega arith)
rows_room (x ∷ rows) zero k r h e s zero to = rw (← e) (s to)
rows_room (x ∷ rows) zero k r h e s (suc from) to = omega arith
rows_room (x ∷ rows) (suc i) k r h e s zero to = omega arith
rows_room (x ∷ rows) (suc i) k r h e s (suc from) to = rows_room rows i k r (omega arith) e s from to

-- if each link of a row has room for so many letters, then the row has
pub has_room : (count : ℕ) (row : List LinkState) → ((to : ℕ) → to < length row → count ≤ (nth no_link row to).room) → HasRoom count row
unfolding HasRoom
has_room count row h = h

-- a row in its place is read there
pub row_there : (rows : List (List LinkState)) (i : ℕ) (r : List LinkState) (count : ℕ) → i < length rows → HasRoom count r → HasRoom count (nth [] (set rows i r) i)
row_there rows i r count h e = rw (nth-set_same [] rows i r h) e

-- to read a letter by its index is std's get
pub nth_letter-get : (ls : List Letter) (i : ℕ) → nth_letter ls i ≡ slice_get ls i
unfolding nth_letter
nth_letter-get [] i = refl
nth_letter-get (l ∷ ls) zero = refl
nth_letter-get (l ∷ ls) (suc i) = nth_letter-get ls i
