-- Letters of one sender put on their links one after another.
use Rattle.std.proofs.Common.{ℕ, zero, suc, true, Option, Some, None, ◌≡◌, ◌<◌, ◌≤◌, ◌+◌, List, [], ◌∷◌, ◌++◌, length, drop, get_or, refl, sym, ap, ◌∙◌, add-one, append_assoc, append-nil, arith}
use Rattle.std.proofs.Math.Seq.{drop-cons}
use Rattle.zeus_base.specs.TableLaws.{length-put, nth-put_same}
use Rattle.std.specs.Option.{option_map}
use Rattle.zeus_packet.specs.Fits.{fits}
use Rattle.zeus_packet.specs.declared.letter.Letter.{Letter}
use Rattle.zeus_packet.specs.declared.letter.Packet.{Packet}
use Rattle.zeus_model.specs.Tables.{nth}
use Rattle.zeus_model.specs.World.{all_posted, link, posted}
use Rattle.zeus_wire.specs.Ranges.{largest}
use Rattle.lossy_fabric.specs.Links.{LinkState, letters, numbered, room, row_letters, HasRoom, IsLink}
use Rattle.zeus_world.specs.Posting.{AreFrom, CanPost, link_numbers}
use Rattle.lossy_fabric.proofs.Sending.{letters-nth}

-- there are as many rows of letters as rows of links
pub length-letters : (rows : List (List LinkState)) → length (letters rows) ≡ length rows
unfolding letters
length-letters [] = refl
length-letters (r ∷ rows) = ap suc (length-letters rows)

-- a row has letters for as many receivers as it has links
pub length-row_letters : (ls : List LinkState) → length (row_letters ls) ≡ length ls
unfolding row_letters
length-row_letters [] = refl
length-row_letters (l ∷ ls) = ap suc (length-row_letters ls)

-- a sender has as many links as lists of letters
pub length-row : (rows : List (List LinkState)) (i : ℕ) → length (nth [] rows i) ≡ length (nth [] (letters rows) i)
length-row rows i = sym (length-row_letters (nth [] rows i)) ∙ ap length (sym (letters-nth rows i))

-- posting a letter on a link that is there leaves the sizes
pub length-posted : (links : List (List (List Letter))) (l : Letter) → l.from < length links → length (posted links l) ≡ length links
length-posted links l h = length-put [] links l.from _ h

-- after a letter of links that there are is posted, its sender has as many links as before
pub length-posted_row : (links : List (List (List Letter))) (l : Letter) → l.from < length links → l.to < length (nth [] links l.from) → length (nth [] (posted links l) l.from) ≡ length (nth [] links l.from)
length-posted_row links l h k =
    ap length (nth-put_same [] links l.from _) ∙ length-put [] (nth [] links l.from) l.to _ k

-- if a batch can be posted, then the link of its head letter is there
pub first_link : (rows : List (List LinkState)) (l : Letter) (ls : List Letter) → CanPost rows (l ∷ ls) → IsLink rows l.from l.to
unfolding AreFrom
first_link rows l ls c =
    let from = c.receivers.0.0 in
    record {
      from = rw (from) c.there;
      to = rw (from) c.receivers.0.1;
    }

-- if a batch can be posted, then its head letter fits the largest limits
pub first_fits : (rows : List (List LinkState)) (l : Letter) (ls : List Letter) → CanPost rows (l ∷ ls) → fits l (largest 2) ≡ true
unfolding AreFrom
first_fits rows l ls c = c.receivers.0.2

-- if a batch can be posted, then the link of its head letter has room for one more
pub first_room : (rows : List (List LinkState)) (l : Letter) (ls : List Letter) → CanPost rows (l ∷ ls) → 0 < room rows l.from l.to
unfolding AreFrom HasRoom
first_room rows l ls c =
    let from = c.receivers.0.0 in
    let most = c.room l.to c.receivers.0.1 in
    rw (from) (let go : suc (length ls) ≤ room rows c.sender l.to → 0 < room rows c.sender l.to = λ h. omega arith in go most)

-- the rest can be posted behind the first
pub later_post : (rows after : List (List LinkState)) (l : Letter) (ls : List Letter) → CanPost rows (l ∷ ls) → letters after ≡ posted (letters rows) l → ((from to : ℕ) → room rows from to ≤ room after from to + 1) → CanPost after ls
unfolding AreFrom HasRoom
later_post rows after l ls c e r =
    let is = first_link rows l ls c in
    let from = c.receivers.0.0 in
    let here : l.from < length (letters rows) = rw (length-letters rows) is.from in
    let there : l.to < length (nth [] (letters rows) l.from) = rw (← length-row rows l.from) is.to in
    let size : length after ≡ length rows =
    sym (length-letters after) ∙ ap length e ∙ length-posted (letters rows) l here ∙ length-letters rows in
    let row : length (nth [] after l.from) ≡ length (nth [] rows l.from) =
    length-row after l.from ∙ ap (λ (x : List (List (List Letter))). length (nth [] x l.from)) e ∙ length-posted_row (letters rows) l here there ∙ sym (length-row rows l.from) in
    let row_of : length (nth [] after c.sender) ≡ length (nth [] rows c.sender) = rw from at row in
    record {
      sender = c.sender;
      there = rw (size) c.there;
      receivers = rw (row_of) c.receivers.1;
      room = λ to h.
          let most : length (l ∷ ls) ≤ room rows c.sender to = c.room to (rw (← row_of) h) in
          let less = r c.sender to in
          omega arith;
    }

-- what is left of a list begins with the element at the place, and nothing is left from the end on
pub drop-here : {A : Type 0} (xs : List A) (i : ℕ) (x : A) → i < length xs → x ≡ get_or xs i x → drop i xs ≡ x ∷ drop (i + 1) xs
drop-here xs i x h is = rw (add-one, drop-cons xs i x h, ← is) refl

-- past the end of a list nothing is left
pub drop-end : {A : Type 0} (xs : List A) (i : ℕ) → length xs ≤ i → drop i xs ≡ []
drop-end [] zero h = refl
drop-end [] (suc i) h = refl
drop-end (x ∷ xs) zero h = absurd (omega arith)
drop-end (x ∷ xs) (suc i) h = drop-end xs i (omega arith)

-- a batch with its first letter posted
pub posted_first : (links : List (List (List Letter))) (l : Letter) (ls : List Letter) → all_posted (posted links l) ls ≡ all_posted links (l ∷ ls)
unfolding all_posted
posted_first links l ls = refl

-- a batch without a letter leaves the links
pub posted_none : (links : List (List (List Letter))) → links ≡ all_posted links []
unfolding all_posted
posted_none links = refl

-- the numbers of a batch with that of its first letter noted
pub noted_first : (before : List ℕ) (links : List (List (List Letter))) (l : Letter) (ls : List Letter) (n : ℕ) → n ≡ length (link links l.from l.to) → (before ++ n ∷ []) ++ link_numbers (posted links l) ls ≡ before ++ link_numbers links (l ∷ ls)
unfolding link_numbers
noted_first before links l ls n e = rw (append_assoc, e) refl

-- a batch without a letter notes nothing
pub noted_none : (before : List ℕ) (links : List (List (List Letter))) → before ≡ before ++ link_numbers links []
unfolding link_numbers
noted_none before links = sym (append-nil before)

-- the letter of a packet that a link gives
pub found_letter : (number : ℕ) (found : Option Letter) (p : Packet) → Some p ≡ option_map (numbered number) found → found ≡ Some p.letter
found_letter number (Some l) p e = cc e
found_letter number None p e = absurd (cc e)

-- a link that gives none has no letter there
pub no_letter : (number : ℕ) (found : Option Letter) → None ≡ option_map (numbered number) found → found ≡ None
no_letter number (Some l) e = absurd (cc e)
no_letter number None e = refl
