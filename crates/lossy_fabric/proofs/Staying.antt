-- The links that there are stay while letters are put on them.
use Rattle.std.proofs.Common.{ℕ, suc, ◌≡◌, ◌<◌, List, [], ◌∷◌, ◌++◌, length, refl, sym, ap, inl, inr, arith}
use Rattle.std.proofs.lemmas.Bool.{cases_eq}
use Rattle.zeus_base.specs.TableLaws.{nth-put_same, nth-put_other, length-put}
use Rattle.zeus_packet.specs.declared.letter.Letter.{Letter}
use Rattle.zeus_model.specs.Tables.{nth, put}
use Rattle.zeus_model.specs.World.{link, posted}
use Rattle.lossy_fabric.specs.Links.{IsLink, LinkState, letters, letters_of, row_letters}
use Rattle.lossy_fabric.proofs.Sending.{letters-nth}

length-row_letters : (ls : List LinkState) → length (row_letters ls) ≡ length ls
unfolding row_letters letters_of
length-row_letters [] = refl
length-row_letters (l ∷ ls) = ap suc (length-row_letters ls)

length-letters : (rows : List (List LinkState)) → length (letters rows) ≡ length rows
unfolding letters
length-letters [] = refl
length-letters (r ∷ rows) = ap suc (length-letters rows)

-- there is a link where there are letters of one
record HasLetters (links : List (List (List Letter))) (sender receiver : ℕ) : Type 0 where
  from : sender < length links
  to : receiver < length (nth [] links sender)

link_has : (rows : List (List LinkState)) (a b : ℕ) → IsLink rows a b → HasLetters (letters rows) a b
link_has rows a b h = record {
  from = omega (arith, h.from, length-letters rows);
  to = rw (letters-nth rows a, length-row_letters (nth [] rows a)) h.to;
}

has_link : (rows : List (List LinkState)) (a b : ℕ) → HasLetters (letters rows) a b → IsLink rows a b
has_link rows a b h =
    let to : b < length (nth [] rows a) = rw (letters-nth rows a, length-row_letters (nth [] rows a)) at h.to in
    record { from = omega (arith, h.from, length-letters rows); to = to }

posted_has : (links : List (List (List Letter))) (l : Letter) (a b : ℕ) → HasLetters links l.from l.to → HasLetters links a b → HasLetters (posted links l) a b
posted_has links l a b there h =
    let row : List (List Letter) = put [] (nth [] links l.from) l.to (link links l.from l.to ++ l ∷ []) in
    let senders : length (posted links l) ≡ length links = length-put [] links l.from row there.from in
    let receivers : length row ≡ length (nth [] links l.from) = length-put [] (nth [] links l.from) l.to (link links l.from l.to ++ l ∷ []) there.to in
    elim (cases_eq a l.from) [
      | inl same ↦
          let to : b < length (nth [] links l.from) = rw same at h.to in
          record { from = omega (arith, senders, h.from); to = rw (same, nth-put_same [] links l.from row) (omega (arith, receivers, to)) }
      | inr other ↦ record { from = omega (arith, senders, h.from); to = rw (nth-put_other [] links l.from a row (λ e. other (sym e))) h.to }
    ]

-- a link that there is stays when a letter is sent
pub sent_stays : (old new : List (List LinkState)) (l : Letter) → letters new ≡ posted (letters old) l → IsLink old l.from l.to → (a b : ℕ) → IsLink old a b → IsLink new a b
sent_stays old new l is there a b h =
    has_link new a b (rw is (posted_has (letters old) l a b (link_has old l.from l.to there) (link_has old a b h)))

-- a link that there is stays when the letters stay
pub same_stays : (old new : List (List LinkState)) → letters new ≡ letters old → (a b : ℕ) → IsLink old a b → IsLink new a b
same_stays old new is a b h = has_link new a b (rw is (link_has old a b h))
