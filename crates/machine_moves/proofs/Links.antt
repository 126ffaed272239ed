-- The letters on the links of a world: which there are, before and after more are sent.
use Rattle.std.specs.Prelude.{ℕ, zero, suc, ◌≡◌, ◌≢◌, List, [], ◌∷◌, ◌++◌, Some, ◌⊎◌}
use Rattle.std.proofs.Common.{refl, sym, ap, inl, inr}
use Rattle.std.proofs.lemmas.Bool.{cases_eq}
use Rattle.zeus_base.specs.TableLaws.{nth-put_same}
use Rattle.zeus_packet.specs.declared.letter.Letter.{Letter}
use Rattle.zeus_model.specs.In.{In, here, there}
use Rattle.zeus_model.specs.Tables.{nth, put}
use Rattle.zeus_model.specs.World.{link, posted, all_posted, nth_letter}
use Rattle.zeus_model.specs.InLaws.{In-append_left, In-append_right, In-append}
use Rattle.machine_moves.specs.SystemState.{all_of}
use Rattle.machine_moves.proofs.Lists.{nth-put_other}

-- the letter stands on one of the links
pub record IsOn (links : List (List (List Letter))) (l : Letter) : Type 0 where
  pub from : ℕ
  pub to : ℕ
  pub is : In l (link links from to)

-- ---- membership of all letters is membership of a link

In-all_of : {A : Type 0} (a : A) (xs : List A) (xss : List (List A)) → In xs xss → In a xs → In a (all_of xss)
unfolding all_of
In-all_of a xs [] m h = elim m [ ]
In-all_of a xs (ys ∷ yss) (here _ _ e) h = In-append_left a ys (all_of yss) (rw e at h)
In-all_of a xs (ys ∷ yss) (there _ _ m) h = In-append_right a ys (all_of yss) (In-all_of a xs yss m h)

In-all_of_parts : {A : Type 0} (a : A) (xss : List (List A)) → In a (all_of xss) → (xs : List A) × In xs xss × In a xs
unfolding all_of
In-all_of_parts a [] m = elim m [ ]
In-all_of_parts a (ys ∷ yss) m =
    elim (In-append a ys (all_of yss) m) [
      | inl l ↦ (ys, here ys yss refl, l)
      | inr r ↦ let p = In-all_of_parts a yss r in (p.0, there ys yss p.1, p.2)
    ]

nth-In : {A : Type 0} (d a : A) (xs : List A) → In a xs → (i : ℕ) × (nth d xs i ≡ a)
unfolding nth
nth-In d a [] m = elim m [ ]
nth-In d a (x ∷ xs) (here _ _ e) = (0, sym e)
nth-In d a (x ∷ xs) (there _ _ m) = let p = nth-In d a xs m in (suc p.0, p.1)

-- what stands in an element of a table of lists, stands in one of them
In-nth : {A : Type 0} (a : A) (xss : List (List A)) (i : ℕ) → In a (nth [] xss i) → (xs : List A) × In xs xss × In a xs
unfolding nth
In-nth a [] i m = elim m [ ]
In-nth a (ys ∷ yss) zero m = (ys, here ys yss refl, m)
In-nth a (ys ∷ yss) (suc i) m = let p = In-nth a yss i m in (p.0, there ys yss p.1, p.2)

-- a letter on some link is among all letters
pub In-from_link : (links : List (List (List Letter))) (l : Letter) → IsOn links l → In l (all_of (all_of links))
In-from_link links l on =
    let row = In-nth l (nth [] links on.from) on.to on.is in
    let outer = In-nth row.0 links on.from row.1 in
    In-all_of l row.0 (all_of links) (In-all_of row.0 outer.0 links outer.1 outer.2) row.2

-- a letter among all letters is on some link
pub In-to_link : (links : List (List (List Letter))) (l : Letter) → In l (all_of (all_of links)) → IsOn links l
In-to_link links l m =
    let inner = In-all_of_parts l (all_of links) m in
    let outer = In-all_of_parts inner.0 links inner.1 in
    let i = nth-In [] outer.0 links outer.1 in
    let j = nth-In [] inner.0 outer.0 outer.2 in
    record { from = i.0; to = j.0; is = rw (i.1, j.1) inner.2 }

-- ---- one more letter

-- after a letter is posted, the link from its sender to its receiver has it at the end
pub link-posted_same : (links : List (List (List Letter))) (l : Letter) → link (posted links l) l.from l.to ≡ link links l.from l.to ++ l ∷ []
link-posted_same links l =
    rw (nth-put_same [] links l.from (put [] (nth [] links l.from) l.to (link links l.from l.to ++ l ∷ []))) (nth-put_same [] (nth [] links l.from) l.to (link links l.from l.to ++ l ∷ []))

other_row : (links : List (List (List Letter))) (l : Letter) (from to : ℕ) → from ≢ l.from → link (posted links l) from to ≡ link links from to
other_row links l from to ne = ap (λ (row : List (List Letter)). nth [] row to) (nth-put_other [] links l.from from (put [] (nth [] links l.from) l.to (link links l.from l.to ++ l ∷ [])) ne)

other_place : (links : List (List (List Letter))) (l : Letter) (to : ℕ) → to ≢ l.to → link (posted links l) l.from to ≡ link links l.from to
other_place links l to ne =
    rw (nth-put_same [] links l.from (put [] (nth [] links l.from) l.to (link links l.from l.to ++ l ∷ []))) (nth-put_other [] (nth [] links l.from) l.to to (link links l.from l.to ++ l ∷ []) ne)

-- whether the link is the letter's own
own_link : (l : Letter) (from to : ℕ) → ((from ≡ l.from) × (to ≡ l.to)) ⊎ ((from ≢ l.from) ⊎ (to ≢ l.to))
own_link l from to =
    elim (cases_eq from l.from) [
      | inl same ↦ elim (cases_eq to l.to) [ inl both ↦ inl (same, both) | inr other ↦ inr (inr other) ]
      | inr other ↦ inr (inl other)
    ]

-- after a letter is posted, each other link is as before
pub link-posted_other : (links : List (List (List Letter))) (l : Letter) (from to : ℕ) → (from ≢ l.from) ⊎ (to ≢ l.to) → link (posted links l) from to ≡ link links from to
link-posted_other links l from to (inl ne) = other_row links l from to ne
link-posted_other links l from to (inr ne) =
    elim (cases_eq from l.from) [ inl same ↦ rw same (other_place links l to ne) | inr other ↦ other_row links l from to other ]

-- what stands on a link after a letter is posted
own_posted : (links : List (List (List Letter))) (l k : Letter) → In k (link (posted links l) l.from l.to) → In k (link links l.from l.to) ⊎ (k ≡ l)
own_posted links l k m =
    elim (In-append k (link links l.from l.to) (l ∷ []) (rw (link-posted_same links l) at m)) [
      | inl old ↦ inl old
      | inr new ↦ inr (In-single k l new)
    ]
  where
    In-single : (k l : Letter) → In k (l ∷ []) → k ≡ l
    In-single k l (here _ _ e) = e
    In-single k l (there _ _ m) = elim m [ ]

In-posted : (links : List (List (List Letter))) (l k : Letter) (from to : ℕ) → In k (link (posted links l) from to) → In k (link links from to) ⊎ ((k ≡ l) × (from ≡ l.from) × (to ≡ l.to))
In-posted links l k from to m =
    elim (own_link l from to) [
      | inl both ↦ elim (own_posted links l k (rw (both.0, both.1) at m)) [
        | inl old ↦ inl (rw (both.0, both.1) old)
        | inr new ↦ inr (new, both.0, both.1)
      ]
      | inr other ↦ inl (rw (link-posted_other links l from to other) at m)
    ]

-- what stood on a link stays
posted-stay : (links : List (List (List Letter))) (l k : Letter) (from to : ℕ) → In k (link links from to) → In k (link (posted links l) from to)
posted-stay links l k from to m =
    elim (own_link l from to) [
      | inl both ↦ rw (both.0, both.1) (rw (link-posted_same links l) (In-append_left k (link links l.from l.to) (l ∷ []) (rw (both.0, both.1) at m)))
      | inr other ↦ rw (link-posted_other links l from to other) m
    ]

posted-new : (links : List (List (List Letter))) (l : Letter) → In l (link (posted links l) l.from l.to)
posted-new links l = rw (link-posted_same links l) (In-append_right l (link links l.from l.to) (l ∷ []) (here l [] refl))

-- ---- more letters

-- after letters are posted, a letter that was on a link is still on it
pub all_posted-stay : (links : List (List (List Letter))) (ls : List Letter) (k : Letter) (from to : ℕ) → In k (link links from to) → In k (link (all_posted links ls) from to)
unfolding all_posted
all_posted-stay links [] k from to m = m
all_posted-stay links (l ∷ ls) k from to m = all_posted-stay (posted links l) ls k from to (posted-stay links l k from to m)

-- after letters are posted, each of them is on the link from its sender to its receiver
pub all_posted-new : (links : List (List (List Letter))) (ls : List Letter) (k : Letter) → In k ls → In k (link (all_posted links ls) k.from k.to)
unfolding all_posted
all_posted-new links [] k m = elim m [ ]
all_posted-new links (l ∷ ls) k (here _ _ e) = all_posted-stay (posted links l) ls k k.from k.to (rw e (posted-new links l))
all_posted-new links (l ∷ ls) k (there _ _ m) = all_posted-new (posted links l) ls k m

-- after letters are posted, a letter on a link was on it before, or is one of them, on the link between its ends
pub all_posted-only : (links : List (List (List Letter))) (ls : List Letter) (k : Letter) (from to : ℕ) → In k (link (all_posted links ls) from to) → In k (link links from to) ⊎ (In k ls × (from ≡ k.from) × (to ≡ k.to))
unfolding all_posted
all_posted-only links [] k from to m = inl m
all_posted-only links (l ∷ ls) k from to m =
    elim (all_posted-only (posted links l) ls k from to m) [
      | inl old ↦ elim (In-posted links l k from to old) [
        | inl older ↦ inl older
        | inr new ↦ inr (here l ls new.0, rw (new.0) (new.1), rw (new.0) (new.2))
      ]
      | inr new ↦ inr (there l ls new.0, new.1, new.2)
    ]

-- ---- the same of all links together

-- after letters are posted, a letter that was sent before is still among all letters
pub sent-stay : (links : List (List (List Letter))) (ls : List Letter) (k : Letter) → In k (all_of (all_of links)) → In k (all_of (all_of (all_posted links ls)))
sent-stay links ls k m =
    let on = In-to_link links k m in
    In-from_link (all_posted links ls) k record { from = on.from; to = on.to; is = all_posted-stay links ls k on.from on.to on.is }

-- after letters are posted, each of them is among all letters
pub sent-new : (links : List (List (List Letter))) (ls : List Letter) (k : Letter) → In k ls → In k (all_of (all_of (all_posted links ls)))
sent-new links ls k m = In-from_link (all_posted links ls) k record { from = k.from; to = k.to; is = all_posted-new links ls k m }

-- after letters are posted, a letter among all was there before or is one of them
pub sent-only : (links : List (List (List Letter))) (ls : List Letter) (k : Letter) → In k (all_of (all_of (all_posted links ls))) → In k (all_of (all_of links)) ⊎ In k ls
sent-only links ls k m =
    let on = In-to_link (all_posted links ls) k m in
    elim (all_posted-only links ls k on.from on.to on.is) [
      | inl old ↦ inl (In-from_link links k record { from = on.from; to = on.to; is = old })
      | inr new ↦ inr (new.0)
    ]

-- ---- each letter stands on the link from its sender to its receiver

-- each letter on a link has the link's sender and receiver
unfoldable pub HasEnds : List (List (List Letter)) → Type 0
HasEnds links = (from to : ℕ) (l : Letter) → In l (link links from to) → (l.from ≡ from) × (l.to ≡ to)

-- if each letter is on the link between its ends, then it is still so after letters are posted
pub HasEnds-all_posted : (links : List (List (List Letter))) (ls : List Letter) → HasEnds links → HasEnds (all_posted links ls)
unfolding HasEnds
HasEnds-all_posted links ls h =
    λ from to l m. elim (all_posted-only links ls l from to m) [ inl old ↦ h from to l old | inr new ↦ (sym (new.1), sym (new.2)) ]

-- a letter that is delivered stands on its link
pub nth_letter-In : (ls : List Letter) (i : ℕ) (l : Letter) → nth_letter ls i ≡ Some l → In l ls
unfolding nth_letter
nth_letter-In [] i l h = absurd cc
nth_letter-In (k ∷ ks) zero l h = here k ks cc
nth_letter-In (k ∷ ks) (suc i) l h = there k ks (nth_letter-In ks i l h)
