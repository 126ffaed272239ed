-- Where bytes are cut, and that parts without the separator are what the cut gives back.
use Rattle.std.proofs.Common.{◌≡◌, ◌≢◌, ℕ, zero, suc, ◌-◌, ◌<◌, ◌≤◌, Bool, true, false, List, [], ◌∷◌, ◌++◌, length, get_or, take, drop, refl, arith, cond}
use Rattle.std.specs.Prelude.{◌==◌}
use Rattle.std.proofs.lemmas.Bool.{eq-eqb, ne_eqb}
use Rattle.std.proofs.lemmas.Grind.{common_steps}
use Rattle.script_lang.specs.Cut.{with_byte, cut}

-- the separator is none of the bytes
unfoldable pub Lacks : ℕ → List ℕ → Type 0
Lacks d [] = Unit {0}
Lacks d (b ∷ bs) = (b ≢ d) × Lacks d bs

-- if two lists lack the separator, then so do both put together
pub Lacks-append : (d : ℕ) (xs ys : List ℕ) → Lacks d xs → Lacks d ys → Lacks d (xs ++ ys)
unfolding Lacks
Lacks-append d [] ys h g = g
Lacks-append d (x ∷ xs) ys h g = (h.0, Lacks-append d xs ys h.1 g)

-- if the bytes before a place lack the separator and the byte there is another, then the bytes up to and with it lack it
pub Lacks-take_more : (d i : ℕ) (bs : List ℕ) → i < length bs → Lacks d (take i bs) → get_or bs i 0 ≢ d → Lacks d (take (suc i) bs)
unfolding Lacks
Lacks-take_more d i [] lt h g = absurd (omega arith)
Lacks-take_more d zero (b ∷ bs) lt h g = (g, tt)
Lacks-take_more d (suc i) (b ∷ bs) lt h g = (h.0, Lacks-take_more d i bs (omega arith) h.1 g)

-- if bytes lack the separator, then the cut gives them back as one part
pub cut_free : (d : ℕ) (bs : List ℕ) → Lacks d bs → cut d bs ≡ bs ∷ []
unfolding Lacks cut with_byte
cut_free d [] h = refl
cut_free d (b ∷ bs) h = rw (ne_eqb b d h.0, cut_free d bs h.1) refl

-- if the bytes before a separator lack it, then they are the first part of the cut, and the rest is cut on
pub cut_front : (d : ℕ) (front rest : List ℕ) → Lacks d front → cut d (front ++ d ∷ rest) ≡ front ∷ cut d rest
unfolding Lacks cut with_byte
cut_front d [] rest h = rw (eq-eqb d d refl) refl
cut_front d (b ∷ bs) rest h = rw (ne_eqb b d h.0, cut_front d bs rest h.1) refl

-- if the byte at a place is the separator and none before it is, then the cut is there, and the rest is cut on
pub cut_at : (d i : ℕ) (bs : List ℕ) → i < length bs → Lacks d (take i bs) → get_or bs i 0 ≡ d → cut d bs ≡ take i bs ∷ cut d (drop (suc i) bs)
unfolding Lacks cut with_byte
cut_at d i [] lt h g = absurd (omega arith)
cut_at d zero (b ∷ bs) lt h g = rw (eq-eqb b d g) refl
cut_at d (suc i) (b ∷ bs) lt h g = rw (ne_eqb b d h.0, cut_at d i bs (omega arith) h.1 g) refl

-- there is always a part
unfoldable pub first_part : List (List ℕ) → List ℕ
first_part [] = []
first_part (p ∷ ps) = p

unfoldable pub other_parts : List (List ℕ) → List (List ℕ)
other_parts [] = []
other_parts (p ∷ ps) = ps

-- a cut is its first part and its other parts
pub cut_some : (d : ℕ) (bs : List ℕ) → cut d bs ≡ first_part (cut d bs) ∷ other_parts (cut d bs)
unfolding cut first_part other_parts with_byte
cut_some d [] = refl
cut_some d (b ∷ bs) = go (b == d) (cut d bs)
  where
    go : (t : Bool) (ps : List (List ℕ)) → cond t ([] ∷ ps) (with_byte b ps) ≡ first_part (cond t ([] ∷ ps) (with_byte b ps)) ∷ other_parts (cond t ([] ∷ ps) (with_byte b ps))
    go true ps = refl
    go false [] = refl
    go false (p ∷ ps) = refl

-- a cut has at least one part
pub cut_not_none : (d : ℕ) (bs : List ℕ) → cut d bs ≡ [] → ⊥
cut_not_none d bs h = let some = cut_some d bs in absurd cc

-- if no byte up to a place past the end is the separator, then the cut gives the bytes back as one part
pub cut_whole : (d i : ℕ) (bs : List ℕ) → length bs ≤ i → Lacks d (take i bs) → cut d bs ≡ bs ∷ []
cut_whole d i bs le h =
    let whole : take i bs ≡ bs = grind (arith, common_steps) in
    cut_free d bs (rw whole at h)

-- as many bytes as are left behind a place are all of those behind it
pub rest_of : (bs : List ℕ) (i : ℕ) → take (length bs - i) (drop i bs) ≡ drop i bs
rest_of bs i = grind (arith, common_steps)

length-with_byte : (b : ℕ) (ps : List (List ℕ)) → length (with_byte b ps) ≤ suc (length ps)
unfolding with_byte
length-with_byte b [] = omega arith
length-with_byte b (p ∷ ps) = omega arith

-- no more parts than bytes, and one
pub length-cut : (d : ℕ) (bs : List ℕ) → length (cut d bs) ≤ suc (length bs)
unfolding cut
length-cut d [] = omega arith
length-cut d (b ∷ bs) = go (b == d) (cut d bs) (length-cut d bs) (omega (arith, length-with_byte b (cut d bs), length-cut d bs))
  where
    go : (t : Bool) (ps : List (List ℕ)) → length ps ≤ suc (length bs) → length (with_byte b ps) ≤ suc (suc (length bs)) → length (cond t ([] ∷ ps) (with_byte b ps)) ≤ suc (suc (length bs))
    go true ps h g = omega arith
    go false ps h g = g
