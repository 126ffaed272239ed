-- Laws of tables by index: what stands where, also after the table grew, lost its front, or got another element; and
-- that in range they are the lists of the code.
use Rattle.std.specs.Prelude.{ℕ, zero, suc, ◌≡◌, ◌≢◌, ◌+◌, ◌<◌, ◌≤◌, List, [], ◌∷◌, ◌++◌, length, drop, replicate, Some, None, slice_get, refl}
use Rattle.std.proofs.Common.{arith, ap, sym, ◌∙◌}
use Rattle.std.proofs.Math.ListN.{get_or, set}
use Rattle.std.proofs.lemmas.List.{get_or_default}
use Rattle.zeus_base.specs.Tables.{nth, put}

-- an index within a list reads the same after elements are appended
pub nth-append : {A : Type 0} (d : A) (xs ys : List A) (i : ℕ) → i < length xs → nth d (xs ++ ys) i ≡ nth d xs i
unfolding nth
nth-append d [] ys i h = absurd (omega arith)
nth-append d (x ∷ xs) ys zero h = refl
nth-append d (x ∷ xs) ys (suc i) h = nth-append d xs ys i (omega arith)

-- the index at the end of a list reads the element that was appended
pub nth-last : {A : Type 0} (d : A) (xs : List A) (y : A) → nth d (xs ++ y ∷ []) (length xs) ≡ y
unfolding nth
nth-last d [] y = refl
nth-last d (x ∷ xs) y = nth-last d xs y

-- an index after a cut at the front reads what stood as many places further on
pub nth-drop : {A : Type 0} (d : A) (j : ℕ) (xs : List A) (i : ℕ) → nth d (drop j xs) i ≡ nth d xs (i + j)
unfolding nth
nth-drop d zero xs i = let e : i + 0 ≡ i = omega arith in rw e
nth-drop d (suc j) [] i = refl
nth-drop d (suc j) (x ∷ xs) i = let e : i + suc j ≡ suc (i + j) = omega arith in rw e (nth-drop d j xs i)

-- the index that was written reads what was written
pub nth-put_same : {A : Type 0} (d : A) (xs : List A) (i : ℕ) (v : A) → nth d (put d xs i v) i ≡ v
unfolding nth put
nth-put_same d [] zero v = refl
nth-put_same d [] (suc i) v = nth-put_same d [] i v
nth-put_same d (x ∷ xs) zero v = refl
nth-put_same d (x ∷ xs) (suc i) v = nth-put_same d xs i v

-- each other index than the one written reads as before
pub nth-put_other : {A : Type 0} (d : A) (xs : List A) (i j : ℕ) (v : A) → i ≢ j → nth d (put d xs i v) j ≡ nth d xs j
unfolding nth put
nth-put_other d [] zero zero v h = absurd (h refl)
nth-put_other d [] zero (suc j) v h = refl
nth-put_other d [] (suc i) zero v h = refl
nth-put_other d [] (suc i) (suc j) v h = nth-put_other d [] i j v (λ e. h (ap suc e))
nth-put_other d (x ∷ xs) zero zero v h = absurd (h refl)
nth-put_other d (x ∷ xs) zero (suc j) v h = refl
nth-put_other d (x ∷ xs) (suc i) zero v h = refl
nth-put_other d (x ∷ xs) (suc i) (suc j) v h = nth-put_other d xs i j v (λ e. h (ap suc e))

-- if the index is within the list, then writing there leaves the length
pub length-put : {A : Type 0} (d : A) (xs : List A) (i : ℕ) (v : A) → i < length xs → length (put d xs i v) ≡ length xs
unfolding put
length-put d [] i v h = absurd (omega arith)
length-put d (x ∷ xs) zero v h = refl
length-put d (x ∷ xs) (suc i) v h = ap suc (length-put d xs i v (omega arith))

-- to put what stands there already changes nothing
pub put-nth : {A : Type 0} (d : A) (xs : List A) (i : ℕ) → i < length xs → put d xs i (nth d xs i) ≡ xs
unfolding nth put
put-nth d [] i h = absurd (omega arith)
put-nth d (x ∷ xs) zero h = refl
put-nth d (x ∷ xs) (suc i) h = ap (λ l. x ∷ l) (put-nth d xs i (omega arith))

-- past the end stands the default
pub nth-past : {A : Type 0} (d : A) (xs : List A) (i : ℕ) → length xs ≤ i → nth d xs i ≡ d
unfolding nth
nth-past d [] i h = refl
nth-past d (x ∷ xs) zero h = absurd (omega arith)
nth-past d (x ∷ xs) (suc i) h = nth-past d xs i (omega arith)

-- an index within a list of one value repeated reads that value
pub nth-replicate : {A : Type 0} (d v : A) (n i : ℕ) → i < n → nth d (replicate n v) i ≡ v
unfolding nth
nth-replicate d v zero i h = absurd (omega arith)
nth-replicate d v (suc n) zero h = refl
nth-replicate d v (suc n) (suc i) h = nth-replicate d v n i (omega arith)

-- ---- the lists of the code

-- reading with a default is std's get_or
pub nth-get_or : {A : Type 0} (d : A) (xs : List A) (i : ℕ) → nth d xs i ≡ get_or xs i d
unfolding nth
nth-get_or d [] i = refl
nth-get_or d (x ∷ xs) zero = refl
nth-get_or d (x ∷ xs) (suc i) = nth-get_or d xs i

-- the element at a place in range, whatever the default
pub nth_read : {A : Type 0} (d : A) (xs : List A) (i : ℕ) (x : A) → i < length xs → x ≡ get_or xs i x → nth d xs i ≡ x
nth_read d xs i x h e = nth-get_or d xs i ∙ get_or_default xs i d x h ∙ sym e

-- the element at a place in range is its own default
pub nth_here : {A : Type 0} (d : A) (xs : List A) (i : ℕ) → i < length xs → nth d xs i ≡ get_or xs i (nth d xs i)
nth_here d xs i h = nth-get_or d xs i ∙ get_or_default xs i d (nth d xs i) h

-- two reads of one place are one
pub same_read : {A : Type 0} (xs : List A) (i : ℕ) (x y : A) → i < length xs → x ≡ get_or xs i x → y ≡ get_or xs i y → x ≡ y
same_read xs i x y h e f = e ∙ get_or_default xs i x y h ∙ sym f

-- what a look by index finds, or does not find
pub nth_found : {A : Type 0} (d : A) (xs : List A) (i : ℕ) (x : A) → Some x ≡ slice_get xs i → nth d xs i ≡ x
unfolding nth
nth_found d [] i x e = cc
nth_found d (y ∷ ys) zero x e = cc
nth_found d (y ∷ ys) (suc i) x e = nth_found d ys i x e

-- if a list has nothing at an index, then reading there gives the default
pub nth_none : {A : Type 0} (d : A) (xs : List A) (i : ℕ) → None ≡ slice_get xs i → nth d xs i ≡ d
unfolding nth
nth_none d [] i e = refl
nth_none d (y ∷ ys) zero e = cc
nth_none d (y ∷ ys) (suc i) e = nth_none d ys i e

-- if the index is within the list, then writing there is std's set
pub put-set : {A : Type 0} (d : A) (xs : List A) (i : ℕ) (v : A) → i < length xs → put d xs i v ≡ set xs i v
unfolding put
put-set d [] i v h = absurd (omega arith)
put-set d (x ∷ xs) zero v h = refl
put-set d (x ∷ xs) (suc i) v h = ap (λ l. x ∷ l) (put-set d xs i v (omega arith))

-- if what stands at an index is set there again, then the list stays
pub set-nth : {A : Type 0} (d : A) (xs : List A) (i : ℕ) → i < length xs → set xs i (nth d xs i) ≡ xs
set-nth d xs i h = sym (put-set d xs i (nth d xs i) h) ∙ put-nth d xs i h

-- the index that was set reads what was set
pub nth-set_same : {A : Type 0} (d : A) (xs : List A) (i : ℕ) (v : A) → i < length xs → nth d (set xs i v) i ≡ v
nth-set_same d xs i v h = ap (λ l. nth d l i) (sym (put-set d xs i v h)) ∙ nth-put_same d xs i v
