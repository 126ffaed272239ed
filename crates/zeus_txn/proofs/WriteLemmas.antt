-- Reading and writing short lists of writes by place.
use Rattle.std.proofs.Common.{ℕ, zero, suc, Bool, false, ◌==◌, ◌≡◌, ◌+◌, ◌<◌, ◌≤◌, List, [], ◌∷◌, ◌++◌, Some, None, length, drop, get_or, nat_lt, if◌then◌else◌, refl, ◌∙◌, arith}
use Rattle.std.proofs.Math.ListN.{set}
use Rattle.std.proofs.lemmas.Bool.Decides.{nat_tests}
use Rattle.std.proofs.lemmas.List.{take-append-le, take_all}
use Rattle.std.specs.List.{position, position_or_len, refill}
use Rattle.zeus_base.specs.declared.value.Value.{Value}
use Rattle.zeus_base.specs.declared.value.Value.TheVariants.{Num}
use Rattle.zeus_txn.specs.Run.{latest, rewritten, value_at}
use Rattle.zeus_txn.proofs.Rests.{drop-here, drop-end}

-- the latest write of an object from a place on is the write at that place, if it is of the object, else that of the places after
pub latest-step : (ws : List (ℕ × Value)) (i : ℕ) (w : ℕ × Value) (x : ℕ) (v : Value) → i < length ws → w ≡ get_or ws i w → latest (drop i ws) x v ≡ (if x == w.0 then w.1 else latest (drop (i + 1) ws) x v)
unfolding latest
latest-step ws i w x v h is = rw (drop-here ws i w h is) refl

-- if the place is past the last write, then the latest write from there is the default
pub latest-end : (ws : List (ℕ × Value)) (i : ℕ) (x : ℕ) (v : Value) → length ws ≤ i → latest (drop i ws) x v ≡ v
unfolding latest
latest-end ws i x v h = rw (drop-end ws i h) refl

-- the value of an object from a place on is the value at that place, if its name stands there, else that of the places after
pub value_at-step : (ns : List ℕ) (vs : List Value) (i n : ℕ) (v : Value) (x : ℕ) → i < length ns → i < length vs → n ≡ get_or ns i n → v ≡ get_or vs i v → value_at (drop i ns) (drop i vs) x ≡ (if x == n then v else value_at (drop (i + 1) ns) (drop (i + 1) vs) x)
unfolding value_at
value_at-step ns vs i n v x h g is was = rw (drop-here ns i n h is, drop-here vs i v g was) refl

-- a write of an object stands in its place, or comes last where there is none
pub rewritten-place : (ws : List (ℕ × Value)) (x : ℕ) (v : Value) → rewritten ws x v ≡ (if nat_lt (position_or_len (λ w. x == w.0) ws) (length ws) then set ws (position_or_len (λ w. x == w.0) ws) (x, v) else ws ++ (x, v) ∷ [])
unfolding rewritten
rewritten-place [] x v = refl
rewritten-place (w ∷ ws) x v = let rest = rewritten-place ws x v in grind (arith, nat_tests)

-- if no write is of the object, then its write goes at the end
pub rewritten-new : (ws : List (ℕ × Value)) (x : ℕ) (v : Value) → position (λ w. x == w.0) ws ≡ None → rewritten ws x v ≡ ws ++ (x, v) ∷ []
rewritten-new ws x v h = let at = rewritten-place ws x v in grind (arith, nat_tests)

-- if the write at a place is the first of the object, then the new write takes that place
pub rewritten-old : (ws : List (ℕ × Value)) (x : ℕ) (v : Value) (k : ℕ) → position (λ w. x == w.0) ws ≡ Some k → rewritten ws x v ≡ set ws k (x, v)
rewritten-old ws x v k h = let at = rewritten-place ws x v in grind (arith, nat_tests)

-- a place that is found is in the list
pub position-below : {A : Type 0} (f : A → Bool) (xs : List A) (k : ℕ) → position f xs ≡ Some k → k < length xs
position-below f xs k h = grind (arith, nat_tests)

-- a slice that was written through is what the vector has
pub refill-whole : {A : Type 0} (n : ℕ) (xs ys : List A) → n ≡ length ys → refill n xs ys ≡ ys
refill-whole n xs ys h =
    take-append-le n ys (drop (length ys) xs) (omega arith) ∙ take_all n ys (omega arith)

-- an element inside a list is the same whatever the default
get_or-default : {A : Type 0} (xs : List A) (i : ℕ) (d e : A) → i < length xs → get_or xs i d ≡ get_or xs i e
get_or-default [] i d e h = absurd (omega arith)
get_or-default (x ∷ xs) zero d e h = refl
get_or-default (x ∷ xs) (suc i) d e h = get_or-default xs i d e (omega arith)

-- another name is passed by
pub value_at-skip : (ns : List ℕ) (vs : List Value) (i n x : ℕ) → i < length ns → i < length vs → n ≡ get_or ns i n → (x == n) ≡ false → value_at (drop i ns) (drop i vs) x ≡ value_at (drop (i + 1) ns) (drop (i + 1) vs) x
value_at-skip ns vs i n x h g is other =
    let v = get_or vs i (Num 0) in
    let step = value_at-step ns vs i n v x h g is (get_or-default vs i (Num 0) v g) in
    rw other at step
