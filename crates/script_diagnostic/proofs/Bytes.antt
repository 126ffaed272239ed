-- One byte of a text after another.
use Rattle.std.proofs.Common.{ℕ, suc, ◌≡◌, ◌<◌, ◌+◌, List, [], ◌∷◌, ◌++◌, length, get_or, drop, append_assoc, add-one}
use Rattle.std.proofs.Math.Seq.{drop-cons}

-- the next of the bytes that are left
pub byte_more : (F : List ℕ → List ℕ) (g : ℕ → List ℕ) → ((x : ℕ) (xs : List ℕ) → F (x ∷ xs) ≡ g x ++ F xs) → (xs : List ℕ) (i : ℕ) (out after whole : List ℕ) → i < length xs → out ++ F (drop i xs) ≡ whole → after ≡ out ++ g (get_or xs i 0)
    → after ++ F (drop (i + 1) xs) ≡ whole
byte_more F g cons xs i out after whole h kept added =
    let e = append_assoc out (g (get_or xs i 0)) (F (drop (suc i) xs)) in
    let f = cons (get_or xs i 0) (drop (suc i) xs) in
    let s = drop-cons xs i 0 h in
    rw add-one (cc (e, f, s, kept, added))
