-- A byte that is put before digits.
use Rattle.std.proofs.Common.{ℕ, ◌≡◌, ◌<◌, ◌≤◌, ◌+◌, ◌-◌, List, [], ◌∷◌, ◌++◌, length, drop, set, arith}
use Rattle.std.proofs.lemmas.List.{drop-set, append-nil}

-- a byte that is put before digits at the end of a text
pub behind : (text digits : List ℕ) (at byte : ℕ) → 0 < at → at ≤ length text → drop at text ≡ digits ++ [] → drop (at - 1) (set text (at - 1) byte) ≡ byte ∷ digits
behind text digits at byte h short written =
    let e = drop-set text (at - 1) byte (omega arith) in
    let f : at - 1 + 1 ≡ at = omega arith in
    let s = append-nil digits in
    cc (e, f, s, written)
