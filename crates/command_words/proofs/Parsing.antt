-- What a word parses to, and the number that it spells.
use Rattle.std.proofs.Common.{ℕ, Bool, false, true, ◌≡◌, ◌<◌, ◌≤◌, ◌^◌, List, arith, refl, sym, ◌∙◌}
use Rattle.std.specs.Prelude.{Ok, Err, Result, decimal}
use Rattle.std.specs.Str.{bytes_eq}
use Rattle.std.specs.Str.Parse.{ParsesUnsigned}
use Rattle.std.proofs.lemmas.Fmt.{parse-decimal}
use Rattle.std.proofs.lemmas.Slice.Eq.{bytes_eq-Decides}
use Rattle.command_words.specs.Numbers.{IsNumberIn}

-- a word that does not parse is no number of a range
pub refused : {E : Type 0} (lowest highest n : ℕ) (bs : List ℕ) (r : Result ℕ E) (e : E) → r ≡ Err e → highest < 2 ^ 64 → ParsesUnsigned 64 10 bs r → ¬ IsNumberIn lowest highest bs n
refused {E} lowest highest n bs r e fails h p = λ is.
    let high = is.high in
    let same : r ≡ Ok n = parse-decimal 64 n bs r (omega arith) (omega arith) is.spelled p in
    cc

-- a word that spells a number parses to it
pub parsed : {E : Type 0} (n number : ℕ) (bs : List ℕ) (r : Result ℕ E) → r ≡ Ok number → n < 2 ^ 64 → bs ≡ decimal n → ParsesUnsigned 64 10 bs r → number ≡ n
parsed {E} n number bs r is h spelled p =
    let same : r ≡ Ok n = parse-decimal 64 n bs r h h spelled p in
    cc

-- two texts that are one are found to be so
pub told_apart : (xs ys : List ℕ) (r : Bool) → r ≡ bytes_eq xs ys → r ≡ false → ¬ (xs ≡ ys)
told_apart xs ys r is e = λ same. let one = (bytes_eq-Decides xs ys).1 same in cc
