-- Words of a command line.
use Rattle.std.proofs.Common.{ℕ, ◌≡◌, ◌<◌, ◌++◌, List, [], ◌∷◌, length, drop, arith, false, true, Option, Some, None, refl}
use Rattle.std.specs.Prelude.{IsSome, ◌↔◌}
use Rattle.std.specs.Option.{option_to_list}

-- what stands behind the first word
pub rest_same : {x y : List ℕ} {xs ys zs : List (List ℕ)} → zs ≡ x ∷ xs → zs ≡ y ∷ ys → xs ≡ ys
rest_same {x} {y} {xs} {ys} {zs} e f = cc (e, f)

-- what is left behind the first word, if there is one, are the words but the first
pub drop-next : {A : Type 0} (first : Option A) (rest all : List A) → all ≡ option_to_list first ++ rest → IsSome first ↔ (0 < length all) → rest ≡ drop 1 all
drop-next (Some x) rest all e some = rw e refl
drop-next None rest [] e some = cc e
drop-next None rest (x ∷ xs) e some = absurd (let none : false ≡ true = some.1 (omega arith) in cc none)
