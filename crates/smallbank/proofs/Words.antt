-- Words of a command line.
use Rattle.std.proofs.Common.{◌≡◌, ◌<◌, ◌++◌, List, [], ◌∷◌, length, drop, arith, false, true, Option, Some, None, refl}
use Rattle.std.specs.Prelude.{IsSome, ◌↔◌}
use Rattle.std.specs.Option.{option_to_list}

-- what is left behind the first item, if there is one, are the items but the first
pub drop-next : {A : Type 0} (first : Option A) (rest all : List A) → all ≡ option_to_list first ++ rest → IsSome first ↔ (0 < length all) → rest ≡ drop 1 all
drop-next (Some x) rest all e some = rw e refl
drop-next None rest [] e some = cc e
drop-next None rest (x ∷ xs) e some = absurd (let none : false ≡ true = some.1 (omega arith) in cc none)
