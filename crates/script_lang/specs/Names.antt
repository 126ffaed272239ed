-- Names of objects as words.
use Rattle.std.specs.Prelude.{ℕ, suc, List, [], ◌∷◌, Option, Some, None, option_map, Result, Ok, Err, if◌then◌else◌}
use Rattle.std.specs.Str.{bytes_eq}
use Rattle.zeus_model.specs.declared.fault.Kind.{Kind}
use Rattle.zeus_model.specs.declared.fault.Kind.TheVariants as kinds
pub use Rattle.zeus_model.specs.Words.{is_letter, is_name_byte}
unfoldable pub use Rattle.zeus_model.specs.Words.{is_name}

-- the place of a name among names
unfoldable pub find : List (List ℕ) → List ℕ → Option ℕ
find [] w = None
find (n ∷ ns) w = if bytes_eq w n then Some 0 else option_map suc (find ns w)

-- the name that a word is
unfoldable pub name_of_word : List ℕ → Result (List ℕ) Kind
name_of_word w = if is_name w then Ok w else Err kinds.Name
