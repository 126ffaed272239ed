-- Whether a value is a number, and whether two values are one.
use Rattle.std.specs.Prelude.{Bool, true, false, ◌==◌}
use Rattle.std.specs.Str.{bytes_eq}
use Rattle.zeus_base.specs.declared.value.Value.{Value}
use Rattle.zeus_base.specs.declared.value.Value.TheVariants.{Num, Text}

-- whether two values are one: the same number, or the same text
unfoldable pub same_value : Value → Value → Bool
same_value (Num m) (Num n) = m == n
same_value (Num m) (Text t) = false
same_value (Text s) (Num n) = false
same_value (Text s) (Text t) = bytes_eq s t

-- whether the value is a number
unfoldable pub is_num : Value → Bool
is_num (Num n) = true
is_num (Text t) = false
