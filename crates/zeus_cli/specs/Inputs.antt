-- What the source gives to a command.
use Rattle.std.specs.Prelude.{ℕ, ◌≡◌, ◌<◌, List, Option, Some, length}
use Rattle.std.specs.Io.KnownBytes.{Consumes, IsAtEnd}
use Rattle.zeus_io.specs.Bytes.{Takes}
use Rattle.zeus_cli.specs.declared.input.Input.{Input}
use Rattle.zeus_cli.specs.declared.input.Input.TheVariants.{Whole, TooLong}

-- these bytes are all that the source had left
pub record TakesAll (before after : Option (List ℕ)) (bytes : List ℕ) : Type 0 where
  pub to_end : IsAtEnd after
  pub from_front : Consumes before after bytes

-- more bytes were taken than the command can take
abbrev pub TakesMore : ℕ → Option (List ℕ) → Option (List ℕ) → Type 0
TakesMore most before after = Takes before after (λ taken. most < length taken)

-- all bytes were taken, or more than the most
abbrev pub TakesInput : ℕ → Option (List ℕ) → Option (List ℕ) → Input → Type 0
TakesInput most before after (Whole bytes) = TakesAll before after bytes.items
TakesInput most before after TooLong = TakesMore most before after

-- the source tells the bytes that it has left, and P holds of them
pub record Holds (before : Option (List ℕ)) (P : List ℕ → Type 0) : Type 0 where
  pub bytes : List ℕ
  pub known : before ≡ Some bytes
  pub is_so : P bytes
