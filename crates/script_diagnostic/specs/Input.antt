-- What the program does with its source and its sink.
use Rattle.std.specs.Prelude.{ℕ, ◌≡◌, ◌<◌, ◌⊎◌, false, List, length, Option}
use Rattle.std.specs.Io.KnownBytes.{IsAtEnd, Appends}
use Rattle.zeus_io.specs.Bytes.{Takes, AppendsFront}
use Rattle.script_lang.specs.Reading.{script_read}
use Rattle.script_diagnostic.specs.Text.{explained}

-- this text explains the first fault of the bytes that were taken, which are all that there were or more than a script can have
pub record ExplainsTaken (after : Option (List ℕ)) (text taken : List ℕ) : Type 0 where
  pub whole : IsAtEnd after ⊎ (4194304 < length taken)
  pub text_is : text ≡ explained taken (script_read false taken)

abbrev pub IsExplained : Option (List ℕ) → Option (List ℕ) → List ℕ → Type 0
IsExplained before after text = Takes before after (ExplainsTaken after text)

-- a text was written whole, behind what the sink held
pub record Writes (before after : Option (List ℕ)) (P : List ℕ → Type 0) : Type 0 where
  pub text : List ℕ
  pub written : Appends before after text
  pub is_so : P text

-- the front of a text was written, and not all of it
pub record WritesFront (before after : Option (List ℕ)) (P : List ℕ → Type 0) : Type 0 where
  pub text : List ℕ
  pub written : AppendsFront before after text
  pub is_so : P text
