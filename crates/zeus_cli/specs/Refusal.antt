-- The lines for bytes that are no input of their command.
use Rattle.std.specs.Prelude.{ℕ, ◌≡◌, ◌<◌, ◌⊎◌, List, ◌++◌, Option, Result, Err, codes, length}
use Rattle.std.specs.Io.KnownBytes.{IsAtEnd}
use Rattle.zeus_model.specs.ReportText.{line_end}
use Rattle.zeus_model.specs.ReportWords.{number}
use Rattle.zeus_model.specs.Spelling.{word}
use Rattle.zeus_model.specs.declared.fault.Kind.{Kind}
use Rattle.zeus_model.specs.declared.fault.Kind.TheVariants.{Missing, LineEnd, Word, Text, Number, Range, Name, Twice, Unknown, Long, Extra, Live, Size}
use Rattle.zeus_model.specs.declared.fault.ScriptFault.{ScriptFault}

abbrev pub kind_text : Kind → List ℕ
kind_text Missing = codes "missing"
kind_text LineEnd = codes "line end"
kind_text Word = codes "word"
kind_text Text = codes "text"
kind_text Number = codes "number"
kind_text Range = codes "range"
kind_text Name = codes "name"
kind_text Twice = codes "twice"
kind_text Unknown = codes "unknown"
kind_text Long = codes "long"
kind_text Extra = codes "extra"
kind_text Live = codes "live"
kind_text Size = codes "size"

-- `script LINE KIND`
abbrev pub fault_line : ScriptFault → List ℕ
fault_line f = codes "script" ++ number f.line ++ word (kind_text f.kind) ++ line_end

-- what reading bytes gives: what they are, or their fault
abbrev pub Reading : Type 0 → Type 0
Reading A = List ℕ → Result A ScriptFault

-- the line is that of the fault that reading the bytes gives
pub record IsFaultLine {A : Type 0} (read : Reading A) (bytes text : List ℕ) : Type 0 where
  pub fault : ScriptFault
  pub is_read : read bytes ≡ Err fault
  pub text_is : text ≡ fault_line fault

-- the bytes are none that the command takes, and all that there were or more than it can take; this text is the line of
-- their fault
pub record IsRefused {A : Type 0} (read : Reading A) (IsNone : List ℕ → Type 0) (most : ℕ) (after : Option (List ℕ)) (text taken : List ℕ) : Type 0 where
  pub whole : IsAtEnd after ⊎ (most < length taken)
  pub none : IsNone taken
  pub line : IsFaultLine read taken text
