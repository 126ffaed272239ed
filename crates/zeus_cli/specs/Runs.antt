-- The answer to `run`.
use Rattle.std.specs.Prelude.{ℕ, ◌≡◌, ◌⊎◌, false, List, Option}
use Rattle.std.specs.Io.KnownBytes.{IsAtEnd}
use Rattle.zeus_io.specs.Bytes.{Takes}
use Rattle.zeus_io.specs.declared.status.Status.{Status}
use Rattle.zeus_io.specs.declared.status.Status.TheVariants.{Done, Script as ScriptStatus}
use Rattle.zeus_model.specs.declared.script.Script.{Script}
use Rattle.zeus_model.specs.ReportText.{report}
use Rattle.zeus_model.specs.Scripts.{IsSpelled}
use Rattle.printed_history.specs.Printed.{PrintsHistory}
use Rattle.script_lang.specs.Reading.{script_read}
use Rattle.zeus_cli.specs.Refusal.{IsRefused}

-- the longest script, in bytes
abbrev pub longest : ℕ
longest = 4194304

-- these bytes are the text of no script
abbrev pub IsNoScript : List ℕ → Type 0
IsNoScript bytes = (s : Script) → ¬ IsSpelled bytes s

-- the source was read to its end, and the bytes taken are the text of this script
pub record TakesScript (before after : Option (List ℕ)) (s : Script) : Type 0 where
  pub to_end : IsAtEnd after
  pub taken : Takes before after (λ taken. IsSpelled taken s)

-- a script was taken, and its report is this text, which prints the history of its run
pub record IsReport (before after : Option (List ℕ)) (text : List ℕ) : Type 0 where
  pub script : Script
  pub taken : TakesScript before after script
  pub text_is : text ≡ report script
  pub printed : PrintsHistory script text

-- the text of no script was taken, and this text is the line of its fault
abbrev pub IsRefusal : Option (List ℕ) → Option (List ℕ) → List ℕ → Type 0
IsRefusal before after text = Takes before after (IsRefused (script_read false) IsNoScript longest after text)

-- the report of the script, or the line for bytes that are none
abbrev pub IsRunAnswer : Option (List ℕ) → Option (List ℕ) → Status → List ℕ → Type 0
IsRunAnswer before after status text = ((status ≡ Done) × IsReport before after text) ⊎ ((status ≡ ScriptStatus) × IsRefusal before after text)
