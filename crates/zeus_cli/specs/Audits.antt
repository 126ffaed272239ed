-- The answer to `audit`.
use Rattle.std.specs.Prelude.{ℕ, ◌≡◌, ◌≤◌, ◌⊎◌, List, Option, length}
use Rattle.std.specs.Io.KnownBytes.{IsAtEnd}
use Rattle.zeus_audit.specs.Auditing.{audited}
use Rattle.zeus_audit.specs.Inputs.{input_audited, report_part, script_part}
use Rattle.zeus_audit.specs.Serial.{IsSerialReport}
use Rattle.zeus_audit.specs.Verdicts.{verdict_text}
use Rattle.zeus_audit.specs.declared.verdict.Verdict.{Verdict}
use Rattle.zeus_audit.specs.declared.verdict.Verdict.TheVariants.{Sound, Fails}
use Rattle.zeus_io.specs.Bytes.{Takes}
use Rattle.zeus_io.specs.declared.status.Status.{Status}
use Rattle.zeus_io.specs.declared.status.Status.TheVariants.{Done, Script as ScriptStatus, Unsound}
use Rattle.zeus_model.specs.Scripts.{IsSpelled}
use Rattle.zeus_model.specs.declared.script.Script.{Script}
use Rattle.zeus_cli.specs.Refusal.{IsRefused}

-- the longest input, in bytes
abbrev pub longest_audited : ℕ
longest_audited = 2147483647

-- bytes are an input of an audit: up to and with the first line `end` they are the text of this script; the rest is its report
pub record IsAuditInput (bytes : List ℕ) : Type 0 where
  pub script : Script
  pub spelled : IsSpelled (script_part bytes) script
  pub few_bytes : length bytes ≤ longest_audited

abbrev pub IsNoAuditInput : List ℕ → Type 0
IsNoAuditInput bytes = ¬ IsAuditInput bytes

-- an audit of the bytes finds this; a report that it finds sound is a serial history
pub record Finds (verdict : Verdict) (bytes : List ℕ) : Type 0 where
  pub input : IsAuditInput bytes
  pub verdict_is : verdict ≡ audited input.script (report_part bytes)
  pub serial : verdict ≡ Sound → IsSerialReport input.script (report_part bytes)

abbrev pub verdict_status : Verdict → Status
verdict_status Sound = Done
verdict_status (Fails line rule) = Unsound

-- the source was read to its end, and what an audit of the bytes taken finds is told by this status and this text
pub record IsVerdict (before after : Option (List ℕ)) (status : Status) (text : List ℕ) : Type 0 where
  pub verdict : Verdict
  pub to_end : IsAtEnd after
  pub taken : Takes before after (Finds verdict)
  pub status_is : status ≡ verdict_status verdict
  pub text_is : text ≡ verdict_text verdict

-- bytes were taken whose script is none, or too many, and this text is the line of their fault
abbrev pub IsAuditRefusal : Option (List ℕ) → Option (List ℕ) → List ℕ → Type 0
IsAuditRefusal before after text = Takes before after (IsRefused input_audited IsNoAuditInput longest_audited after text)

-- what an audit finds, or the line for bytes that are no input of one
abbrev pub IsAuditAnswer : Option (List ℕ) → Option (List ℕ) → Status → List ℕ → Type 0
IsAuditAnswer before after status text = IsVerdict before after status text ⊎ ((status ≡ ScriptStatus) × IsAuditRefusal before after text)
