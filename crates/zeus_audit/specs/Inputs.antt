-- An input of the audit: a script, and behind it a report.
use Rattle.std.specs.Prelude.{◌≡◌, ℕ, suc, ◌+◌, false, nat_lt, List, [], ◌∷◌, length, take, drop, codes, Result, Ok, Err, if◌then◌else◌}
use Rattle.std.specs.Str.{bytes_eq}
use Rattle.zeus_model.specs.declared.fault.Kind.TheVariants as kinds
use Rattle.zeus_model.specs.declared.fault.ScriptFault.{ScriptFault}
use Rattle.zeus_model.specs.declared.script.Script.{Script}
use Rattle.script_lang.specs.Cut.{cut}
use Rattle.script_lang.specs.Reading.{fault_at, script_read}
use Rattle.script_lang.specs.declared.reading.ReadScript.{ReadScript}
use Rattle.script_lang.specs.declared.reading.ReadScript.TheVariants as errors
use Rattle.zeus_audit.specs.declared.verdict.Verdict.{Verdict}
use Rattle.zeus_audit.specs.Auditing.{audited}

-- how many bytes there are up to and with the first line `end`; all, if there is no such line
unfoldable pub script_length : List (List ℕ) → ℕ
script_length [] = 0
script_length (p ∷ []) = length p
script_length (p ∷ q ∷ ps) = if bytes_eq p (codes "end") then suc (length p) else suc (length p) + script_length (q ∷ ps)

-- the bytes of the script
abbrev pub script_part : List ℕ → List ℕ
script_part bytes = take (script_length (cut 10 bytes)) bytes

-- the bytes of the report
abbrev pub report_part : List ℕ → List ℕ
report_part bytes = drop (script_length (cut 10 bytes)) bytes

-- what an audit finds behind a script that was read
unfoldable pub behind_script : Result Script ScriptFault → List ℕ → Result Verdict ScriptFault
behind_script (Ok s) text = Ok (audited s text)
behind_script (Err f) text = Err f

-- what an audit of an input finds, or the fault of its script
unfoldable pub input_audited : List ℕ → Result Verdict ScriptFault
input_audited bytes =
    if nat_lt 2147483647 (length bytes) then Err (fault_at 0 kinds.Size) else
    behind_script (script_read false (script_part bytes)) (report_part bytes)

-- the input was audited so, unless memory ran out
abbrev pub AuditsInput : Result Verdict ReadScript → Result Verdict ScriptFault → Type 0
AuditsInput (Ok verdict) found = found ≡ Ok verdict
AuditsInput (Err (errors.Fault f)) found = found ≡ Err f
AuditsInput (Err errors.NoMemory) found = Unit {0}
