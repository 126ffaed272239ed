-- What is found in an input, of what is found in its parts.
use Rattle.std.proofs.Common.{◌≡◌, ℕ, ◌≤◌, ◌<◌, false, List, length, take, drop, refl, ◌∙◌}
use Rattle.std.specs.Prelude.{Ok, Err}
use Rattle.std.proofs.lemmas.Bool.{le-ltb, lt-ltb}
use Rattle.zeus_model.specs.declared.fault.Kind.TheVariants as kinds
use Rattle.zeus_model.specs.declared.script.Script.{Script}
use Rattle.script_lang.specs.Cut.{cut}
use Rattle.script_lang.specs.Reading.{fault_at, script_read, ReadsScript}
use Rattle.script_lang.specs.declared.reading.ReadScript.{ReadScript}
use Rattle.script_lang.specs.declared.reading.ReadScript.TheVariants as errors
use Rattle.zeus_audit.specs.declared.verdict.Verdict.{Verdict}
use Rattle.zeus_audit.specs.Auditing.{audited}
use Rattle.zeus_audit.specs.Inputs.{script_length, behind_script, input_audited, AuditsInput}

-- too many bytes
pub input_long : (bytes : List ℕ) → 2147483647 < length bytes → input_audited bytes ≡ Err (fault_at 0 kinds.Size)
unfolding input_audited
input_long bytes many = rw (lt-ltb 2147483647 (length bytes) many) refl

input_short : (bytes : List ℕ) (n : ℕ) → length bytes ≤ 2147483647 → n ≡ script_length (cut 10 bytes) → input_audited bytes ≡ behind_script (script_read false (take n bytes)) (drop n bytes)
unfolding input_audited
input_short bytes n few is = rw (is, le-ltb 2147483647 (length bytes) few) refl

-- behind a script that was read
pub input_read : (bytes : List ℕ) (n : ℕ) (s : Script) (v : Verdict) → length bytes ≤ 2147483647 → n ≡ script_length (cut 10 bytes) → script_read false (take n bytes) ≡ Ok s → v ≡ audited s (drop n bytes) → input_audited bytes ≡ Ok v
unfolding behind_script
input_read bytes n s v few is read found = input_short bytes n few is ∙ rw (read, found) refl

-- of a script with a fault
pub input_fault : (bytes : List ℕ) (n : ℕ) (e : ReadScript) → length bytes ≤ 2147483647 → n ≡ script_length (cut 10 bytes) → ReadsScript (Err e) (script_read false (take n bytes)) → AuditsInput (Err e) (input_audited bytes)
unfolding behind_script
input_fault bytes n (errors.Fault f) few is read = input_short bytes n few is ∙ rw read refl
input_fault bytes n errors.NoMemory few is read = tt
