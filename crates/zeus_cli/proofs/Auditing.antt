-- What an audit of bytes says of them.
use Rattle.std.proofs.Common.{ℕ, ◌≡◌, ◌<◌, ◌≤◌, Bool, false, true, nat_lt, List, length, Option, Ok, Err, ap, inl, refl, arith}
use Rattle.std.specs.Prelude.{Result, if◌then◌else◌}
use Rattle.std.proofs.lemmas.Bool.Decides.{nat_tests}
use Rattle.script_lang.specs.Live.{FitsLive}
use Rattle.script_lang.specs.Reading.{fault_at, script_read}
use Rattle.script_lang.specs.declared.reading.ReadScript.{ReadScript}
use Rattle.script_lang.specs.declared.reading.ReadScript.TheVariants.{Fault, NoMemory}
use Rattle.script_lang.proofs.ReadComplete.{script_read-complete}
use Rattle.script_lang.proofs.ReadSound.{script_read-sound}
use Rattle.zeus_audit.specs.Auditing.{audited}
use Rattle.zeus_audit.specs.Inputs.{AuditsInput, behind_script, input_audited, report_part, script_part}
use Rattle.zeus_audit.specs.Serial.{IsSerialReport}
use Rattle.zeus_audit.specs.Verdicts.{verdict_text}
use Rattle.zeus_audit.specs.declared.verdict.Verdict.{Verdict}
use Rattle.zeus_audit.specs.declared.verdict.Verdict.TheVariants.{Sound}
use Rattle.zeus_io.specs.declared.status.Status.{Status}
use Rattle.zeus_model.specs.Scripts.{FitsScript, IsSpelled}
use Rattle.zeus_model.specs.declared.fault.Kind.TheVariants.{Size}
use Rattle.zeus_model.specs.declared.fault.ScriptFault.{ScriptFault}
use Rattle.zeus_model.specs.declared.script.Script.{Script}
use Rattle.zeus_cli.specs.Audits.{Finds, IsAuditInput, IsNoAuditInput, IsVerdict, longest_audited, verdict_status}
use Rattle.zeus_cli.specs.Inputs.{TakesAll}
use Rattle.zeus_cli.proofs.Reading.{fits_no_live}

size_read : (bytes : List ℕ) → longest_audited < length bytes → input_audited bytes ≡ Err (fault_at 0 Size)
unfolding input_audited
size_read bytes longer =
    let more : nat_lt 2147483647 (length bytes) ≡ true = grind (arith, nat_tests, longer) in
    rw more refl

-- more bytes than an input has are none, and are audited as that
pub audit_longer : (bytes : List ℕ) → longest_audited < length bytes → IsNoAuditInput bytes × (input_audited bytes ≡ Err (fault_at 0 Size))
audit_longer bytes longer = (λ h. let few = h.few_bytes in omega (arith, few, longer), size_read bytes longer)

-- an input is audited behind its script
input_found : (bytes : List ℕ) → (h : IsAuditInput bytes) → input_audited bytes ≡ Ok (audited h.script (report_part bytes))
unfolding input_audited behind_script
input_found bytes h =
    let few : nat_lt 2147483647 (length bytes) ≡ false = grind (arith, nat_tests, h.few_bytes) in
    let read = script_read-complete false (script_part bytes) h.script h.spelled (fits_no_live h.script) in
    rw (few, read) refl

-- if an audit of bytes tells a fault, then they are no input, and the fault is the specified one
pub audit_faulty : (e : ReadScript) (f : ScriptFault) (bytes : List ℕ) → e ≡ Fault f → AuditsInput (Err e) (input_audited bytes) → IsNoAuditInput bytes × (input_audited bytes ≡ Err f)
audit_faulty (Fault g) f bytes is found = (λ h. cc (found, input_found bytes h), cc (is, found))
audit_faulty NoMemory f bytes is found = absurd (cc is)

-- bytes in which an audit finds something are an input
found_behind : (bytes : List ℕ) (verdict : Verdict) (r : Result Script ScriptFault) → script_read false (script_part bytes) ≡ r → length bytes ≤ longest_audited → behind_script r (report_part bytes) ≡ Ok verdict
    → ((s : Script) (text : List ℕ) → FitsScript s → audited s text ≡ Sound → IsSerialReport s text) → Finds verdict bytes
unfolding behind_script
found_behind bytes verdict (Ok s) read few found law =
    let spelled = (script_read-sound false (script_part bytes) s read).0 in
    record {
      input = record { script = s; spelled = spelled; few_bytes = few };
      verdict_is = cc found;
      serial = λ sound. law s (report_part bytes) spelled.script.fits (cc (found, sound));
    }
found_behind bytes verdict (Err f) read few found law = absurd (cc found)

found_few : (bytes : List ℕ) (verdict : Verdict) (more : Bool) → nat_lt 2147483647 (length bytes) ≡ more
    → (if more then Err (fault_at 0 Size) else behind_script (script_read false (script_part bytes)) (report_part bytes)) ≡ Ok verdict
    → ((s : Script) (text : List ℕ) → FitsScript s → audited s text ≡ Sound → IsSerialReport s text) → Finds verdict bytes
found_few bytes verdict true is found law = absurd (cc found)
found_few bytes verdict false is found law =
    let few : length bytes ≤ longest_audited = grind (arith, nat_tests, is) in
    found_behind bytes verdict (script_read false (script_part bytes)) refl few found law

audit_finds : (bytes : List ℕ) (verdict : Verdict) → input_audited bytes ≡ Ok verdict → ((s : Script) (text : List ℕ) → FitsScript s → audited s text ≡ Sound → IsSerialReport s text) → Finds verdict bytes
unfolding input_audited
audit_finds bytes verdict found law = found_few bytes verdict (nat_lt 2147483647 (length bytes)) refl found law

-- what an audit finds of all that the source had left is told
pub audit_told : (bytes : List ℕ) (verdict : Verdict) (before after : Option (List ℕ)) (status : Status) (text : List ℕ) → input_audited bytes ≡ Ok verdict
    → ((s : Script) (text : List ℕ) → FitsScript s → audited s text ≡ Sound → IsSerialReport s text) → TakesAll before after bytes
    → status ≡ verdict_status verdict → text ≡ verdict_text verdict → IsVerdict before after status text
audit_told bytes verdict before after status text found law all status_is text_is = record {
  verdict = verdict;
  to_end = all.to_end;
  taken = record { taken = bytes; from_front = all.from_front; holds = audit_finds bytes verdict found law };
  status_is = status_is;
  text_is = text_is;
}
