-- What is returned as a fault: the first one, its kind, and where there are too many bytes.
use Rattle.std.proofs.Common.{◌≡◌, ◌≢◌, ℕ, ◌<◌, ◌≤◌, Bool, true, false, cond, List, length, Result, Ok, Err, refl, sym, ap, ◌∙◌, arith, subst}
use Rattle.std.specs.Prelude.{nat_lt, IsErrOf}
use Rattle.std.proofs.lemmas.Bool.{ltb-true, ltb-false}
use Rattle.zeus_model.specs.Faults.{IsOfWord}
use Rattle.zeus_model.specs.declared.fault.Kind.TheVariants as kinds
use Rattle.zeus_model.specs.declared.fault.ScriptFault.{ScriptFault}
use Rattle.zeus_model.specs.declared.script.Script.{Script}
use Rattle.zeus_model.specs.FirstFault.{TellsSize}
use Rattle.script_lang.specs.declared.reading.ReadScript.{ReadScript}
use Rattle.script_lang.specs.declared.reading.ReadScript.TheVariants as errors
use Rattle.script_lang.specs.Cut.{cut}
use Rattle.script_lang.specs.Drafts.{State}
use Rattle.script_lang.specs.OneFault.{IsFaultOf}
use Rattle.script_lang.specs.Reading.{start, fault_at, lines_taken, scripted, script_read, ReadsScript}
use Rattle.script_lang.proofs.faults.FaultKinds.{kind_of_line, no_size}
use Rattle.script_lang.proofs.faults.FaultReached.{first_fault}
use Rattle.script_lang.proofs.faults.FaultShared.{from_line}
use Rattle.script_lang.proofs.faults.WordFaults.{word_fault}

scripted_fault : (r : Result State ScriptFault) (f : ScriptFault) → scripted r ≡ Err f → r ≡ Err f
unfolding scripted
scripted_fault (Ok t) f h = absurd cc
scripted_fault (Err k) f h = let same : k ≡ f = cc in rw same refl

-- a fault but that of the size is one of the lines
line_fault : (live : Bool) (bytes : List ℕ) (f : ScriptFault) → script_read live bytes ≡ Err f → f.line ≢ 0 → lines_taken live start 1 (cut 10 bytes) ≡ Err f
unfolding script_read
line_fault live bytes f h some = go (nat_lt 4194304 (length bytes)) h
  where
    go : (b : Bool) → cond b (Err (fault_at 0 kinds.Size)) (scripted (lines_taken live start 1 (cut 10 bytes))) ≡ Err f → lines_taken live start 1 (cut 10 bytes) ≡ Err f
    go true e = let same : fault_at 0 kinds.Size ≡ f = cc in absurd (some (rw (← same) refl))
    go false e = scripted_fault (lines_taken live start 1 (cut 10 bytes)) f e

told_size : (live : Bool) (bytes : List ℕ) (f : ScriptFault) → script_read live bytes ≡ Err f → TellsSize bytes f
unfolding script_read
told_size live bytes f h = go (nat_lt 4194304 (length bytes)) refl h
  where
    go : (b : Bool) → nat_lt 4194304 (length bytes) ≡ b → cond b (Err (fault_at 0 kinds.Size)) (scripted (lines_taken live start 1 (cut 10 bytes))) ≡ Err f → TellsSize bytes f
    go true e g =
        let same : fault_at 0 kinds.Size ≡ f = cc in
        let more : 4194304 < length bytes = ltb-true 4194304 (length bytes) e in
        record { line = (λ _. more, λ _. sym (ap (λ (k : ScriptFault). k.line) same)); kind = (λ _. more, λ _. sym (ap (λ (k : ScriptFault). k.kind) same)) }
    go false e g =
        let few : length bytes ≤ 4194304 = ltb-false 4194304 (length bytes) e in
        let taken = scripted_fault (lines_taken live start 1 (cut 10 bytes)) f g in
        let low : 1 ≤ f.line = from_line live start 1 (cut 10 bytes) f taken in
        record { line = (λ zero. absurd (omega arith), λ more. absurd (omega arith)); kind = (λ size. absurd (no_size live bytes f taken size), λ more. absurd (omega arith)) }

-- a fault of a word lies in a line
word_line : (bytes : List ℕ) (f : ScriptFault) → TellsSize bytes f → IsOfWord f.kind → f.line ≢ 0
unfolding IsOfWord
word_line bytes f size word = λ zero. absurd (subst IsOfWord (size.kind.1 (size.line.0 zero)) word)

-- what reading gives as a fault is the fault of the bytes
pub told : (live : Bool) (bytes : List ℕ) (f : ScriptFault) → script_read live bytes ≡ Err f → IsFaultOf live bytes f
told live bytes f read =
    let size = told_size live bytes f read in
    record {
      size = size;
      first = λ some. first_fault live bytes f (line_fault live bytes f read some);
      kind = λ some. kind_of_line live bytes f (line_fault live bytes f read some);
      word = λ word. word_fault live bytes f (line_fault live bytes f read (word_line bytes f size word)) word;
    }

-- so of what was returned
pub returned : (live : Bool) (bytes : List ℕ) (r : Result Script ReadScript) → ReadsScript r (script_read live bytes) → (f : ScriptFault) → IsErrOf r (errors.Fault f) → IsFaultOf live bytes f
returned live bytes (Ok s) h f e = absurd cc
returned live bytes (Err (errors.Fault g)) h f e = let same : g ≡ f = cc in told live bytes f (h ∙ rw same refl)
returned live bytes (Err errors.NoMemory) h f e = absurd cc
