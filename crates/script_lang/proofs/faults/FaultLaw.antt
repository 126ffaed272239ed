-- Which bytes have a fault, and that it is the one that reading gives.
use Rattle.std.proofs.Common.{◌≡◌, ℕ, Bool, true, false, List, length, Result, Ok, Err, refl, sym, ap, ◌∙◌, arith}
use Rattle.std.specs.Prelude.{◌↔◌, ◌==◌, IsErr}
use Rattle.std.proofs.lemmas.Bool.{eqb-true, eqb-false}
use Rattle.zeus_model.specs.declared.fault.ScriptFault.{ScriptFault}
use Rattle.zeus_model.specs.declared.script.Script.{Script}
use Rattle.zeus_model.specs.FirstFault.{first_lines}
use Rattle.script_lang.specs.OneFault.{IsFaultOf, SpellsScript, HasOneFault}
use Rattle.script_lang.specs.Reading.{script_read}
use Rattle.script_lang.proofs.faults.FaultFirst.{told}
use Rattle.script_lang.proofs.faults.OneFault.{one_fault}
use Rattle.script_lang.proofs.ReadComplete.{script_read-complete}
use Rattle.script_lang.proofs.ReadSound.{script_read-sound}

-- bytes that spell a script have no fault
pub none_of_script : (live : Bool) (bytes : List ℕ) → SpellsScript live bytes → (f : ScriptFault) → ¬ IsFaultOf live bytes f
none_of_script live bytes spells f fault = go (f.line == 0) refl
  where
    go : (b : Bool) → (f.line == 0) ≡ b → ⊥
    go true e =
        let few = spells.spelled.script.few_bytes in
        let same = ap length spells.spelled.spelled in
        let more = fault.size.line.0 (eqb-true f.line 0 e) in
        omega arith
    go false e =
        let text = spells.spelled in
        (fault.first (eqb-false f.line 0 e)).faulty record {
          script = spells.script;
          opened = record { fits = text.script.fits; few_steps = text.script.few_steps; opened = spells.runs };
          same = ap (first_lines f.line) (sym text.spelled);
        }

module _ (live : Bool) (bytes : List ℕ) where
  spells : (s : Script) → script_read live bytes ≡ Ok s → SpellsScript live bytes
  spells s read =
      let both = script_read-sound live bytes s read in
      record { script = s; spelled = both.0; runs = both.1 }

  -- the fault of the bytes is what reading gives
  pub fault_read : (f : ScriptFault) → IsFaultOf live bytes f → script_read live bytes ≡ Err f
  fault_read f fault = go (script_read live bytes) refl
    where
      go : (r : Result Script ScriptFault) → script_read live bytes ≡ r → script_read live bytes ≡ Err f
      go (Ok s) e = absurd (none_of_script live bytes (spells s e) f fault)
      go (Err g) e =
          let same : g ≡ f = one_fault live bytes g f (told live bytes g e) fault in
          e ∙ rw same refl

  pub read_fault : (f : ScriptFault) → (script_read live bytes ≡ Err f) ↔ IsFaultOf live bytes f
  read_fault f = (told live bytes f, fault_read f)

  faulty : IsErr (script_read live bytes) → ¬ SpellsScript live bytes
  faulty h text =
      let read : script_read live bytes ≡ Ok text.script = script_read-complete live bytes text.script text.spelled text.runs in
      let no : false ≡ true = rw read at h in cc

  -- reading gives a fault of other bytes, and there is no other fault
  pub other_bytes : ¬ SpellsScript live bytes → IsErr (script_read live bytes) × HasOneFault live bytes
  other_bytes no_text = go (script_read live bytes) refl
    where
      go : (r : Result Script ScriptFault) → script_read live bytes ≡ r → IsErr (script_read live bytes) × HasOneFault live bytes
      go (Ok s) e = absurd (no_text (spells s e))
      go (Err f) e =
          let fault = told live bytes f e in
          (rw e refl, record { fault = f; is = fault; one = λ g other. one_fault live bytes g f other fault })

  pub read_faulty : IsErr (script_read live bytes) ↔ ¬ SpellsScript live bytes
  read_faulty = (faulty, λ no_text. (other_bytes no_text).0)
