-- What reading says of bytes.
use Rattle.std.proofs.Common.{ℕ, ◌≡◌, ◌<◌, false, true, nat_lt, List, length, Ok, Err, ap, refl, arith}
use Rattle.std.proofs.lemmas.Bool.Decides.{nat_tests}
use Rattle.script_lang.specs.Live.{FitsLive}
use Rattle.script_lang.specs.Reading.{ReadsScript, fault_at, script_read}
use Rattle.script_lang.specs.declared.reading.ReadScript.{ReadScript}
use Rattle.script_lang.specs.declared.reading.ReadScript.TheVariants.{Fault, NoMemory}
use Rattle.zeus_cli.specs.Runs.{IsNoScript, longest}
use Rattle.zeus_model.specs.declared.fault.Kind.TheVariants.{Size}
use Rattle.zeus_model.specs.declared.fault.ScriptFault.{ScriptFault}
use Rattle.zeus_model.specs.declared.script.Script.{Script}
use Rattle.zeus_model.specs.Scripts.{IsSpelled}

-- outside a live run there is no further bound
pub fits_no_live : (s : Script) → FitsLive false s
fits_no_live s = record { txs = λ e. cc e; steps = λ e. cc e }

-- more bytes than a script has are the text of none
no_script_longer : (bytes : List ℕ) → longest < length bytes → IsNoScript bytes
no_script_longer bytes longer s h =
    let few = h.script.few_bytes in
    let same = ap length h.spelled in
    omega arith

size_read : (bytes : List ℕ) → longest < length bytes → script_read false bytes ≡ Err (fault_at 0 Size)
unfolding script_read
size_read bytes longer =
    let more : nat_lt 4194304 (length bytes) ≡ true = grind (arith, nat_tests, longer) in
    rw more refl

-- and are read as that
pub script_longer : (bytes : List ℕ) → longest < length bytes → IsNoScript bytes × (script_read false bytes ≡ Err (fault_at 0 Size))
script_longer bytes longer = (no_script_longer bytes longer, size_read bytes longer)

-- bytes of which reading tells a fault are the text of no script
pub script_faulty : (e : ReadScript) (f : ScriptFault) (bytes : List ℕ) → e ≡ Fault f → ((s : Script) → IsSpelled bytes s → FitsLive false s → ReadsScript (Err e) (Ok s)) → ReadsScript (Err e) (script_read false bytes)
    → IsNoScript bytes × (script_read false bytes ≡ Err f)
script_faulty (Fault g) f bytes is only read = (λ s spelled. cc (only s spelled (fits_no_live s)), cc (is, read))
script_faulty NoMemory f bytes is only read = absurd (cc is)
