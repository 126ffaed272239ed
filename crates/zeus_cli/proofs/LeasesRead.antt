-- What reading scripts of leases says of bytes.
use Rattle.std.proofs.Common.{ℕ, ◌≡◌, ◌<◌, true, nat_lt, List, length, Ok, Err, refl, arith}
use Rattle.std.proofs.lemmas.Bool.Decides.{nat_tests}
use Rattle.script_lang.specs.Reading.{fault_at}
use Rattle.script_lang.specs.declared.reading.ReadScript.{ReadScript}
use Rattle.script_lang.specs.declared.reading.ReadScript.TheVariants.{Fault, NoMemory}
use Rattle.zeus_cli.specs.Leases.{IsNoLeases}
use Rattle.zeus_cli.specs.Runs.{longest}
use Rattle.zeus_lease.specs.Reading.{ReadsScript, script_read}
use Rattle.zeus_lease.specs.Scripts.{IsSpelled}
use Rattle.zeus_lease.specs.declared.script.LeaseScript.{LeaseScript}
use Rattle.zeus_model.specs.declared.fault.Kind.TheVariants.{Size}
use Rattle.zeus_model.specs.declared.fault.ScriptFault.{ScriptFault}

size_read : (bytes : List ℕ) → longest < length bytes → script_read bytes ≡ Err (fault_at 0 Size)
unfolding script_read
size_read bytes longer =
    let more : nat_lt 4194304 (length bytes) ≡ true = grind (arith, nat_tests, longer) in
    rw more refl

-- more bytes than a script has are the text of none, and are read as that
pub leases_longer : (bytes : List ℕ) → longest < length bytes → IsNoLeases bytes × (script_read bytes ≡ Err (fault_at 0 Size))
leases_longer bytes longer = (λ s spelled. let few = spelled.few_bytes in omega (arith, few, longer), size_read bytes longer)

-- bytes of which reading tells a fault are the text of no script
pub leases_faulty : (e : ReadScript) (f : ScriptFault) (bytes : List ℕ) → e ≡ Fault f → ((s : LeaseScript) → IsSpelled bytes s → ReadsScript (Err e) (Ok s)) → ReadsScript (Err e) (script_read bytes)
    → IsNoLeases bytes × (script_read bytes ≡ Err f)
leases_faulty (Fault g) f bytes is only read = (λ s spelled. cc (only s spelled), cc (is, read))
leases_faulty NoMemory f bytes is only read = absurd (cc is)
