-- More bytes than a script may have.
use Rattle.std.proofs.Common.{◌≡◌, ℕ, ◌<◌, false, true, nat_lt, List, length, arith, refl}
use Rattle.std.proofs.lemmas.Bool.Decides.{nat_tests}
use Rattle.script_lang.specs.Reading.{fault_at, script_read}
use Rattle.script_diagnostic.specs.Text.{size_line, explanation, explained}

pub size_explained : (bytes : List ℕ) → 4194304 < length bytes → explained bytes (script_read false bytes) ≡ size_line
unfolding script_read explained explanation
size_explained bytes longer =
    let more : nat_lt 4194304 (length bytes) ≡ true = grind (arith, nat_tests, longer) in
    rw more refl
