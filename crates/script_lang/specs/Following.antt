-- Reading lines one after another, whatever the lines say: `taken` gives of what was read so far and the words of the next line
-- whether it was the last, and what is read then.
use Rattle.std.specs.Prelude.{ℕ, suc, Bool, true, false, List, [], ◌∷◌, Result, Ok, Err, if◌then◌else◌}
use Rattle.zeus_model.specs.declared.fault.Kind.{Kind}
use Rattle.zeus_model.specs.declared.fault.Kind.TheVariants as kinds
use Rattle.zeus_model.specs.declared.fault.ScriptFault.{ScriptFault}
use Rattle.script_lang.specs.Cut.{cut}
use Rattle.script_lang.specs.Reading.{fault_at, is_last, unended}

-- behind the line of this number
unfoldable pub line_followed : {S : Type 0} → Result (Bool × S) Kind → ℕ → List (List ℕ) → (S → Result S ScriptFault) → Result S ScriptFault
line_followed (Err k) n rest go_on = Err (fault_at n k)
line_followed (Ok (true, s)) n rest go_on = if is_last rest then Ok s else Err (fault_at (suc n) kinds.Extra)
line_followed (Ok (false, s)) n rest go_on = go_on s

-- the lines from this number on, of which the last part is not ended
unfoldable pub followed : {S : Type 0} → (S → List (List ℕ) → Result (Bool × S) Kind) → S → ℕ → List (List ℕ) → Result S ScriptFault
followed taken s n [] = Err (fault_at n kinds.Missing)
followed taken s n (p ∷ []) = Err (fault_at n (unended p))
followed taken s n (p ∷ q ∷ ps) = line_followed (taken s (cut 32 p)) n (q ∷ ps) (λ t. followed taken t (suc n) (q ∷ ps))
