-- The lines of a script, from one to the next.
use Rattle.std.proofs.Common.{◌≡◌, ℕ, suc, true, false, List, [], ◌∷◌, Result, Ok, Err, refl, sym, ap, ◌∙◌}
use Rattle.zeus_model.specs.declared.fault.Kind.{Kind}
use Rattle.zeus_model.specs.declared.fault.Kind.TheVariants as kinds
use Rattle.zeus_model.specs.declared.fault.ScriptFault.{ScriptFault}
use Rattle.script_lang.specs.declared.reading.ReadScript.{ReadScript}
use Rattle.script_lang.specs.declared.reading.ReadScript.TheVariants as errors
use Rattle.script_lang.specs.Cut.{cut}
use Rattle.script_lang.specs.Following.{line_followed, followed}
use Rattle.script_lang.specs.Reading.{fault_at, is_last, unended}
use Rattle.zeus_lease.specs.declared.draft.Draft.{Draft}
use Rattle.zeus_lease.specs.Reading.{State, taken, TakesNumbered, TakesAll}

line_ended : (s : State) (n : ℕ) (p : List ℕ) (rest : List (List ℕ)) → (rest ≡ [] → ⊥) → followed taken s n (p ∷ rest) ≡ line_followed (taken s (cut 32 p)) n rest (λ t. followed taken t (suc n) rest)
unfolding followed
line_ended s n p [] some = absurd (some refl)
line_ended s n p (q ∷ ps) some = refl

-- if there is no part, then the end is missing
pub line_none : (s : State) (n : ℕ) (parts : List (List ℕ)) (total : Result State ScriptFault) → followed taken s n parts ≡ total → parts ≡ [] → total ≡ Err (fault_at n kinds.Missing)
unfolding followed
line_none s n parts total so_far is = sym so_far ∙ ap (followed taken s n) is

-- if the last part is not empty, then its line is not ended, and otherwise the end is missing
pub line_unended : (s : State) (n : ℕ) (parts : List (List ℕ)) (total : Result State ScriptFault) (p : List ℕ) → followed taken s n parts ≡ total → parts ≡ p ∷ [] → total ≡ Err (fault_at n (unended p))
unfolding followed
line_unended s n parts total p so_far is = sym so_far ∙ ap (followed taken s n) is

-- reading has come to line n, with parts behind it: the total is what the line and these parts give
pub record AtLine (s : State) (n : ℕ) (p : List ℕ) (rest : List (List ℕ)) (total : Result State ScriptFault) : Type 0 where
  pub parts : List (List ℕ)
  pub so_far : followed taken s n parts ≡ total
  pub first : parts ≡ p ∷ rest
  pub behind : rest ≡ [] → ⊥

module _ (s : State) (n : ℕ) (p : List ℕ) (rest : List (List ℕ)) (total : Result State ScriptFault) (at : AtLine s n p rest total) where
  here : total ≡ line_followed (taken s (cut 32 p)) n rest (λ t. followed taken t (suc n) rest)
  here = sym at.so_far ∙ ap (followed taken s n) at.first ∙ line_ended s n p rest at.behind

  -- if the line is at fault, then so is the total
  pub line_fault : (k : Kind) → taken s (cut 32 p) ≡ Err k → total ≡ Err (fault_at n k)
  unfolding line_followed
  line_fault k fails = here ∙ rw fails refl

  -- if the line is the last one and nothing follows it, then all is read
  pub line_last : (t : State) → taken s (cut 32 p) ≡ Ok (true, t) → is_last rest ≡ true → total ≡ Ok t
  unfolding line_followed
  line_last t went last = here ∙ rw (went, last) refl

  -- if something follows the last line, then it is extra
  pub line_extra : (t : State) → taken s (cut 32 p) ≡ Ok (true, t) → is_last rest ≡ false → total ≡ Err (fault_at (suc n) kinds.Extra)
  unfolding line_followed
  line_extra t went last = here ∙ rw (went, last) refl

  -- if more lines are to follow, then the total is what the parts behind the line give
  pub line_more : (t : State) → taken s (cut 32 p) ≡ Ok (false, t) → followed taken t (suc n) rest ≡ total
  unfolding line_followed
  line_more t went = sym (here ∙ rw went refl)

  -- what failed in the line fails in all
  pub line_failed : (e : ReadScript) (now after : Draft) → TakesNumbered (Err e) now n (taken s (cut 32 p)) → TakesAll (Err e) after total
  line_failed errors.NoMemory now after failed = tt
  line_failed (errors.Fault f) now after failed =
      let fault : total ≡ Err (fault_at n f.kind) = line_fault f.kind failed.1 in
      rw (← failed.0) at fault
