-- The lines of a script, from one to the next.
use Rattle.std.proofs.Common.{◌≡◌, ℕ, suc, Bool, true, false, List, [], ◌∷◌, Result, Ok, Err, refl, sym, ap, ◌∙◌}
use Rattle.zeus_model.specs.declared.fault.Kind.{Kind}
use Rattle.zeus_model.specs.declared.fault.Kind.TheVariants as kinds
use Rattle.zeus_model.specs.declared.fault.ScriptFault.{ScriptFault}
use Rattle.script_lang.specs.Cut.{cut}
use Rattle.script_lang.specs.Drafts.{State, line_taken}
use Rattle.script_lang.specs.declared.draft.Draft.{Draft}
use Rattle.script_lang.specs.declared.reading.ReadScript.{ReadScript}
use Rattle.script_lang.specs.declared.reading.ReadScript.TheVariants as errors
use Rattle.script_lang.specs.Reading.{fault_at, is_last, unended, line_done, lines_taken, TakesNumbered, TakesAll}

-- a line with more behind it
abbrev pub one_line : Bool → State → ℕ → List ℕ → List (List ℕ) → Result State ScriptFault
one_line live s n p rest = line_done (line_taken live s s.stage (cut 32 p)) n rest (λ t. lines_taken live t (suc n) rest)

-- if a part is not the last one, then it is read as one line, and the parts behind it after it
pub line_ended : (live : Bool) (s : State) (n : ℕ) (p : List ℕ) (rest : List (List ℕ)) → (rest ≡ [] → ⊥) → lines_taken live s n (p ∷ rest) ≡ one_line live s n p rest
unfolding lines_taken
line_ended live s n p [] some = absurd (some refl)
line_ended live s n p (q ∷ ps) some = refl

-- if there is no part, then the end is missing
pub line_none : (live : Bool) (s : State) (n : ℕ) (parts : List (List ℕ)) (total : Result State ScriptFault) → lines_taken live s n parts ≡ total → parts ≡ [] → total ≡ Err (fault_at n kinds.Missing)
unfolding lines_taken
line_none live s n parts total so_far is = sym so_far ∙ ap (lines_taken live s n) is

-- if the last part is not empty, then its line is not ended, and otherwise the end is missing
pub line_unended : (live : Bool) (s : State) (n : ℕ) (parts : List (List ℕ)) (total : Result State ScriptFault) (p : List ℕ) → lines_taken live s n parts ≡ total → parts ≡ p ∷ [] → total ≡ Err (fault_at n (unended p))
unfolding lines_taken
line_unended live s n parts total p so_far is = sym so_far ∙ ap (lines_taken live s n) is

-- reading has come to line n, with parts behind it: the total is what the line and these parts give
pub record AtLine (live : Bool) (s : State) (n : ℕ) (p : List ℕ) (rest : List (List ℕ)) (total : Result State ScriptFault) : Type 0 where
  pub parts : List (List ℕ)
  pub so_far : lines_taken live s n parts ≡ total
  pub first : parts ≡ p ∷ rest
  pub behind : rest ≡ [] → ⊥

module _ (live : Bool) (s : State) (n : ℕ) (p : List ℕ) (rest : List (List ℕ)) (total : Result State ScriptFault) (at : AtLine live s n p rest total) where
  here : total ≡ one_line live s n p rest
  here = sym at.so_far ∙ ap (lines_taken live s n) at.first ∙ line_ended live s n p rest at.behind

  -- if the line is at fault, then so is the total
  pub line_fault : (k : Kind) → line_taken live s s.stage (cut 32 p) ≡ Err k → total ≡ Err (fault_at n k)
  unfolding line_done
  line_fault k taken = here ∙ rw taken refl

  -- if the line is the last one and nothing follows it, then all is read
  pub line_last : (t : State) → line_taken live s s.stage (cut 32 p) ≡ Ok (true, t) → is_last rest ≡ true → total ≡ Ok t
  unfolding line_done
  line_last t taken last = here ∙ rw (taken, last) refl

  -- if something follows the last line, then it is extra
  pub line_extra : (t : State) → line_taken live s s.stage (cut 32 p) ≡ Ok (true, t) → is_last rest ≡ false → total ≡ Err (fault_at (suc n) kinds.Extra)
  unfolding line_done
  line_extra t taken last = here ∙ rw (taken, last) refl

  -- if more lines are to follow, then the total is what the parts behind the line give
  pub line_more : (t : State) → line_taken live s s.stage (cut 32 p) ≡ Ok (false, t) → lines_taken live t (suc n) rest ≡ total
  unfolding line_done
  line_more t taken = sym (here ∙ rw taken refl)

  -- what failed in the line fails in all
  pub line_failed : (e : ReadScript) (now after : Draft) → TakesNumbered (Err e) now n (line_taken live s s.stage (cut 32 p)) → TakesAll (Err e) after total
  line_failed errors.NoMemory now after failed = tt
  line_failed (errors.Fault f) now after failed =
      let fault : total ≡ Err (fault_at n f.kind) = line_fault f.kind failed.1 in
      rw (← failed.0) at fault
