-- Auditing a report line by line, to the first rule that fails.
use Rattle.std.specs.Prelude.{◌≡◌, ℕ, suc, Bool, true, false, List, [], ◌∷◌, Result, Ok, Err}
use Rattle.zeus_model.specs.declared.script.Script.{Script}
use Rattle.script_lang.specs.Cut.{cut}
use Rattle.zeus_audit.specs.declared.failure.Failure.{Failure}
use Rattle.zeus_audit.specs.declared.failure.Failure.TheVariants as failures
use Rattle.zeus_audit.specs.declared.progress.Progress.{Progress}
use Rattle.zeus_audit.specs.declared.stage.Stage.{Stage}
use Rattle.zeus_audit.specs.declared.stage.Stage.TheVariants as stages
use Rattle.zeus_audit.specs.declared.verdict.Rule.{Rule}
use Rattle.zeus_audit.specs.declared.verdict.Rule.TheVariants as rules
use Rattle.zeus_audit.specs.declared.verdict.Verdict.{Verdict}
use Rattle.zeus_audit.specs.declared.verdict.Verdict.TheVariants as verdicts
use Rattle.zeus_audit.specs.Progress.{State, state_of, start}
use Rattle.zeus_audit.specs.Rules.{line_taken}

-- the first line that fails, and the first rule that it breaks
pub record Failing : Type 0 where
  pub line : ℕ
  pub rule : Rule

-- behind the last line nothing stands
unfoldable pub is_end : Stage → List ℕ → Bool
is_end stages.Ended [] = true
is_end _ _ = false

-- what is behind the last line end: a line is wanting, or it is not ended
unfoldable pub ended : State → ℕ → Bool → Result State Failing
ended st n true = Ok st
ended st n false = Err record { line = n; rule = rules.Form }

-- behind the line of this number
unfoldable pub line_done : Result State Rule → ℕ → (State → Result State Failing) → Result State Failing
line_done (Ok st) n go_on = go_on st
line_done (Err rule) n go_on = Err record { line = n; rule = rule }

-- the lines from this number on, of which the last part is not ended
unfoldable pub lines_taken : Script → State → ℕ → List (List ℕ) → Result State Failing
lines_taken s st n [] = ended st n false
lines_taken s st n (p ∷ []) = ended st n (is_end st.stage p)
lines_taken s st n (p ∷ q ∷ ps) = line_done (line_taken s st p) n (λ t. lines_taken s t (suc n) (q ∷ ps))

-- the verdict: sound if all lines were taken, else the line that fails and its rule
unfoldable pub verdict_of : Result State Failing → Verdict
verdict_of (Ok st) = verdicts.Sound
verdict_of (Err f) = verdicts.Fails f.line f.rule

-- what an audit of a report of a script finds
unfoldable pub audited : Script → List ℕ → Verdict
audited s text = verdict_of (lines_taken s (start s) 1 (cut 10 text))

-- a line was taken as the rules say, unless memory ran out
abbrev pub Takes : Result (Unit {0}) Failure → Progress → Result State Rule → Type 0
Takes (Ok done) after taken = taken ≡ Ok (state_of after)
Takes (Err (failures.Rule rule)) after taken = taken ≡ Err rule
Takes (Err failures.NoMemory) after taken = Unit {0}
