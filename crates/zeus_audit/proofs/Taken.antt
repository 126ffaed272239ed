-- What holds of what a line tells, if it keeps its rules: the tools.
use Rattle.std.proofs.Common.{◌≡◌, Bool, true, false, cond, Result, Ok, Err, refl, subst}
use Rattle.zeus_model.specs.declared.fault.Kind.{Kind}
use Rattle.script_lang.proofs.Sound.{IfRead}
use Rattle.zeus_audit.specs.declared.stage.Mark.{Mark}
use Rattle.zeus_audit.specs.declared.stage.Mark.TheVariants as marks
use Rattle.zeus_audit.specs.declared.verdict.Rule.{Rule}
use Rattle.zeus_audit.specs.Progress.{State}
use Rattle.zeus_audit.specs.Rules.{in_form, kept, if_begun, if_passed}

abbrev Holds : Result State Rule → (State → Type 0) → Type 0
Holds (Ok st) P = P st
Holds (Err rule) P = Unit {0}

-- P holds of what the line tells, if it keeps its rules
pub record IfTaken (r : Result State Rule) (P : State → Type 0) : Type 0 where
  pub holds : Holds r P

-- what holds of a state holds if the state is taken
pub taken_ok : (st : State) (P : State → Type 0) → P st → IfTaken (Ok st) P
taken_ok st P p = record { holds = p }

-- if a rule is broken, then anything holds of what is taken
pub taken_err : (rule : Rule) (P : State → Type 0) → IfTaken (Err rule) P
taken_err rule P = record { holds = tt }

-- what holds in both cases of a test holds of the case that is taken
pub taken_cond : (b : Bool) (x y : Result State Rule) (P : State → Type 0) → (b ≡ true → IfTaken x P) → (b ≡ false → IfTaken y P) → IfTaken (cond b x y) P
taken_cond true x y P p q = p refl
taken_cond false x y P p q = q refl

-- if a shape is read and then what follows has it, then so has the line that must have the shape
pub taken_form : {A : Type 0} (r : Result A Kind) (f : A → Result State Rule) {Q : A → Type 0} (P : State → Type 0) → IfRead r Q → ((x : A) → r ≡ Ok x → Q x → IfTaken (f x) P) → IfTaken (in_form r f) P
unfolding in_form
taken_form (Ok x) f P q p = p x refl q.holds
taken_form (Err k) f P q p = record { holds = tt }

-- if nothing is known of what was read
pub taken_any : {A : Type 0} (r : Result A Kind) (f : A → Result State Rule) (P : State → Type 0) → ((x : A) → IfTaken (f x) P) → IfTaken (in_form r f) P
unfolding in_form
taken_any (Ok x) f P p = p x
taken_any (Err k) f P p = record { holds = tt }

-- if a test lets a state pass, and what holds follows from the test, then it holds of what is taken
pub taken_kept : (b : Bool) (rule : Rule) (st : State) (P : State → Type 0) → (b ≡ true → P st) → IfTaken (kept b rule st) P
unfolding kept
taken_kept true rule st P p = record { holds = p refl }
taken_kept false rule st P p = record { holds = tt }

-- if what follows holds for a begun transaction, then it holds where the transaction must be begun
pub taken_begun : (m : Mark) (r : Result State Rule) (P : State → Type 0) → (m ≡ marks.Begun → IfTaken r P) → IfTaken (if_begun m r) P
unfolding if_begun
taken_begun marks.New r P p = record { holds = tt }
taken_begun marks.Begun r P p = p refl
taken_begun marks.Passed r P p = record { holds = tt }
taken_begun marks.Acked r P p = record { holds = tt }

-- if what follows holds for a transaction with a point, then it holds where it must have one
pub taken_passed : (m : Mark) (r : Result State Rule) (P : State → Type 0) → (m ≡ marks.Passed → IfTaken r P) → IfTaken (if_passed m r) P
unfolding if_passed
taken_passed marks.New r P p = record { holds = tt }
taken_passed marks.Begun r P p = record { holds = tt }
taken_passed marks.Passed r P p = p refl
taken_passed marks.Acked r P p = record { holds = tt }

-- what was taken has what holds of it
pub taken_is : (r : Result State Rule) (st : State) (P : State → Type 0) → r ≡ Ok st → IfTaken r P → P st
taken_is (Ok x) st P e p = let same : x ≡ st = cc in subst P same p.holds
taken_is (Err rule) st P e p = absurd cc
