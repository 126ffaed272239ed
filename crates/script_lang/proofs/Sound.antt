-- What holds of what was read: the tools.
use Rattle.std.proofs.Common.{◌≡◌, Bool, true, false, cond, Option, Some, None, Result, Ok, Err, refl, subst}
use Rattle.zeus_model.specs.declared.fault.Kind.{Kind}
use Rattle.script_lang.specs.Reads.{◌>>=◌, or_fault}

abbrev Holds : {A : Type 0} → Result A Kind → (A → Type 0) → Type 0
Holds (Ok x) P = P x
Holds (Err k) P = Unit {0}

-- P holds of what was read, if it was
pub record IfRead {A : Type 0} (r : Result A Kind) (P : A → Type 0) : Type 0 where
  pub holds : Holds r P

-- if a fact holds of what is read first, and by it another of what is read then, the other holds of both in sequence
pub read_bind : {A B : Type 0} (r : Result A Kind) (f : A → Result B Kind) {P : A → Type 0} (Q : B → Type 0) → IfRead r P → ((x : A) → P x → IfRead (f x) Q) → IfRead (r >>= f) Q
read_bind (Ok x) f Q p q = q x p.holds
read_bind (Err k) f Q p q = record { holds = tt }

-- if a fact holds of a value, then it holds of what is read where the value is
pub read_ok : {A : Type 0} (x : A) (P : A → Type 0) → P x → IfRead (Ok x) P
read_ok x P p = record { holds = p }

-- where reading failed, every fact holds of what was read
pub read_err : {A : Type 0} (k : Kind) (P : A → Type 0) → IfRead (Err k) P
read_err k P = record { holds = tt }

-- if a fact holds of what either branch reads, given the test, then it holds of what the choice reads
pub read_cond : {A : Type 0} (b : Bool) (x y : Result A Kind) (P : A → Type 0) → (b ≡ true → IfRead x P) → (b ≡ false → IfRead y P) → IfRead (cond b x y) P
read_cond true x y P p q = p refl
read_cond false x y P p q = q refl

-- if a fact holds of what there is, then it holds of what is read from it or else fails
pub read_or : {A : Type 0} (o : Option A) (k : Kind) (P : A → Type 0) → ((x : A) → o ≡ Some x → P x) → IfRead (or_fault o k) P
read_or None k P p = record { holds = tt }
read_or (Some x) k P p = record { holds = p x refl }

-- what was read has what holds of it
pub read_is : {A : Type 0} (r : Result A Kind) (x : A) (P : A → Type 0) → r ≡ Ok x → IfRead r P → P x
read_is (Ok y) x P e p = let same : y ≡ x = cc in subst P same p.holds
read_is (Err k) x P e p = absurd cc

-- if a fact holds of what was read and implies another, then the other holds of it
pub read_weaken : {A : Type 0} (r : Result A Kind) {P : A → Type 0} (Q : A → Type 0) → ((x : A) → P x → Q x) → IfRead r P → IfRead r Q
read_weaken (Ok x) Q f p = record { holds = f x p.holds }
read_weaken (Err k) Q f p = record { holds = tt }
