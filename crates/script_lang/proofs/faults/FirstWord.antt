-- The first word of a line that does not fit, found from the left, and what reading says of it.
use Rattle.std.proofs.Common.{◌≡◌, ℕ, zero, suc, ◌<◌, List, [], ◌∷◌, take, Option, Some, None, Result, Ok, Err, refl, sym, ap, ◌∙◌, arith}
use Rattle.zeus_model.specs.Faults.{word_of}
use Rattle.zeus_model.specs.Tables.{or_else}
use Rattle.zeus_model.specs.declared.fault.Kind.{Kind}
use Rattle.zeus_model.specs.declared.fault.Kind.TheVariants as kinds
use Rattle.script_lang.specs.Reads.{◌>>=◌, word_at}

-- the row that a word meets behind the words before it
abbrev pub Rows : Type 0
Rows = List (List ℕ) → Option (List ℕ) → Option Kind

-- the rows behind one word more
abbrev pub next : Rows → List ℕ → Rows
next R w = λ pre. R (w ∷ pre)

-- the row that the first word meets that meets one
unfoldable pub first_fault : Rows → List (List ℕ) → Option Kind
first_fault R [] = R [] None
first_fault R (w ∷ ws) = or_else (R [] (Some w)) (first_fault (next R w) ws)

-- this word is it
pub record Found (R : Rows) (ws : List (List ℕ)) (k : Kind) : Type 0 where
  pub index : ℕ
  pub fit : (i : ℕ) → i < index → R (take i ws) (word_of ws i) ≡ None
  pub faulty : R (take index ws) (word_of ws index) ≡ Some k

found_here : (R : Rows) (ws : List (List ℕ)) (k : Kind) → R (take 0 ws) (word_of ws 0) ≡ Some k → Found R ws k
found_here R ws k h = record { index = 0; fit = λ i lt. absurd (omega (arith, lt)); faulty = h }

earlier : (R : Rows) (w : List ℕ) (ws : List (List ℕ)) (k : Kind) (f : Found (next R w) ws k) → R [] (Some w) ≡ None → (i : ℕ) → i < suc f.index → R (take i (w ∷ ws)) (word_of (w ∷ ws) i) ≡ None
unfolding word_of
earlier R w ws k f e zero lt = e
earlier R w ws k f e (suc i) lt = f.fit i (omega (arith, lt))

found_later : (R : Rows) (w : List ℕ) (ws : List (List ℕ)) (k : Kind) → Found (next R w) ws k → R [] (Some w) ≡ None → Found R (w ∷ ws) k
unfolding word_of
found_later R w ws k f e = record { index = suc f.index; fit = earlier R w ws k f e; faulty = f.faulty }

found_of : (R : Rows) (w : List ℕ) (ws : List (List ℕ)) (k : Kind) (o : Option Kind) → R [] (Some w) ≡ o → or_else o (first_fault (next R w) ws) ≡ Some k → (first_fault (next R w) ws ≡ Some k → Found (next R w) ws k) → Found R (w ∷ ws) k
unfolding or_else word_of
found_of R w ws k (Some l) e g rest = found_here R (w ∷ ws) k (e ∙ g)
found_of R w ws k None e g rest = found_later R w ws k (rest g) e

-- if words have a first fault, then some word meets that row and none before it meets any
pub found : (R : Rows) (ws : List (List ℕ)) (k : Kind) → first_fault R ws ≡ Some k → Found R ws k
unfolding first_fault word_of
found R [] k h = found_here R [] k h
found R (w ∷ ws) k h = found_of R w ws k (R [] (Some w)) refl h (found (next R w) ws k)

-- if two tables of rows agree everywhere, then the first fault is the same with both
pub first_fault-same : (R S : Rows) (ws : List (List ℕ)) → ((pre : List (List ℕ)) (w : Option (List ℕ)) → R pre w ≡ S pre w) → first_fault R ws ≡ first_fault S ws
unfolding first_fault
first_fault-same R S [] e = e [] None
first_fault-same R S (w ∷ ws) e = rw (e [] (Some w), first_fault-same (next R w) (next S w) ws (λ pre v. e (w ∷ pre) v)) refl

-- ---- from one word to the next

module _ (R : Rows) (T : Option Kind) (w : List ℕ) (rest : List (List ℕ)) (so : first_fault R (w ∷ rest) ≡ T) where
  pub stops : (k : Kind) → R [] (Some w) ≡ Some k → T ≡ Some k
  unfolding first_fault or_else
  stops k e =
      let here : first_fault R (w ∷ rest) ≡ Some k = rw e refl in
      sym so ∙ here

  pub passes : R [] (Some w) ≡ None → first_fault (next R w) rest ≡ T
  unfolding first_fault or_else
  passes e =
      let here : first_fault R (w ∷ rest) ≡ first_fault (next R w) rest = rw e refl in
      sym here ∙ so

-- ---- reading that tells the row

abbrev Told : {A : Type 0} → Option Kind → Result A Kind → (A → Type 0) → Type 0
Told T (Ok x) Q = Q x
Told T (Err k) Q = T ≡ Some k

-- where reading failed, its kind is the row; else Q holds of what was read
pub record Tells {A : Type 0} (T : Option Kind) (r : Result A Kind) (Q : A → Type 0) : Type 0 where
  pub holds : Told T r Q

-- if a first result tells a fault and each next one does for what was read, then so do both in sequence
pub tells_bind : {A B : Type 0} (T : Option Kind) (r : Result A Kind) (f : A → Result B Kind) {P : A → Type 0} (Q : B → Type 0) → Tells T r P → ((x : A) → P x → Tells T (f x) Q) → Tells T (r >>= f) Q
tells_bind T (Ok x) f Q p q = q x p.holds
tells_bind T (Err k) f Q p q = record { holds = p.holds }

-- if a fact holds of a value, then a result with the value tells it
pub tells_ok : {A : Type 0} (T : Option Kind) (x : A) (Q : A → Type 0) → Q x → Tells T (Ok x) Q
tells_ok T x Q q = record { holds = q }

-- if the fault is of this kind, then an error of this kind tells it
pub tells_err : {A : Type 0} (T : Option Kind) (k : Kind) (Q : A → Type 0) → T ≡ Some k → Tells T (Err k) Q
tells_err T k Q e = record { holds = e }

-- if a result that tells a fault is an error, then the fault is of the error's kind
pub tells_fault : {A : Type 0} (T : Option Kind) (r : Result A Kind) (Q : A → Type 0) (k : Kind) → Tells T r Q → r ≡ Err k → T ≡ Some k
tells_fault T (Ok x) Q k t e = absurd cc
tells_fault T (Err l) Q k t e = let same : l ≡ k = cc in t.holds ∙ ap (λ (m : Kind). Some m) same

-- the row that what was read stands for
abbrev pub row_of : {A : Type 0} → Result A Kind → Option Kind
row_of (Ok x) = None
row_of (Err k) = Some k

-- one word was read
pub reads : {A : Type 0} (R : Rows) (T : Option Kind) (w : List ℕ) (rest : List (List ℕ)) → first_fault R (w ∷ rest) ≡ T → (r : Result A Kind) → R [] (Some w) ≡ row_of r → Tells T r (λ x. (r ≡ Ok x) × (first_fault (next R w) rest ≡ T))
reads R T w rest so (Ok x) e = tells_ok T x _ (refl, passes R T w rest so e)
reads R T w rest so (Err k) e = tells_err T k _ (stops R T w rest so k e)

-- there is a word, where one has to be
pub word_first : (R : Rows) (T : Option Kind) (ws : List (List ℕ)) → first_fault R ws ≡ T → R [] None ≡ Some kinds.Word → Tells T (word_at ws) (λ x. first_fault R (x.0 ∷ x.1) ≡ T)
unfolding word_at first_fault
word_first R T [] so none = tells_err T kinds.Word _ (sym so ∙ none)
word_first R T (w ∷ ws) so none = tells_ok T (w, ws) _ so

-- a word was taken, and the others stand behind it
pub record Next (R : Rows) (T : Option Kind) (P : List ℕ → Type 0) (rest : List (List ℕ)) : Type 0 where
  pub word : List ℕ
  pub is : P word
  pub so : first_fault (next R word) rest ≡ T
