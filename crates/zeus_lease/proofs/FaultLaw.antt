-- Bytes that spell no script have one fault, and it is what reading gives.
use Rattle.std.proofs.Common.{◌≡◌, ◌≢◌, ℕ, ◌<◌, ◌≤◌, Bool, true, false, cond, List, length, Option, Some, Result, Ok, Err, refl, sym, ap, ◌∙◌, arith, inl, inr, subst}
use Rattle.std.specs.Prelude.{◌↔◌, ◌==◌, nat_lt, IfOk, IsErr, IsErrOf}
use Rattle.std.proofs.lemmas.Bool.{cases_order, eqb-true, eqb-false, ltb-true, ltb-false, le-ltb}
use Rattle.zeus_model.specs.Faults.{IsOfWord}
use Rattle.zeus_model.specs.FirstFault.{TellsSize}
use Rattle.zeus_model.specs.Spelling.{lines_text}
use Rattle.zeus_model.specs.declared.fault.Kind.{Kind}
use Rattle.zeus_model.specs.declared.fault.Kind.TheVariants as kinds
use Rattle.zeus_model.specs.declared.fault.ScriptFault.{ScriptFault}
use Rattle.script_lang.specs.declared.reading.ReadScript.{ReadScript}
use Rattle.script_lang.specs.declared.reading.ReadScript.TheVariants as errors
use Rattle.script_lang.specs.Cut.{cut}
use Rattle.script_lang.specs.Following.{followed}
use Rattle.script_lang.specs.Reading.{fault_at}
use Rattle.script_lang.specs.Texts.{IsFirstFaultyLine, IsKindOfFaultyLine}
use Rattle.script_lang.proofs.faults.OneFault.{Sort, missing, line_end, extra, size, word, sort}
use Rattle.zeus_lease.specs.declared.script.LeaseScript.{LeaseScript}
use Rattle.zeus_lease.specs.Faults.{HasOneFault, IsFaultOf, IsFaultyWord, IsScriptText, IsWordFault, SpellsScript}
use Rattle.zeus_lease.specs.Places.{Said}
use Rattle.zeus_lease.specs.Reading.{State, start, taken, script_of, scripted, script_read, ReadsScript}
use Rattle.zeus_lease.specs.Scripts.{IsSpelled, script_lines, spelling}
use Rattle.zeus_lease.proofs.Followed.{first_fault, kind_of_line, no_size, low_line, read_sound, text_read}
use Rattle.zeus_lease.proofs.LineFits.{Whole, Fits, lines, all}
use Rattle.zeus_lease.proofs.LinesRead.{leases, script_whole, whole_script, state_of_script, script_is}
use Rattle.zeus_lease.proofs.LinesSay.{word_fault}

-- ---- there is one fault

one_line : (IsText : List ℕ → Type 0) (bytes : List ℕ) (m n : ℕ) → IsFirstFaultyLine IsText bytes m → IsFirstFaultyLine IsText bytes n → m ≡ n
one_line IsText bytes m n h g =
    elim (cases_order m n) [
      | inl same ↦ same
      | inr other ↦ elim other [
        | inl less ↦ absurd (h.faulty (g.before m less))
        | inr more ↦ absurd (g.faulty (h.before n more))
      ]
    ]

one_row : (d : Said) (ws : List (List ℕ)) (i j : ℕ) (k l : Kind) → IsFaultyWord d ws i k → IsFaultyWord d ws j l → k ≡ l
one_row d ws i j k l h g =
    elim (cases_order i j) [
      | inl same ↦ one h.faulty (rw (sym same) at g.faulty)
      | inr other ↦ elim other [
        | inl less ↦ let none = g.fit i less in let some = h.faulty in absurd cc
        | inr more ↦ let none = h.fit j more in let some = g.faulty in absurd cc
      ]
    ]
  where
    one : {o : Option Kind} → o ≡ Some k → o ≡ Some l → k ≡ l
    one e f = let both : Some k ≡ Some l = sym e ∙ f in cc

one_sort : (bytes : List ℕ) (n : ℕ) (k l : Kind) → IsKindOfFaultyLine IsScriptText bytes n k → IsKindOfFaultyLine IsScriptText bytes n l → k ≢ kinds.Size → l ≢ kinds.Size
    → (IsOfWord k → IsWordFault bytes n k) → (IsOfWord l → IsWordFault bytes n l) → Sort k → Sort l → k ≡ l
one_sort bytes n k l h g small few v w (missing e) s = e ∙ sym (g.missing.1 (h.missing.0 e))
one_sort bytes n k l h g small few v w (line_end e) s = e ∙ sym (g.line_end.1 (h.line_end.0 e))
one_sort bytes n k l h g small few v w (extra e) s = e ∙ sym (g.extra.1 (h.extra.0 e))
one_sort bytes n k l h g small few v w (size e) s = absurd (small e)
one_sort bytes n k l h g small few v w (word a) (missing e) = h.missing.1 (g.missing.0 e) ∙ sym e
one_sort bytes n k l h g small few v w (word a) (line_end e) = h.line_end.1 (g.line_end.0 e) ∙ sym e
one_sort bytes n k l h g small few v w (word a) (extra e) = h.extra.1 (g.extra.0 e) ∙ sym e
one_sort bytes n k l h g small few v w (word a) (size e) = absurd (few e)
one_sort bytes n k l h g small few v w (word a) (word b) =
    let x = v a in
    let y = w b in
    one_row _ _ x.index y.index k l x.word y.word

module _ (bytes : List ℕ) (f g : ScriptFault) (told : IsFaultOf bytes f) (again : IsFaultOf bytes g) where
  same : f.line ≡ g.line → f.kind ≡ g.kind → f ≡ g
  same line kind = ap (λ (n : ℕ). record { line = n; kind = f.kind }) line ∙ ap (λ (k : Kind). record { line = g.line; kind = k }) kind

  -- of too many bytes, in line 0
  both_none : f.line ≡ 0 → f ≡ g
  both_none zero =
      let more = told.size.line.0 zero in
      same (zero ∙ sym (again.size.line.1 more)) (told.size.kind.1 more ∙ sym (again.size.kind.1 more))

  -- in a line
  both_lines : f.line ≢ 0 → f ≡ g
  both_lines some =
      let other : g.line ≢ 0 = λ zero. some (told.size.line.1 (again.size.line.0 zero)) in
      let line : f.line ≡ g.line = one_line IsScriptText bytes f.line g.line (told.first some) (again.first other) in
      let small : f.kind ≢ kinds.Size = λ e. some (told.size.line.1 (told.size.kind.0 e)) in
      let few : g.kind ≢ kinds.Size = λ e. other (again.size.line.1 (again.size.kind.0 e)) in
      let back = sym line in
      same line (one_sort bytes f.line f.kind g.kind (told.kind some) (subst (λ (n : ℕ). IsKindOfFaultyLine IsScriptText bytes n g.kind) back (again.kind other)) small few
      told.word (λ a. subst (λ (n : ℕ). IsWordFault bytes n g.kind) back (again.word a)) (sort f.kind) (sort g.kind))

  one_fault : f ≡ g
  one_fault = go (f.line == 0) refl
    where
      go : (b : Bool) → (f.line == 0) ≡ b → f ≡ g
      go true e = both_none (eqb-true f.line 0 e)
      go false e = both_lines (eqb-false f.line 0 e)

-- ---- what reading gives is the fault

scripted_fault : (r : Result State ScriptFault) (f : ScriptFault) → scripted r ≡ Err f → r ≡ Err f
unfolding scripted
scripted_fault (Ok t) f h = absurd cc
scripted_fault (Err k) f h = let same : k ≡ f = cc in rw same refl

line_fault : (bytes : List ℕ) (f : ScriptFault) → script_read bytes ≡ Err f → f.line ≢ 0 → followed taken start 1 (cut 10 bytes) ≡ Err f
unfolding script_read
line_fault bytes f h some = go (nat_lt 4194304 (length bytes)) h
  where
    go : (b : Bool) → cond b (Err (fault_at 0 kinds.Size)) (scripted (followed taken start 1 (cut 10 bytes))) ≡ Err f → followed taken start 1 (cut 10 bytes) ≡ Err f
    go true e = let same : fault_at 0 kinds.Size ≡ f = cc in absurd (some (rw (← same) refl))
    go false e = scripted_fault (followed taken start 1 (cut 10 bytes)) f e

told_size : (bytes : List ℕ) (f : ScriptFault) → script_read bytes ≡ Err f → TellsSize bytes f
unfolding script_read
told_size bytes f h = go (nat_lt 4194304 (length bytes)) refl h
  where
    go : (b : Bool) → nat_lt 4194304 (length bytes) ≡ b → cond b (Err (fault_at 0 kinds.Size)) (scripted (followed taken start 1 (cut 10 bytes))) ≡ Err f → TellsSize bytes f
    go true e g =
        let same : fault_at 0 kinds.Size ≡ f = cc in
        let more : 4194304 < length bytes = ltb-true 4194304 (length bytes) e in
        record { line = (λ _. more, λ _. sym (ap (λ (k : ScriptFault). k.line) same)); kind = (λ _. more, λ _. sym (ap (λ (k : ScriptFault). k.kind) same)) }
    go false e g =
        let few : length bytes ≤ 4194304 = ltb-false 4194304 (length bytes) e in
        let read = scripted_fault (followed taken start 1 (cut 10 bytes)) f g in
        let low : 1 ≤ f.line = low_line Fits Whole lines all taken start IsScriptText leases bytes f read in
        record {
          line = (λ zero. absurd (omega arith), λ more. absurd (omega arith));
          kind = (λ is. absurd (no_size Fits Whole lines all taken start IsScriptText leases bytes f read is), λ more. absurd (omega arith));
        }

-- a fault of a word lies in a line
word_line : (bytes : List ℕ) (f : ScriptFault) → TellsSize bytes f → IsOfWord f.kind → f.line ≢ 0
unfolding IsOfWord
word_line bytes f tells blamed = λ zero. absurd (subst IsOfWord (tells.kind.1 (tells.line.0 zero)) blamed)

told : (bytes : List ℕ) (f : ScriptFault) → script_read bytes ≡ Err f → IsFaultOf bytes f
told bytes f read =
    let tells = told_size bytes f read in
    record {
      size = tells;
      first = λ some. first_fault Fits Whole lines all taken start IsScriptText leases bytes f (line_fault bytes f read some);
      kind = λ some. kind_of_line Fits Whole lines all taken start IsScriptText leases bytes f (line_fault bytes f read some);
      word = λ a. word_fault bytes f (line_fault bytes f read (word_line bytes f tells a)) a;
    }

-- so of what was returned
pub returned : (bytes : List ℕ) (r : Result LeaseScript ReadScript) → ReadsScript r (script_read bytes) → (f : ScriptFault) → IsErrOf r (errors.Fault f) → IsFaultOf bytes f
returned bytes (Ok s) h f e = absurd cc
returned bytes (Err (errors.Fault g)) h f e = let same : g ≡ f = cc in told bytes f (h ∙ rw same refl)
returned bytes (Err errors.NoMemory) h f e = absurd cc

-- ---- what is read is spelled so

script_read-sound : (bytes : List ℕ) (s : LeaseScript) → script_read bytes ≡ Ok s → IsSpelled bytes s
unfolding script_read scripted spelling
script_read-sound bytes s h = go (nat_lt 4194304 (length bytes)) refl h
  where
    go : (b : Bool) → nat_lt 4194304 (length bytes) ≡ b → cond b (Err (fault_at 0 kinds.Size)) (scripted (followed taken start 1 (cut 10 bytes))) ≡ Ok s → IsSpelled bytes s
    go true e f = absurd cc
    go false e f = read (followed taken start 1 (cut 10 bytes)) refl f
      where
        read : (r : Result State ScriptFault) → followed taken start 1 (cut 10 bytes) ≡ r → scripted r ≡ Ok s → IsSpelled bytes s
        read (Err k) g i = absurd cc
        read (Ok t) g i =
            let both = read_sound Fits Whole lines all taken start IsScriptText leases bytes t g in
            let same : script_of t ≡ s = cc in
            subst (λ (x : LeaseScript). IsSpelled bytes x) same (record { fits = whole_script t both.0; few_bytes = ltb-false 4194304 (length bytes) e; spelled = both.1 })

-- if a script was read, then the bytes spell it
pub read_found : (bytes : List ℕ) (r : Result LeaseScript ReadScript) → ReadsScript r (script_read bytes) → IfOk r (λ s. IsSpelled bytes s)
read_found bytes (Ok s) h = script_read-sound bytes s h
read_found bytes (Err e) h = tt

script_read-complete : (bytes : List ℕ) (s : LeaseScript) → IsSpelled bytes s → script_read bytes ≡ Ok s
unfolding script_read scripted spelling
script_read-complete bytes s spelled =
    let text = text_read Fits Whole lines all taken start IsScriptText leases (state_of_script s) (script_whole s spelled.fits) in
    let is : bytes ≡ lines_text (all (state_of_script s)) = spelled.spelled ∙ ap (λ (x : LeaseScript). lines_text (script_lines x)) (sym (script_is s)) in
    let read : followed taken start 1 (cut 10 bytes) ≡ Ok (state_of_script s) = ap (λ (bs : List ℕ). followed taken start 1 (cut 10 bs)) is ∙ text in
    rw (le-ltb 4194304 (length bytes) spelled.few_bytes, read) (ap (λ (x : LeaseScript). Ok x) (script_is s))

-- if bytes spell a script, then reading gives that one
pub read_only : (bytes : List ℕ) (r : Result LeaseScript ReadScript) → ReadsScript r (script_read bytes) → (s : LeaseScript) → IsSpelled bytes s → ReadsScript r (Ok s)
read_only bytes r h s spelled = rw (script_read-complete bytes s spelled) at h

-- ---- the law

-- bytes that spell a script have no fault
pub none_of_script : (bytes : List ℕ) → SpellsScript bytes → (f : ScriptFault) → ¬ IsFaultOf bytes f
none_of_script bytes spells f fault = go (f.line == 0) refl
  where
    go : (b : Bool) → (f.line == 0) ≡ b → ⊥
    go true e =
        let few = spells.spelled.few_bytes in
        let more = fault.size.line.0 (eqb-true f.line 0 e) in
        omega arith
    go false e =
        let text = spells.spelled in
        (fault.first (eqb-false f.line 0 e)).faulty record {
          text = bytes;
          is = record { script = spells.script; fits = text.fits; spelled = text.spelled };
          same = refl;
        }

module _ (bytes : List ℕ) where
  spells : (s : LeaseScript) → script_read bytes ≡ Ok s → SpellsScript bytes
  spells s read = record { script = s; spelled = script_read-sound bytes s read }

  -- the fault of the bytes is what reading gives
  fault_read : (f : ScriptFault) → IsFaultOf bytes f → script_read bytes ≡ Err f
  fault_read f fault = go (script_read bytes) refl
    where
      go : (r : Result LeaseScript ScriptFault) → script_read bytes ≡ r → script_read bytes ≡ Err f
      go (Ok s) e = absurd (none_of_script bytes (spells s e) f fault)
      go (Err g) e = let is : g ≡ f = one_fault bytes g f (told bytes g e) fault in e ∙ rw is refl

  pub read_fault : (f : ScriptFault) → (script_read bytes ≡ Err f) ↔ IsFaultOf bytes f
  read_fault f = (told bytes f, fault_read f)

  faulty : IsErr (script_read bytes) → ¬ SpellsScript bytes
  faulty h text =
      let read : script_read bytes ≡ Ok text.script = script_read-complete bytes text.script text.spelled in
      let no : false ≡ true = rw read at h in cc

  -- reading gives a fault of other bytes, and there is no other fault
  pub other_bytes : ¬ SpellsScript bytes → IsErr (script_read bytes) × HasOneFault bytes
  other_bytes no_text = go (script_read bytes) refl
    where
      go : (r : Result LeaseScript ScriptFault) → script_read bytes ≡ r → IsErr (script_read bytes) × HasOneFault bytes
      go (Ok s) e = absurd (no_text (spells s e))
      go (Err f) e =
          let fault = told bytes f e in
          (rw e refl, record { fault = f; is = fault; one = λ g other. one_fault bytes g f other fault })

  pub read_faulty : IsErr (script_read bytes) ↔ ¬ SpellsScript bytes
  read_faulty = (faulty, λ no_text. (other_bytes no_text).0)
