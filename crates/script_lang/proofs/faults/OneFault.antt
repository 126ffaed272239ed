-- Bytes have one fault at most: one line, and one kind.
use Rattle.std.proofs.Common.{◌≡◌, ◌≢◌, ℕ, Bool, true, false, List, Option, Some, refl, sym, ap, ◌∙◌, inl, inr, subst}
use Rattle.std.specs.Prelude.{◌==◌}
use Rattle.std.proofs.lemmas.Bool.{cases_order, eqb-true, eqb-false}
use Rattle.zeus_model.specs.Faults.{IsFaultyWord, IsWordFault, IsOfWord}
use Rattle.zeus_model.specs.FirstFault.{IsFirstFault, IsKindOfLine}
use Rattle.zeus_model.specs.Places.{Opening, Said}
use Rattle.zeus_model.specs.declared.fault.Kind.{Kind}
use Rattle.zeus_model.specs.declared.fault.Kind.TheVariants as kinds
use Rattle.zeus_model.specs.declared.fault.ScriptFault.{ScriptFault}
use Rattle.zeus_model.specs.declared.script.Script.{Script}
use Rattle.script_lang.specs.Live.{FitsLive, opening}
use Rattle.script_lang.specs.OneFault.{IsFaultOf}

-- there is one first faulty line
one_line : (Opened : Script → Type 0) (bytes : List ℕ) (m n : ℕ) → IsFirstFault Opened bytes m → IsFirstFault Opened bytes n → m ≡ n
one_line Opened bytes m n h g =
    elim (cases_order m n) [
      | inl same ↦ same
      | inr other ↦ elim other [
        | inl less ↦ absurd (h.faulty (g.before m less))
        | inr more ↦ absurd (g.faulty (h.before n more))
      ]
    ]

-- there is one first word that does not fit, and one row that it meets first
one_row : (o : Opening) (d : Said) (ws : List (List ℕ)) (i j : ℕ) (k l : Kind) → IsFaultyWord o d ws i k → IsFaultyWord o d ws j l → k ≡ l
one_row o d ws i j k l h g =
    elim (cases_order i j) [
      | inl same ↦ one (h.faulty) (rw (sym same) at g.faulty)
      | inr other ↦ elim other [
        | inl less ↦ let none = g.fit i less in let some = h.faulty in absurd cc
        | inr more ↦ let none = h.fit j more in let some = g.faulty in absurd cc
      ]
    ]
  where
    one : {o : Option Kind} → o ≡ Some k → o ≡ Some l → k ≡ l
    one e f = let both : Some k ≡ Some l = sym e ∙ f in cc

-- a kind is one of a line, or that of the size, or one of a word
pub data Sort (k : Kind) : Type 0 where
  missing : k ≡ kinds.Missing → Sort k
  line_end : k ≡ kinds.LineEnd → Sort k
  extra : k ≡ kinds.Extra → Sort k
  size : k ≡ kinds.Size → Sort k
  word : IsOfWord k → Sort k

-- each kind is one of a line, that of the size, or one of a word
pub sort : (k : Kind) → Sort k
unfolding IsOfWord
sort kinds.Missing = missing refl
sort kinds.LineEnd = line_end refl
sort kinds.Word = word tt
sort kinds.Text = word tt
sort kinds.Number = word tt
sort kinds.Range = word tt
sort kinds.Name = word tt
sort kinds.Twice = word tt
sort kinds.Unknown = word tt
sort kinds.Long = word tt
sort kinds.Extra = extra refl
sort kinds.Live = word tt
sort kinds.Size = size refl

-- the kind is that of a fault of the bytes in this line
record IsKindHere (Opened : Script → Type 0) (o : Opening) (bytes : List ℕ) (n : ℕ) (k : Kind) : Type 0 where
  of_line : IsKindOfLine Opened bytes n k
  not_size : k ≢ kinds.Size
  of_word : IsOfWord k → IsWordFault o bytes n k

one_sort : (Opened : Script → Type 0) (o : Opening) (bytes : List ℕ) (n : ℕ) (k l : Kind) → IsKindHere Opened o bytes n k → IsKindHere Opened o bytes n l → Sort k → Sort l → k ≡ l
one_sort Opened o bytes n k l h g (missing e) s = e ∙ sym (g.of_line.missing.1 (h.of_line.missing.0 e))
one_sort Opened o bytes n k l h g (line_end e) s = e ∙ sym (g.of_line.line_end.1 (h.of_line.line_end.0 e))
one_sort Opened o bytes n k l h g (extra e) s = e ∙ sym (g.of_line.extra.1 (h.of_line.extra.0 e))
one_sort Opened o bytes n k l h g (size e) s = absurd (h.not_size e)
one_sort Opened o bytes n k l h g (word a) (missing e) = h.of_line.missing.1 (g.of_line.missing.0 e) ∙ sym e
one_sort Opened o bytes n k l h g (word a) (line_end e) = h.of_line.line_end.1 (g.of_line.line_end.0 e) ∙ sym e
one_sort Opened o bytes n k l h g (word a) (extra e) = h.of_line.extra.1 (g.of_line.extra.0 e) ∙ sym e
one_sort Opened o bytes n k l h g (word a) (size e) = absurd (g.not_size e)
one_sort Opened o bytes n k l h g (word a) (word b) =
    let x = h.of_word a in
    let y = g.of_word b in
    one_row o _ _ x.index y.index k l x.word y.word

module _ (live : Bool) (bytes : List ℕ) (f g : ScriptFault) (told : IsFaultOf live bytes f) (again : IsFaultOf live bytes g) where
  -- of too many bytes, in line 0
  both_none : f.line ≡ 0 → f ≡ g
  both_none zero =
      let more = told.size.line.0 zero in
      let line : f.line ≡ g.line = zero ∙ sym (again.size.line.1 more) in
      let kind : f.kind ≡ g.kind = told.size.kind.1 more ∙ sym (again.size.kind.1 more) in
      same line kind
    where
      same : f.line ≡ g.line → f.kind ≡ g.kind → f ≡ g
      same line kind = ap (λ (n : ℕ). record { line = n; kind = f.kind }) line ∙ ap (λ (k : Kind). record { line = g.line; kind = k }) kind

  -- in a line
  both_lines : f.line ≢ 0 → f ≡ g
  both_lines some =
      let other : g.line ≢ 0 = λ zero. some (told.size.line.1 (again.size.line.0 zero)) in
      let line : f.line ≡ g.line = one_line (FitsLive live) bytes f.line g.line (told.first some) (again.first other) in
      let small : f.kind ≢ kinds.Size = λ e. some (told.size.line.1 (told.size.kind.0 e)) in
      let few : g.kind ≢ kinds.Size = λ e. other (again.size.line.1 (again.size.kind.0 e)) in
      let back = sym line in
      let kind : f.kind ≡ g.kind =
      one_sort (FitsLive live) (opening live) bytes f.line f.kind g.kind (record { of_line = told.kind some; not_size = small; of_word = told.word }) (record {
        of_line = subst (λ (n : ℕ). IsKindOfLine (FitsLive live) bytes n g.kind) back (again.kind other);
        not_size = few;
        of_word = λ a. subst (λ (n : ℕ). IsWordFault (opening live) bytes n g.kind) back (again.word a);
      }) (sort f.kind) (sort g.kind) in
      ap (λ (n : ℕ). record { line = n; kind = f.kind }) line ∙ ap (λ (k : Kind). record { line = g.line; kind = k }) kind

-- two faults of the same bytes are one
pub one_fault : (live : Bool) (bytes : List ℕ) (f g : ScriptFault) → IsFaultOf live bytes f → IsFaultOf live bytes g → f ≡ g
one_fault live bytes f g told again = go (f.line == 0) refl
  where
    go : (b : Bool) → (f.line == 0) ≡ b → f ≡ g
    go true e = both_none live bytes f g told again (eqb-true f.line 0 e)
    go false e = both_lines live bytes f g told again (eqb-false f.line 0 e)
