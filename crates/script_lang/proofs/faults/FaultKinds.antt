-- The kinds of faults that lie in a line as a whole, and the fault of too many bytes.
use Rattle.std.proofs.Common.{◌≡◌, ◌≢◌, ℕ, suc, ◌+◌, ◌-◌, ◌<◌, Bool, true, false, cond, List, [], ◌∷◌, ◌++◌, length, Err, refl, sym, ap, ◌∙◌, arith, append-nil, length-append, subst, inl, inr}
use Rattle.std.specs.Prelude.{◌==◌, ◌↔◌, ◌⊎◌}
use Rattle.std.specs.List.{AllByRecursion}
use Rattle.zeus_model.specs.Faults.{IsOfWord}
use Rattle.zeus_model.specs.declared.fault.Kind.{Kind}
use Rattle.zeus_model.specs.declared.fault.Kind.TheVariants as kinds
use Rattle.zeus_model.specs.declared.fault.ScriptFault.{ScriptFault}
use Rattle.zeus_model.specs.Spelling.{lines_text, script_lines, spelling}
use Rattle.zeus_model.specs.FirstFault.{first_lines, IsScriptText, lines_ended, IsKindOfLine}
use Rattle.script_lang.specs.Cut.{with_byte, cut, joined}
use Rattle.script_lang.specs.Reading.{start, unended, lines_taken, script_of}
use Rattle.script_lang.specs.Live.{FitsLive}
use Rattle.script_lang.proofs.Cutting.{Lacks, first_part, other_parts, cut_some, cut_not_none, cut_front}
use Rattle.script_lang.proofs.faults.FaultReached.{KindAt, Wanted, Before, before_fault}
use Rattle.script_lang.proofs.faults.FirstLines.{shown, shown-front, first_lines-shown, parts_lack}
use Rattle.script_lang.proofs.ReadComplete.{text_taken}
use Rattle.script_lang.proofs.ReadSound.{start_fits, script_fits, script_live, steps_fit, script_lines-lines, no_lines}
use Rattle.script_lang.proofs.laws.TextLaws.{joined-cut}

-- ---- how many lines are ended

length-with_byte : (b : ℕ) (p : List ℕ) (ps qs : List (List ℕ)) → qs ≡ p ∷ ps → length (with_byte b qs) ≡ length qs
unfolding with_byte
length-with_byte b p ps [] e = absurd cc
length-with_byte b p ps (q ∷ qs) e = refl

-- one part more than lines that are ended
pub length-cut_ended : (bytes : List ℕ) → length (cut 10 bytes) ≡ suc (lines_ended bytes)
unfolding cut lines_ended
length-cut_ended [] = refl
length-cut_ended (b ∷ bytes) = go (b == 10) (length-cut_ended bytes)
  where
    go : (t : Bool) → length (cut 10 bytes) ≡ suc (lines_ended bytes) → length (cond t ([] ∷ cut 10 bytes) (with_byte b (cut 10 bytes))) ≡ suc (cond t (suc (lines_ended bytes)) (lines_ended bytes))
    go true h = ap suc h
    go false h = length-with_byte b (first_part (cut 10 bytes)) (other_parts (cut 10 bytes)) (cut 10 bytes) (cut_some 10 bytes) ∙ h

-- ---- what the first lines are cut into

some_behind : (front : List (List ℕ)) (last : List ℕ) (others : List (List ℕ)) → front ++ last ∷ others ≡ [] → ⊥
some_behind [] last others e = cc
some_behind (p ∷ front) last others e = cc

cut-shown : (front : List (List ℕ)) (last : List ℕ) (others : List (List ℕ)) → AllByRecursion (Lacks 10) (front ++ last ∷ others) → cut 10 (shown (length front) (front ++ last ∷ others)) ≡ front ++ [] ∷ []
unfolding shown cut
cut-shown [] last others lack = refl
cut-shown (p ∷ front) last others lack =
    ap (cut 10) (shown-front (length front) p (front ++ last ∷ others) (some_behind front last others)) ∙ cut_front 10 p (shown (length front) (front ++ last ∷ others)) lack.0 ∙ ap (λ (ps : List (List ℕ)). p ∷ ps) (cut-shown front last others lack.1)

-- if a part follows a front of a cut, then the lines of the front are cut into its parts and an empty one
pub cut-first_lines : (bytes : List ℕ) (front : List (List ℕ)) (last : List ℕ) (others : List (List ℕ)) → cut 10 bytes ≡ front ++ last ∷ others → cut 10 (first_lines (length front) bytes) ≡ front ++ [] ∷ []
cut-first_lines bytes front last others is =
    ap (cut 10) (first_lines-shown (length front) bytes ∙ ap (shown (length front)) is) ∙ cut-shown front last others (subst (AllByRecursion (Lacks 10)) is (parts_lack 10 bytes))

-- if two lists with the same front are equal, then so is what stands behind it
pub same_behind : (front xs ys : List (List ℕ)) → front ++ xs ≡ front ++ ys → xs ≡ ys
same_behind [] xs ys e = e
same_behind (p ∷ front) xs ys e = let rest : front ++ xs ≡ front ++ ys = cc in same_behind front xs ys rest

-- ---- a line that is wanted

-- the kind of the fault of line n, with m lines before it
record KindBehind (live : Bool) (bytes : List ℕ) (m n : ℕ) (kind : Kind) : Type 0 where
  extra : (kind ≡ kinds.Extra) ↔ IsScriptText (FitsLive live) (first_lines m bytes)
  missing : (kind ≡ kinds.Missing) ↔ (first_lines m bytes ≡ bytes)
  line_end : (kind ≡ kinds.LineEnd) ↔ ((¬ IsScriptText (FitsLive live) (first_lines m bytes)) × (first_lines m bytes ≢ bytes) × (lines_ended bytes < n))

behind : (live : Bool) (bytes : List ℕ) (m n : ℕ) (kind : Kind) → m ≡ n - 1 → KindBehind live bytes m n kind → IsKindOfLine (FitsLive live) bytes n kind
behind live bytes m n kind is k = record { extra = rw (← is) k.extra; missing = rw (← is) k.missing; line_end = rw (← is) k.line_end }

module _ (live : Bool) (bytes : List ℕ) (n : ℕ) (kind : Kind) (front : List (List ℕ)) (line : length front + 1 ≡ n) (no_text : IsScriptText (FitsLive live) (first_lines (length front) bytes) → ⊥) where
  place : length front ≡ n - 1
  place = omega (arith, line)

  -- nothing stands there
  nothing : cut 10 bytes ≡ front ++ [] ∷ [] → kind ≡ kinds.Missing → IsKindOfLine (FitsLive live) bytes n kind
  nothing is missing =
      let whole : first_lines (length front) bytes ≡ bytes = sym (joined-cut 10 (first_lines (length front) bytes)) ∙ ap (joined 10) (cut-first_lines bytes front [] [] is ∙ sym is) ∙ joined-cut 10 bytes in
      behind live bytes (length front) n kind place record {
        extra = (λ h. absurd cc, λ t. absurd (no_text t));
        missing = (λ h. whole, λ h. missing);
        line_end = (λ h. absurd cc, λ h. absurd (h.1 whole));
      }

  not_whole : (last : List ℕ) (others : List (List ℕ)) → cut 10 bytes ≡ front ++ last ∷ others → first_lines (length front) bytes ≡ bytes → [] ∷ [] ≡ last ∷ others
  not_whole last others is whole = same_behind front ([] ∷ []) (last ∷ others) (sym (cut-first_lines bytes front last others is) ∙ ap (cut 10) whole ∙ is)

  ended_count : (last : List ℕ) (others : List (List ℕ)) → cut 10 bytes ≡ front ++ last ∷ others → lines_ended bytes ≡ length front + length others
  ended_count last others is =
      let all : suc (lines_ended bytes) ≡ length (front ++ last ∷ others) = sym (length-cut_ended bytes) ∙ ap length is in
      let sum : length (front ++ last ∷ others) ≡ length front + length (last ∷ others) = length-append front (last ∷ others) in
      omega (arith, all, sum)

  -- bytes stand there that are not ended
  not_ended : (b : ℕ) (bs : List ℕ) → cut 10 bytes ≡ front ++ (b ∷ bs) ∷ [] → kind ≡ kinds.LineEnd → IsKindOfLine (FitsLive live) bytes n kind
  not_ended b bs is line_end =
      let part : first_lines (length front) bytes ≡ bytes → ⊥ = λ h. let none = not_whole (b ∷ bs) [] is h in cc in
      let count = ended_count (b ∷ bs) [] is in
      behind live bytes (length front) n kind place record {
        extra = (λ h. absurd cc, λ t. absurd (no_text t));
        missing = (λ h. absurd cc, λ h. absurd (part h));
        line_end = (λ h. (no_text, part, omega (arith, count, line)), λ h. line_end);
      }

  -- a word is to blame
  by_word : (last q : List ℕ) (ps : List (List ℕ)) → cut 10 bytes ≡ front ++ last ∷ q ∷ ps → IsOfWord kind → IsKindOfLine (FitsLive live) bytes n kind
  unfolding IsOfWord
  by_word last q ps is word =
      let part : first_lines (length front) bytes ≡ bytes → ⊥ = λ h. let none = not_whole last (q ∷ ps) is h in cc in
      let count = ended_count last (q ∷ ps) is in
      behind live bytes (length front) n kind place record {
        extra = (λ h. absurd (subst IsOfWord h word), λ t. absurd (no_text t));
        missing = (λ h. absurd (subst IsOfWord h word), λ h. absurd (part h));
        line_end = (λ h. absurd (subst IsOfWord h word), λ h. absurd (omega (arith, count, line, h.2)));
      }

  wanted_kind : (last : List ℕ) (others : List (List ℕ)) → cut 10 bytes ≡ front ++ last ∷ others → KindAt last others kind → IsKindOfLine (FitsLive live) bytes n kind
  unfolding unended
  wanted_kind [] [] is k = nothing is k
  wanted_kind (b ∷ bs) [] is k = not_ended b bs is k
  wanted_kind last (q ∷ ps) is k = by_word last q ps is k

-- ---- all lines

-- a script's text has no fault
text_read : (live : Bool) (bytes : List ℕ) (f : ScriptFault) → IsScriptText (FitsLive live) bytes → lines_taken live start 1 (cut 10 bytes) ≡ Err f → ⊥
text_read live bytes f text h =
    let taken = (text_taken live text.script text.opened).taken in
    let same = ap (λ (bs : List ℕ). lines_taken live start 1 (cut 10 bs)) text.spelled in
    cc

not_alone : (live : Bool) (bytes : List ℕ) (f g : ScriptFault) (front : List (List ℕ)) (last : List ℕ) (others : List (List ℕ)) → cut 10 bytes ≡ front ++ last ∷ others → lines_taken live start 1 (front ++ [] ∷ []) ≡ Err g → IsScriptText (FitsLive live) (first_lines (length front) bytes) → ⊥
not_alone live bytes f g front last others is alone text =
    text_read live (first_lines (length front) bytes) g text (ap (lines_taken live start 1) (cut-first_lines bytes front last others is) ∙ alone)

-- the lines before what is extra
whole_text : (live : Bool) (bytes : List ℕ) (f : ScriptFault) (before : Before live start 1 (cut 10 bytes) f) → before.rest ≡ [] → IsScriptText (FitsLive live) (first_lines (length before.ls) bytes)
unfolding spelling
whole_text live bytes f before none =
    let s = script_of before.whole in
    let lines : script_lines s ≡ before.ls = script_lines-lines before.whole ∙ before.lines ∙ ap (λ (front : List (List (List ℕ))). front ++ (before.ls ++ before.rest)) no_lines ∙ ap (λ (rest : List (List (List ℕ))). before.ls ++ rest) none ∙ append-nil before.ls in
    record {
      script = s;
      opened = record { fits = script_fits live before.whole before.fits; few_steps = steps_fit live before.whole before.fits; opened = script_live live before.whole before.fits };
      spelled = first_lines-shown (length before.ls) bytes ∙ before.texts ∙ ap lines_text (sym lines);
    }

extra_kind : (live : Bool) (bytes : List ℕ) (f : ScriptFault) (m : ℕ) → lines_taken live start 1 (cut 10 bytes) ≡ Err f → m ≡ f.line - 1 → f.kind ≡ kinds.Extra → IsScriptText (FitsLive live) (first_lines m bytes) → IsKindOfLine (FitsLive live) bytes f.line f.kind
extra_kind live bytes f m h is kind text =
    let part : first_lines m bytes ≡ bytes → ⊥ = λ whole. text_read live bytes f (subst (IsScriptText (FitsLive live)) whole text) h in
    behind live bytes m f.line f.kind is record {
      extra = (λ h. text, λ t. kind);
      missing = (λ h. absurd cc, λ h. absurd (part h));
      line_end = (λ h. absurd cc, λ h. absurd (h.0 text));
    }

-- the kind of a line's fault
pub kind_of_line : (live : Bool) (bytes : List ℕ) (f : ScriptFault) → lines_taken live start 1 (cut 10 bytes) ≡ Err f → IsKindOfLine (FitsLive live) bytes f.line f.kind
kind_of_line live bytes f h =
    let before = before_fault live start 1 (cut 10 bytes) f (cut_not_none 10 bytes) (start_fits live) h in
    go before before.place
  where
    go : (before : Before live start 1 (cut 10 bytes) f) → ((before.rest ≡ []) × (f.kind ≡ kinds.Extra)) ⊎ Wanted live start 1 (cut 10 bytes) f → IsKindOfLine (FitsLive live) bytes f.line f.kind
    go before (inl behind) = extra_kind live bytes f (length before.ls) h (omega (arith, before.at)) behind.1 (whole_text live bytes f before behind.0)
    go before (inr w) = wanted_kind live bytes f.line f.kind w.front w.at (not_alone live bytes f _ w.front w.last w.others w.cut_so w.alone) w.last w.others w.cut_so w.kind

-- and no line has the kind of the size
pub no_size : (live : Bool) (bytes : List ℕ) (f : ScriptFault) → lines_taken live start 1 (cut 10 bytes) ≡ Err f → f.kind ≢ kinds.Size
unfolding unended IsOfWord
no_size live bytes f h size = go (before_fault live start 1 (cut 10 bytes) f (cut_not_none 10 bytes) (start_fits live) h).place
  where
    by : (last : List ℕ) (others : List (List ℕ)) → KindAt last others f.kind → ⊥
    by [] [] k = cc
    by (b ∷ bs) [] k = cc
    by last (q ∷ ps) k = subst IsOfWord size k

    go : {A : Type 0} → (A × (f.kind ≡ kinds.Extra)) ⊎ Wanted live start 1 (cut 10 bytes) f → ⊥
    go (inl behind) = let extra = behind.1 in cc
    go (inr w) = by w.last w.others w.kind
