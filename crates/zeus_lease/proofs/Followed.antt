-- Reading a language of lines one after another: what is read is a text, and what is none has its first faulty line.
use Rattle.std.proofs.Common.{◌≡◌, ◌≢◌, ℕ, zero, suc, ◌+◌, ◌-◌, ◌<◌, ◌≤◌, Bool, true, false, cond, List, [], ◌∷◌, ◌++◌, length, Result, Ok, Err, refl, sym, ap, ◌∙◌, arith, append_assoc, append-nil, length-append, subst, inl, inr}
use Rattle.std.specs.Prelude.{map, ◌⊎◌, ◌↔◌}
use Rattle.std.specs.List.{AllByRecursion}
use Rattle.zeus_model.specs.Faults.{IsOfWord}
use Rattle.zeus_model.specs.FirstFault.{first_lines, lines_ended}
use Rattle.zeus_model.specs.Spelling.{words_text, lines_text}
use Rattle.zeus_model.specs.declared.fault.Kind.{Kind}
use Rattle.zeus_model.specs.declared.fault.Kind.TheVariants as kinds
use Rattle.zeus_model.specs.declared.fault.ScriptFault.{ScriptFault}
use Rattle.script_lang.specs.Cut.{cut, joined}
use Rattle.script_lang.specs.Following.{line_followed, followed}
use Rattle.script_lang.specs.Reading.{fault_at, is_last, unended}
use Rattle.script_lang.specs.Texts.{BeginsText, IsFirstFaultyLine, IsKindOfFaultyLine}
use Rattle.script_lang.proofs.Cutting.{Lacks, cut_not_none}
use Rattle.script_lang.proofs.faults.FaultKinds.{cut-first_lines, same_behind, length-cut_ended}
use Rattle.script_lang.proofs.faults.FaultShared.{not_ended, same_line, is_none, is_last-shown}
use Rattle.script_lang.proofs.faults.FirstLines.{shown, shown-front, first_lines-shown, first_lines-fewer, parts_lack}
use Rattle.zeus_lease.proofs.Language.{Lines, parts_of, Goes, Language}
use Rattle.script_lang.proofs.ReadSound.{last_is}
use Rattle.script_lang.proofs.Sound.{read_is}
use Rattle.script_lang.proofs.TextComplete.{cut-lines_text}
use Rattle.script_lang.proofs.laws.TextLaws.{words_text-cut, joined-cut, ended_lines, lines_of_parts}
use Rattle.script_lang.proofs.faults.WordKinds.{BlamesWord}

abbrev failed : {S : Type 0} → ScriptFault → Result S ScriptFault
failed f = Err f

-- if a fault at a line is this fault, then it is in the same line
pub at_line : {S : Type 0} (n : ℕ) (k : Kind) (f : ScriptFault) → failed {S = S} (fault_at n k) ≡ failed f → n ≡ f.line
at_line n k f e = let same : fault_at n k ≡ f = cc in ap (λ (g : ScriptFault). g.line) same

-- if a fault at a line is this fault, then it is of the same kind
pub kind_there : {S : Type 0} (n : ℕ) (k : Kind) (f : ScriptFault) → failed {S = S} (fault_at n k) ≡ failed f → k ≡ f.kind
kind_there n k f e = let same : fault_at n k ≡ f = cc in ap (λ (g : ScriptFault). g.kind) same

-- the kind of a fault in a part that others follow or not
abbrev pub KindAt : {S : Type 0} → (S → List (List ℕ) → Result (Bool × S) Kind) → S → List ℕ → List (List ℕ) → Kind → Type 0
KindAt taken u last [] k = k ≡ unended last
KindAt taken u last (q ∷ ps) k = taken u (cut 32 last) ≡ Err k

-- a kind of a word is that of a line that others follow
pub taken_fault : {S : Type 0} (taken : S → List (List ℕ) → Result (Bool × S) Kind) (u : S) (last : List ℕ) (others : List (List ℕ)) (k : Kind) → KindAt taken u last others k → IsOfWord k → taken u (cut 32 last) ≡ Err k
unfolding unended IsOfWord
taken_fault taken u [] [] k at word = absurd (subst IsOfWord at word)
taken_fault taken u (b ∷ bs) [] k at word = absurd (subst IsOfWord at word)
taken_fault taken u last (q ∷ ps) k at word = at

-- the fault lies in a line that is wanted behind those before it, which lead to `there`
pub record Wanted {S : Type 0} (Fits : S → Type 0) (lines : S → Lines) (taken : S → List (List ℕ) → Result (Bool × S) Kind) (s : S) (n : ℕ) (parts : List (List ℕ)) (f : ScriptFault) : Type 0 where
  pub front : List (List ℕ)
  pub last : List ℕ
  pub others : List (List ℕ)
  pub there : S
  pub fits : Fits there
  pub said : lines there ≡ lines s ++ map (cut 32) front
  pub at : length front + n ≡ f.line
  pub cut_so : parts ≡ front ++ last ∷ others
  pub alone : followed taken s n (front ++ [] ∷ []) ≡ Err (fault_at f.line kinds.Missing)
  pub kind : KindAt taken there last others f.kind

-- the lines before the fault, with which a whole begins or ends
record Before {S : Type 0} (Fits Whole : S → Type 0) (lines all : S → Lines) (taken : S → List (List ℕ) → Result (Bool × S) Kind) (s : S) (n : ℕ) (parts : List (List ℕ)) (f : ScriptFault) : Type 0 where
  ls : Lines
  rest : Lines
  whole : S
  at : length ls + n ≡ f.line
  texts : shown (length ls) parts ≡ lines_text ls
  is : Whole whole
  made : all whole ≡ lines s ++ (ls ++ rest)
  place : ((rest ≡ []) × (f.kind ≡ kinds.Extra)) ⊎ Wanted Fits lines taken s n parts f

some_more : (front : List (List ℕ)) → front ++ [] ∷ [] ≡ [] → ⊥
some_more [] e = cc
some_more (p ∷ front) e = cc

text_front : (p xs : List ℕ) → p ++ 10 ∷ xs ≡ words_text (cut 32 p) ++ 10 ∷ [] ++ xs
text_front p xs = rw words_text-cut (sym (append_assoc p (10 ∷ []) xs))

shown-lines : (ls rest : Lines) → shown (length ls) (parts_of (ls ++ rest)) ≡ lines_text ls
unfolding shown lines_text
shown-lines [] rest = refl
shown-lines (l ∷ ls) rest =
    shown-front (length ls) (words_text l) (parts_of (ls ++ rest)) (ended_lines (ls ++ rest)) ∙ rw (shown-lines ls rest) (sym (append_assoc (words_text l) (10 ∷ []) (lines_text ls)))

module _ {S : Type 0} (Fits Whole : S → Type 0) (lines all : S → Lines) (taken : S → List (List ℕ) → Result (Bool × S) Kind) (start : S) (IsText : List ℕ → Type 0)
    (L : Language Fits Whole lines all taken start IsText) where
  -- ---- no fault lies before the line where reading begins

  from_line : (s : S) (m : ℕ) (ps : List (List ℕ)) (f : ScriptFault) → followed taken s m ps ≡ Err f → m ≤ f.line
  unfolding followed line_followed
  from_line s m [] f h = omega (arith, at_line m kinds.Missing f h)
  from_line s m (p ∷ []) f h = omega (arith, at_line m (unended p) f h)
  from_line s m (p ∷ q ∷ ps) f h = go (taken s (cut 32 p)) h (λ u g. from_line u (suc m) (q ∷ ps) f g)
    where
      go : (r : Result (Bool × S) Kind) → line_followed r m (q ∷ ps) (λ u. followed taken u (suc m) (q ∷ ps)) ≡ Err f
          → ((u : S) → followed taken u (suc m) (q ∷ ps) ≡ Err f → suc m ≤ f.line) → m ≤ f.line
      go (Err k) e rest = omega (arith, at_line m k f e)
      go (Ok (true, u)) e rest = choose (is_last (q ∷ ps)) e
        where
          choose : (b : Bool) → cond b (Ok u) (Err (fault_at (suc m) kinds.Extra)) ≡ Err f → m ≤ f.line
          choose true g = absurd cc
          choose false g = omega (arith, at_line (suc m) kinds.Extra f g)
      go (Ok (false, u)) e rest = let later = rest u e in omega arith

  -- ---- a fault is that of all bytes that share the lines up to it

  extra_shared : (m n : ℕ) (q t : List ℕ) (ps rs : List (List ℕ)) (u : S) (f : ScriptFault) → shown n (q ∷ ps) ≡ shown n (t ∷ rs) → f.line < m + suc n
      → cond (is_last (q ∷ ps)) (Ok u) (Err (fault_at (suc m) kinds.Extra)) ≡ Err f → cond (is_last (t ∷ rs)) (Ok u) (Err (fault_at (suc m) kinds.Extra)) ≡ Err f
  extra_shared m zero q t ps rs u f same lt h = choose (is_last (q ∷ ps)) h
    where
      choose : (b : Bool) → cond b (Ok u) (Err (fault_at (suc m) kinds.Extra)) ≡ Err f → cond (is_last (t ∷ rs)) (Ok u) (Err (fault_at (suc m) kinds.Extra)) ≡ Err f
      choose true g = absurd cc
      choose false g = let at = at_line (suc m) kinds.Extra f g in absurd (omega arith)
  extra_shared m (suc n) q t ps rs u f same lt h =
      let alike : is_last (q ∷ ps) ≡ is_last (t ∷ rs) = is_last-shown n q ps ∙ ap is_none same ∙ sym (is_last-shown n t rs) in
      rw alike at h

  same_fault : (s : S) (m n : ℕ) (ps rs : List (List ℕ)) → AllByRecursion (Lacks 10) ps → AllByRecursion (Lacks 10) rs → shown n ps ≡ shown n rs
      → (f : ScriptFault) → f.line < m + n → followed taken s m ps ≡ Err f → followed taken s m rs ≡ Err f
  unfolding followed line_followed shown unended Lacks
  same_fault s m zero ps rs lack free same f lt h = let low = from_line s m ps f h in absurd (omega arith)
  same_fault s m (suc n) [] [] lack free same f lt h = h
  same_fault s m (suc n) [] (r ∷ []) lack free same f lt h = rw (← same) h
  same_fault s m (suc n) [] (r ∷ t ∷ rs) lack free same f lt h = absurd (not_ended [] r (shown n (t ∷ rs)) tt same)
  same_fault s m (suc n) (p ∷ []) [] lack free same f lt h = rw same at h
  same_fault s m (suc n) (p ∷ []) (r ∷ []) lack free same f lt h = rw same at h
  same_fault s m (suc n) (p ∷ []) (r ∷ t ∷ rs) lack free same f lt h = absurd (not_ended p r (shown n (t ∷ rs)) lack.0 same)
  same_fault s m (suc n) (p ∷ q ∷ ps) [] lack free same f lt h = absurd (not_ended [] p (shown n (q ∷ ps)) tt (sym same))
  same_fault s m (suc n) (p ∷ q ∷ ps) (r ∷ []) lack free same f lt h = absurd (not_ended r p (shown n (q ∷ ps)) free.0 (sym same))
  same_fault s m (suc n) (p ∷ q ∷ ps) (r ∷ t ∷ rs) lack free same f lt h =
      let both = same_line p r (shown n (q ∷ ps)) (shown n (t ∷ rs)) lack.0 free.0 same in
      rw (← both.0) (go both.1 (taken s (cut 32 p)) h (λ u lesser g. same_fault u (suc m) n (q ∷ ps) (t ∷ rs) lack.1 free.1 both.1 f lesser g))
    where
      go : shown n (q ∷ ps) ≡ shown n (t ∷ rs) → (r' : Result (Bool × S) Kind) → line_followed r' m (q ∷ ps) (λ u. followed taken u (suc m) (q ∷ ps)) ≡ Err f
          → ((u : S) → f.line < suc m + n → followed taken u (suc m) (q ∷ ps) ≡ Err f → followed taken u (suc m) (t ∷ rs) ≡ Err f)
          → line_followed r' m (t ∷ rs) (λ u. followed taken u (suc m) (t ∷ rs)) ≡ Err f
      go alike (Err k) e rest = e
      go alike (Ok (true, u)) e rest = extra_shared m n q t ps rs u f alike lt e
      go alike (Ok (false, u)) e rest = rest u (omega arith) e

  -- ---- a whole text is read

  text_parts : (t : S) → Whole t → cut 10 (lines_text (all t)) ≡ parts_of (all t)
  text_parts t is = cut-lines_text (all t) (L.are t is)

  pub text_read : (t : S) → Whole t → followed taken start 1 (cut 10 (lines_text (all t))) ≡ Ok t
  text_read t is = rw (text_parts t is) (L.read t is)

  -- so a text has no fault
  no_fault : (bytes : List ℕ) (f : ScriptFault) → IsText bytes → followed taken start 1 (cut 10 bytes) ≡ Err f → ⊥
  no_fault bytes f is h =
      let text = L.of_text bytes is in
      let read = text_read text.whole text.is in
      let same = ap (λ (bs : List ℕ). followed taken start 1 (cut 10 bs)) text.spelled in
      cc

  -- the lines up to a fault are those of no text
  none_begins : (bytes : List ℕ) (f : ScriptFault) → followed taken start 1 (cut 10 bytes) ≡ Err f → BeginsText IsText bytes f.line → ⊥
  none_begins bytes f h begins =
      let same : shown f.line (cut 10 bytes) ≡ shown f.line (cut 10 begins.text) = sym (first_lines-shown f.line bytes) ∙ sym begins.same ∙ first_lines-shown f.line begins.text in
      let fails = same_fault start 1 f.line (cut 10 bytes) (cut 10 begins.text) (parts_lack 10 bytes) (parts_lack 10 begins.text) same f (omega arith) h in
      no_fault begins.text f begins.is fails

  -- ---- the lines before a fault

  -- the line where reading begins
  wanted_here : (s : S) (n : ℕ) (p : List ℕ) (ps : List (List ℕ)) (f : ScriptFault) → Fits s → n ≡ f.line → KindAt taken s p ps f.kind → Wanted Fits lines taken s n (p ∷ ps) f
  unfolding followed unended
  wanted_here s n p ps f fits at kind = record {
    front = [];
    last = p;
    others = ps;
    there = s;
    fits = fits;
    said = sym (append-nil (lines s));
    at = omega (arith, at);
    cut_so = refl;
    alone = rw at refl;
    kind = kind;
  }

  line_ended : (s : S) (n : ℕ) (p : List ℕ) (rest : List (List ℕ)) → (rest ≡ [] → ⊥) → followed taken s n (p ∷ rest) ≡ line_followed (taken s (cut 32 p)) n rest (λ t. followed taken t (suc n) rest)
  unfolding followed
  line_ended s n p [] some = absurd (some refl)
  line_ended s n p (q ∷ ps) some = refl

  wanted_more : (s u : S) (n : ℕ) (p : List ℕ) (ps : List (List ℕ)) (f : ScriptFault) → taken s (cut 32 p) ≡ Ok (false, u) → lines u ≡ lines s ++ cut 32 p ∷ [] → Wanted Fits lines taken u (suc n) ps f → Wanted Fits lines taken s n (p ∷ ps) f
  unfolding line_followed
  wanted_more s u n p ps f went adds w = record {
    front = p ∷ w.front;
    last = w.last;
    others = w.others;
    there = w.there;
    fits = w.fits;
    said = w.said ∙ ap (λ (ls : Lines). ls ++ map (cut 32) w.front) adds ∙ append_assoc (lines s) (cut 32 p ∷ []) (map (cut 32) w.front);
    at = omega (arith, w.at);
    cut_so = ap (λ (qs : List (List ℕ)). p ∷ qs) w.cut_so;
    alone = line_ended s n p (w.front ++ [] ∷ []) (some_more w.front) ∙ rw went w.alone;
    kind = w.kind;
  }

  before_none : (s : S) (n : ℕ) (parts : List (List ℕ)) (f : ScriptFault) → Fits s → n ≡ f.line → Wanted Fits lines taken s n parts f → Before Fits Whole lines all taken s n parts f
  unfolding shown lines_text
  before_none s n parts f fits at w =
      let done = L.completes s fits in
      record { ls = []; rest = done.ls; whole = done.whole; at = omega (arith, at); texts = refl; is = done.is; made = done.made; place = inr w }

  place_more : (s u : S) (n : ℕ) (p : List ℕ) (ps : List (List ℕ)) (f : ScriptFault) {A : Type 0} → taken s (cut 32 p) ≡ Ok (false, u) → lines u ≡ lines s ++ cut 32 p ∷ [] → A ⊎ Wanted Fits lines taken u (suc n) ps f → A ⊎ Wanted Fits lines taken s n (p ∷ ps) f
  place_more s u n p ps f went adds (inl a) = inl a
  place_more s u n p ps f went adds (inr w) = inr (wanted_more s u n p ps f went adds w)

  before_more : (s u : S) (n : ℕ) (p q : List ℕ) (ps : List (List ℕ)) (f : ScriptFault) → taken s (cut 32 p) ≡ Ok (false, u) → lines u ≡ lines s ++ cut 32 p ∷ [] → Before Fits Whole lines all taken u (suc n) (q ∷ ps) f → Before Fits Whole lines all taken s n (p ∷ q ∷ ps) f
  unfolding shown lines_text
  before_more s u n p q ps f went adds before = record {
    ls = cut 32 p ∷ before.ls;
    rest = before.rest;
    whole = before.whole;
    at = omega (arith, before.at);
    texts = ap (λ (xs : List ℕ). p ++ 10 ∷ xs) before.texts ∙ text_front p (lines_text before.ls);
    is = before.is;
    made = before.made ∙ ap (λ (front : Lines). front ++ (before.ls ++ before.rest)) adds ∙ append_assoc (lines s) (cut 32 p ∷ []) (before.ls ++ before.rest);
    place = place_more s u n p (q ∷ ps) f went adds before.place;
  }

  before_extra : (s u : S) (n : ℕ) (p q : List ℕ) (ps : List (List ℕ)) (f : ScriptFault) → Whole u → all u ≡ lines s ++ cut 32 p ∷ [] → suc n ≡ f.line → kinds.Extra ≡ f.kind → Before Fits Whole lines all taken s n (p ∷ q ∷ ps) f
  unfolding shown lines_text
  before_extra s u n p q ps f is made line kind = record {
    ls = cut 32 p ∷ [];
    rest = [];
    whole = u;
    at = omega (arith, line);
    texts = text_front p [];
    is = is;
    made = made;
    place = inl (refl, sym kind);
  }

  before_fault : (s : S) (n : ℕ) (parts : List (List ℕ)) (f : ScriptFault) → (parts ≡ [] → ⊥) → Fits s → followed taken s n parts ≡ Err f → Before Fits Whole lines all taken s n parts f
  unfolding followed line_followed
  before_fault s n [] f some fits h = absurd (some refl)
  before_fault s n (p ∷ []) f some fits h =
      let at = at_line n (unended p) f h in
      before_none s n (p ∷ []) f fits at (wanted_here s n p [] f fits at (sym (kind_there n (unended p) f h)))
  before_fault s n (p ∷ q ∷ ps) f some fits h =
      go (taken s (cut 32 p)) refl h (λ u after g. before_fault u (suc n) (q ∷ ps) f (λ e. cc) after g)
    where
      go : (r : Result (Bool × S) Kind) → taken s (cut 32 p) ≡ r → line_followed r n (q ∷ ps) (λ u. followed taken u (suc n) (q ∷ ps)) ≡ Err f
          → ((u : S) → Fits u → followed taken u (suc n) (q ∷ ps) ≡ Err f → Before Fits Whole lines all taken u (suc n) (q ∷ ps) f) → Before Fits Whole lines all taken s n (p ∷ q ∷ ps) f
      go (Err k) e g rest =
          let at = at_line n k f g in
          before_none s n (p ∷ q ∷ ps) f fits at (wanted_here s n p (q ∷ ps) f fits at (e ∙ ap (λ (l : Kind). Err l) (kind_there n k f g)))
      go (Ok (true, u)) e g rest =
          let goes = read_is (taken s (cut 32 p)) (true, u) (Goes Fits Whole lines all s (cut 32 p)) e (L.goes s (cut 32 p) fits) in
          let there = choose (is_last (q ∷ ps)) g in
          before_extra s u n p q ps f goes.0 goes.1 (at_line (suc n) kinds.Extra f there) (kind_there (suc n) kinds.Extra f there)
        where
          choose : (b : Bool) → cond b (Ok u) (Err (fault_at (suc n) kinds.Extra)) ≡ Err f → failed {S = S} (fault_at (suc n) kinds.Extra) ≡ failed f
          choose true i = absurd cc
          choose false i = i
      go (Ok (false, u)) e g rest =
          let adds = read_is (taken s (cut 32 p)) (false, u) (Goes Fits Whole lines all s (cut 32 p)) e (L.goes s (cut 32 p) fits) in
          before_more s u n p q ps f e adds.1 (rest u adds.0 g)

  at_start : (bytes : List ℕ) (f : ScriptFault) → followed taken start 1 (cut 10 bytes) ≡ Err f → Before Fits Whole lines all taken start 1 (cut 10 bytes) f
  at_start bytes f h = before_fault start 1 (cut 10 bytes) f (cut_not_none 10 bytes) L.starts h

  made_whole : (bytes : List ℕ) (f : ScriptFault) (before : Before Fits Whole lines all taken start 1 (cut 10 bytes) f) → all before.whole ≡ before.ls ++ before.rest
  made_whole bytes f before = before.made ∙ ap (λ (front : Lines). front ++ (before.ls ++ before.rest)) L.no_lines

  before_begins : (bytes : List ℕ) (f : ScriptFault) (before : Before Fits Whole lines all taken start 1 (cut 10 bytes) f) → BeginsText IsText bytes (length before.ls)
  before_begins bytes f before =
      let text = lines_text (all before.whole) in
      let n = length before.ls in
      let parts : cut 10 text ≡ parts_of (before.ls ++ before.rest) = text_parts before.whole before.is ∙ ap parts_of (made_whole bytes f before) in
      record {
        text = text;
        is = L.is_text text record { whole = before.whole; is = before.is; spelled = refl };
        same = first_lines-shown n text ∙ ap (shown n) parts ∙ shown-lines before.ls before.rest ∙ sym before.texts ∙ sym (first_lines-shown n bytes);
      }

  fewer_begin : (bytes : List ℕ) (k n : ℕ) → k ≤ n → BeginsText IsText bytes n → BeginsText IsText bytes k
  fewer_begin bytes k n le begins = record { text = begins.text; is = begins.is; same = first_lines-fewer k n begins.text bytes le begins.same }

  -- a fault is that of the first faulty line
  pub first_fault : (bytes : List ℕ) (f : ScriptFault) → followed taken start 1 (cut 10 bytes) ≡ Err f → IsFirstFaultyLine IsText bytes f.line
  first_fault bytes f h =
      let before = at_start bytes f h in
      record {
        before = λ k lt. fewer_begin bytes k (length before.ls) (omega (arith, before.at)) (before_begins bytes f before);
        faulty = none_begins bytes f h;
      }

  -- ---- its kind

  -- the kind of the fault of line n, with m lines before it
  behind : (bytes : List ℕ) (m n : ℕ) (kind : Kind) → m ≡ n - 1
      → (kind ≡ kinds.Extra) ↔ IsText (first_lines m bytes) → (kind ≡ kinds.Missing) ↔ (first_lines m bytes ≡ bytes)
      → (kind ≡ kinds.LineEnd) ↔ ((¬ IsText (first_lines m bytes)) × (first_lines m bytes ≢ bytes) × (lines_ended bytes < n)) → IsKindOfFaultyLine IsText bytes n kind
  behind bytes m n kind is extra missing line_end = record { extra = rw (← is) extra; missing = rw (← is) missing; line_end = rw (← is) line_end }

  module _ (bytes : List ℕ) (n : ℕ) (kind : Kind) (front : List (List ℕ)) (line : length front + 1 ≡ n) (no_text : IsText (first_lines (length front) bytes) → ⊥) where
    place : length front ≡ n - 1
    place = omega (arith, line)

    -- nothing stands there
    nothing : cut 10 bytes ≡ front ++ [] ∷ [] → kind ≡ kinds.Missing → IsKindOfFaultyLine IsText bytes n kind
    nothing is missing =
        let whole : first_lines (length front) bytes ≡ bytes = sym (joined-cut 10 (first_lines (length front) bytes)) ∙ ap (joined 10) (cut-first_lines bytes front [] [] is ∙ sym is) ∙ joined-cut 10 bytes in
        behind bytes (length front) n kind place (λ h. absurd cc, λ t. absurd (no_text t)) (λ h. whole, λ h. missing) (λ h. absurd cc, λ h. absurd (h.1 whole))

    not_whole : (last : List ℕ) (others : List (List ℕ)) → cut 10 bytes ≡ front ++ last ∷ others → first_lines (length front) bytes ≡ bytes → [] ∷ [] ≡ last ∷ others
    not_whole last others is whole = same_behind front ([] ∷ []) (last ∷ others) (sym (cut-first_lines bytes front last others is) ∙ ap (cut 10) whole ∙ is)

    ended_count : (last : List ℕ) (others : List (List ℕ)) → cut 10 bytes ≡ front ++ last ∷ others → lines_ended bytes ≡ length front + length others
    ended_count last others is =
        let total : suc (lines_ended bytes) ≡ length (front ++ last ∷ others) = sym (length-cut_ended bytes) ∙ ap length is in
        let sum : length (front ++ last ∷ others) ≡ length front + length (last ∷ others) = length-append front (last ∷ others) in
        omega (arith, total, sum)

    -- bytes stand there that are not ended
    not_closed : (b : ℕ) (bs : List ℕ) → cut 10 bytes ≡ front ++ (b ∷ bs) ∷ [] → kind ≡ kinds.LineEnd → IsKindOfFaultyLine IsText bytes n kind
    not_closed b bs is line_end =
        let part : first_lines (length front) bytes ≡ bytes → ⊥ = λ h. let none = not_whole (b ∷ bs) [] is h in cc in
        let count = ended_count (b ∷ bs) [] is in
        behind bytes (length front) n kind place (λ h. absurd cc, λ t. absurd (no_text t)) (λ h. absurd cc, λ h. absurd (part h)) (λ h. (no_text, part, omega (arith, count, line)), λ h. line_end)

    -- a word is to blame
    by_word : (last q : List ℕ) (ps : List (List ℕ)) → cut 10 bytes ≡ front ++ last ∷ q ∷ ps → IsOfWord kind → IsKindOfFaultyLine IsText bytes n kind
    unfolding IsOfWord
    by_word last q ps is word =
        let part : first_lines (length front) bytes ≡ bytes → ⊥ = λ h. let none = not_whole last (q ∷ ps) is h in cc in
        let count = ended_count last (q ∷ ps) is in
        behind bytes (length front) n kind place
        (λ h. absurd (subst IsOfWord h word), λ t. absurd (no_text t)) (λ h. absurd (subst IsOfWord h word), λ h. absurd (part h)) (λ h. absurd (subst IsOfWord h word), λ h. absurd (omega (arith, count, line, h.2)))

  -- a line that is not taken has a word to blame
  blamed : (u : S) (ws : List (List ℕ)) (k : Kind) → taken u ws ≡ Err k → IsOfWord k
  blamed u ws k e = go (taken u ws) e (L.blames u ws)
    where
      go : (r : Result (Bool × S) Kind) → r ≡ Err k → BlamesWord r → IsOfWord k
      go (Ok x) g b = absurd cc
      go (Err l) g b = let same : l ≡ k = cc in subst IsOfWord same b.holds

  wanted_kind : (bytes : List ℕ) (n : ℕ) (kind : Kind) (front : List (List ℕ)) (line : length front + 1 ≡ n) (no_text : IsText (first_lines (length front) bytes) → ⊥)
      (u : S) (last : List ℕ) (others : List (List ℕ)) → cut 10 bytes ≡ front ++ last ∷ others → KindAt taken u last others kind → IsKindOfFaultyLine IsText bytes n kind
  unfolding unended
  wanted_kind bytes n kind front line no_text u [] [] is k = nothing bytes n kind front line no_text is k
  wanted_kind bytes n kind front line no_text u (b ∷ bs) [] is k = not_closed bytes n kind front line no_text b bs is k
  wanted_kind bytes n kind front line no_text u last (q ∷ ps) is k = by_word bytes n kind front line no_text last q ps is (blamed u (cut 32 last) kind k)

  not_alone : (bytes : List ℕ) (g : ScriptFault) (front : List (List ℕ)) (last : List ℕ) (others : List (List ℕ)) → cut 10 bytes ≡ front ++ last ∷ others → followed taken start 1 (front ++ [] ∷ []) ≡ Err g → IsText (first_lines (length front) bytes) → ⊥
  not_alone bytes g front last others is alone text =
      no_fault (first_lines (length front) bytes) g text (ap (followed taken start 1) (cut-first_lines bytes front last others is) ∙ alone)

  extra_kind : (bytes : List ℕ) (f : ScriptFault) (m : ℕ) → followed taken start 1 (cut 10 bytes) ≡ Err f → m ≡ f.line - 1 → f.kind ≡ kinds.Extra → IsText (first_lines m bytes) → IsKindOfFaultyLine IsText bytes f.line f.kind
  extra_kind bytes f m h is kind text =
      let part : first_lines m bytes ≡ bytes → ⊥ = λ whole. no_fault bytes f (subst IsText whole text) h in
      behind bytes m f.line f.kind is (λ h. text, λ t. kind) (λ h. absurd cc, λ h. absurd (part h)) (λ h. absurd cc, λ h. absurd (h.0 text))

  -- the lines before what is extra
  whole_text : (bytes : List ℕ) (f : ScriptFault) (before : Before Fits Whole lines all taken start 1 (cut 10 bytes) f) → before.rest ≡ [] → IsText (first_lines (length before.ls) bytes)
  whole_text bytes f before none =
      let made : all before.whole ≡ before.ls = made_whole bytes f before ∙ ap (λ (rest : Lines). before.ls ++ rest) none ∙ append-nil before.ls in
      L.is_text _ record { whole = before.whole; is = before.is; spelled = first_lines-shown (length before.ls) bytes ∙ before.texts ∙ ap lines_text (sym made) }

  pub kind_of_line : (bytes : List ℕ) (f : ScriptFault) → followed taken start 1 (cut 10 bytes) ≡ Err f → IsKindOfFaultyLine IsText bytes f.line f.kind
  kind_of_line bytes f h =
      let before = at_start bytes f h in
      go before before.place
    where
      go : (before : Before Fits Whole lines all taken start 1 (cut 10 bytes) f) → ((before.rest ≡ []) × (f.kind ≡ kinds.Extra)) ⊎ Wanted Fits lines taken start 1 (cut 10 bytes) f → IsKindOfFaultyLine IsText bytes f.line f.kind
      go before (inl behind) = extra_kind bytes f (length before.ls) h (omega (arith, before.at)) behind.1 (whole_text bytes f before behind.0)
      go before (inr w) = wanted_kind bytes f.line f.kind w.front w.at (not_alone bytes _ w.front w.last w.others w.cut_so w.alone) w.there w.last w.others w.cut_so w.kind

  -- a fault of a word lies in a line that is wanted, behind those that lead to it; no line has the kind of the size
  pub where_wanted : (bytes : List ℕ) (f : ScriptFault) → followed taken start 1 (cut 10 bytes) ≡ Err f → IsOfWord f.kind → Wanted Fits lines taken start 1 (cut 10 bytes) f
  unfolding IsOfWord
  where_wanted bytes f h word = go (at_start bytes f h).place
    where
      go : {A : Type 0} → (A × (f.kind ≡ kinds.Extra)) ⊎ Wanted Fits lines taken start 1 (cut 10 bytes) f → Wanted Fits lines taken start 1 (cut 10 bytes) f
      go (inl behind) = absurd (subst IsOfWord behind.1 word)
      go (inr w) = w

  pub no_size : (bytes : List ℕ) (f : ScriptFault) → followed taken start 1 (cut 10 bytes) ≡ Err f → f.kind ≢ kinds.Size
  unfolding unended IsOfWord
  no_size bytes f h size = go (at_start bytes f h).place
    where
      by : (u : S) (last : List ℕ) (others : List (List ℕ)) → KindAt taken u last others f.kind → ⊥
      by u [] [] k = cc
      by u (b ∷ bs) [] k = cc
      by u last (q ∷ ps) k = subst IsOfWord size (blamed u (cut 32 last) f.kind k)

      go : {A : Type 0} → (A × (f.kind ≡ kinds.Extra)) ⊎ Wanted Fits lines taken start 1 (cut 10 bytes) f → ⊥
      go (inl behind) = let extra = behind.1 in cc
      go (inr w) = by w.there w.last w.others w.kind

  pub low_line : (bytes : List ℕ) (f : ScriptFault) → followed taken start 1 (cut 10 bytes) ≡ Err f → 1 ≤ f.line
  low_line bytes f h = from_line start 1 (cut 10 bytes) f h

  -- ---- what is read is a whole text

  read_on : (s t : S) (n : ℕ) (parts : List (List ℕ)) → Fits s → followed taken s n parts ≡ Ok t → (ls : Lines) × (parts ≡ parts_of ls) × Whole t × (all t ≡ lines s ++ ls)
  unfolding followed line_followed
  read_on s t n [] fits h = absurd cc
  read_on s t n (p ∷ []) fits h = absurd cc
  read_on s t n (p ∷ q ∷ ps) fits h =
      go (taken s (cut 32 p)) refl h (λ u after g. read_on u t (suc n) (q ∷ ps) after g)
    where
      go : (r : Result (Bool × S) Kind) → taken s (cut 32 p) ≡ r → line_followed r n (q ∷ ps) (λ u. followed taken u (suc n) (q ∷ ps)) ≡ Ok t
          → ((u : S) → Fits u → followed taken u (suc n) (q ∷ ps) ≡ Ok t → (ls : Lines) × (q ∷ ps ≡ parts_of ls) × Whole t × (all t ≡ lines u ++ ls))
          → (ls : Lines) × (p ∷ q ∷ ps ≡ parts_of ls) × Whole t × (all t ≡ lines s ++ ls)
      go (Err k) e g rest = absurd cc
      go (Ok (true, u)) e g rest =
          let goes = read_is (taken s (cut 32 p)) (true, u) (Goes Fits Whole lines all s (cut 32 p)) e (L.goes s (cut 32 p) fits) in
          choose (is_last (q ∷ ps)) refl g goes.0 goes.1
        where
          choose : (b : Bool) → is_last (q ∷ ps) ≡ b → cond b (Ok u) (Err (fault_at (suc n) kinds.Extra)) ≡ Ok t → Whole u → all u ≡ lines s ++ cut 32 p ∷ []
              → (ls : Lines) × (p ∷ q ∷ ps ≡ parts_of ls) × Whole t × (all t ≡ lines s ++ ls)
          choose true last i is made =
              let same : u ≡ t = cc in
              let none : q ∷ ps ≡ [] ∷ [] = last_is (q ∷ ps) last in
              (cut 32 p ∷ [], rw none (ap (λ (w : List ℕ). w ∷ [] ∷ []) (sym (words_text-cut p))), subst Whole same is, subst (λ (v : S). all v ≡ lines s ++ cut 32 p ∷ []) same made)
          choose false last i is made = absurd cc
      go (Ok (false, u)) e g rest =
          let adds = read_is (taken s (cut 32 p)) (false, u) (Goes Fits Whole lines all s (cut 32 p)) e (L.goes s (cut 32 p) fits) in
          let more = rest u adds.0 g in (
            cut 32 p ∷ more.0,
            ap (λ (qs : List (List ℕ)). p ∷ qs) more.1 ∙ ap (λ (w : List ℕ). w ∷ parts_of more.0) (sym (words_text-cut p)),
            more.2,
            more.3 ∙ ap (λ (front : Lines). front ++ more.0) adds.1 ∙ append_assoc (lines s) (cut 32 p ∷ []) more.0,
          )

  pub read_sound : (bytes : List ℕ) (t : S) → followed taken start 1 (cut 10 bytes) ≡ Ok t → Whole t × (bytes ≡ lines_text (all t))
  read_sound bytes t h =
      let r = read_on start t 1 (cut 10 bytes) L.starts h in
      let text : bytes ≡ lines_text r.0 = lines_of_parts bytes r.0 r.1 in
      let made : all t ≡ r.0 = r.3 ∙ ap (λ (front : Lines). front ++ r.0) L.no_lines in
      (r.2, text ∙ ap lines_text (sym made))
