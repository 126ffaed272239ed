-- The lines before a fault are those of a script's text.
use Rattle.std.proofs.Common.{◌≡◌, ℕ, suc, ◌+◌, ◌≤◌, Bool, true, false, cond, List, [], ◌∷◌, ◌++◌, length, Result, Ok, Err, refl, sym, ap, ◌∙◌, arith, append_assoc, subst, inl, inr}
use Rattle.std.specs.Prelude.{codes, map, ◌⊎◌}
use Rattle.zeus_model.specs.Faults.{IsOfWord}
use Rattle.zeus_model.specs.declared.fault.Kind.{Kind}
use Rattle.zeus_model.specs.declared.fault.Kind.TheVariants as kinds
use Rattle.zeus_model.specs.declared.fault.ScriptFault.{ScriptFault}
use Rattle.zeus_model.specs.Spelling.{words_text, lines_text, script_lines, spelling}
use Rattle.zeus_model.specs.FirstFault.{IsOpenedScript, BeginsScript, IsFirstFault}
use Rattle.script_lang.specs.declared.stage.Stage.{Stage}
use Rattle.script_lang.specs.declared.stage.Stage.TheVariants as stages
use Rattle.script_lang.specs.Cut.{cut}
use Rattle.script_lang.specs.Drafts.{State, line_taken}
use Rattle.script_lang.specs.Reading.{start, fault_at, is_last, unended, line_done, lines_taken, script_of}
use Rattle.script_lang.specs.Live.{FitsLive}
use Rattle.script_lang.proofs.BodySound.{Goes, line_taken-sound}
use Rattle.script_lang.proofs.Completing.{completes}
use Rattle.script_lang.proofs.Cutting.{cut_not_none}
use Rattle.script_lang.proofs.DraftFits.{Fits, lines_at, Adds}
use Rattle.script_lang.proofs.faults.FaultShared.{failed, at_line, none_begins}
use Rattle.script_lang.proofs.faults.FirstLines.{shown, shown-front, first_lines-shown, first_lines-fewer}
use Rattle.script_lang.proofs.LineSteps.{line_ended}
use Rattle.script_lang.proofs.ReadComplete.{text_taken}
use Rattle.script_lang.proofs.ReadSound.{start_fits, script_fits, script_live, steps_fit, script_lines-lines, no_lines}
use Rattle.script_lang.proofs.Sound.{read_is}
use Rattle.script_lang.proofs.laws.TextLaws.{words_text-cut, ended_lines}
use Rattle.script_lang.proofs.faults.WordKinds.{BlamesWord, line_blames}

abbrev failure : Kind → Result (Bool × State) Kind
failure k = Err k

-- the kind of a fault in a part that others follow or not
abbrev pub KindAt : List ℕ → List (List ℕ) → Kind → Type 0
KindAt last [] k = k ≡ unended last
KindAt last (q ∷ ps) k = IsOfWord k

-- the fault lies in a line that is wanted behind those before it
pub record Wanted (live : Bool) (s : State) (n : ℕ) (parts : List (List ℕ)) (f : ScriptFault) : Type 0 where
  pub front : List (List ℕ)
  pub last : List ℕ
  pub others : List (List ℕ)
  pub at : length front + n ≡ f.line
  pub cut_so : parts ≡ front ++ last ∷ others
  pub alone : lines_taken live s n (front ++ [] ∷ []) ≡ Err (fault_at f.line kinds.Missing)
  pub kind : KindAt last others f.kind

-- the lines before the fault, with which a whole script begins or ends
pub record Before (live : Bool) (s : State) (n : ℕ) (parts : List (List ℕ)) (f : ScriptFault) : Type 0 where
  pub ls : List (List (List ℕ))
  pub rest : List (List (List ℕ))
  pub whole : State
  pub at : length ls + n ≡ f.line
  pub texts : shown (length ls) parts ≡ lines_text ls
  pub fits : Fits live stages.Steps whole
  pub lines : lines_at stages.Steps whole ++ (codes "end" ∷ []) ∷ [] ≡ lines_at s.stage s ++ (ls ++ rest)
  pub place : ((rest ≡ []) × (f.kind ≡ kinds.Extra)) ⊎ Wanted live s n parts f

-- if a fault at a line is this fault, then it is of the same kind
pub kind_there : (n : ℕ) (k : Kind) (f : ScriptFault) → failed (fault_at n k) ≡ failed f → k ≡ f.kind
kind_there n k f e = let same : fault_at n k ≡ f = cc in ap (λ (g : ScriptFault). g.kind) same

-- the line where reading begins
wanted_here : (live : Bool) (s : State) (n : ℕ) (p : List ℕ) (ps : List (List ℕ)) (f : ScriptFault) → n ≡ f.line → KindAt p ps f.kind → Wanted live s n (p ∷ ps) f
unfolding lines_taken unended
wanted_here live s n p ps f at kind = record {
  front = [];
  last = p;
  others = ps;
  at = omega (arith, at);
  cut_so = refl;
  alone = rw at refl;
  kind = kind;
}

some_more : (front : List (List ℕ)) → front ++ [] ∷ [] ≡ [] → ⊥
some_more [] e = cc
some_more (p ∷ front) e = cc

wanted_more : (live : Bool) (s u : State) (n : ℕ) (p : List ℕ) (ps : List (List ℕ)) (f : ScriptFault) → line_taken live s s.stage (cut 32 p) ≡ Ok (false, u) → Wanted live u (suc n) ps f → Wanted live s n (p ∷ ps) f
unfolding line_done
wanted_more live s u n p ps f taken w = record {
  front = p ∷ w.front;
  last = w.last;
  others = w.others;
  at = omega (arith, w.at);
  cut_so = ap (λ (qs : List (List ℕ)). p ∷ qs) w.cut_so;
  alone = line_ended live s n p (w.front ++ [] ∷ []) (some_more w.front) ∙ rw taken w.alone;
  kind = w.kind;
}

before_none : (live : Bool) (s : State) (n : ℕ) (parts : List (List ℕ)) (f : ScriptFault) → Fits live s.stage s → n ≡ f.line → Wanted live s n parts f → Before live s n parts f
unfolding shown lines_text
before_none live s n parts f fits at w =
    let done = completes live s.stage s refl fits in
    record { ls = []; rest = done.ls; whole = done.whole; at = omega (arith, at); texts = refl; fits = done.fits; lines = done.lines; place = inr w }

text_front : (p xs : List ℕ) → p ++ 10 ∷ xs ≡ words_text (cut 32 p) ++ 10 ∷ [] ++ xs
text_front p xs = rw words_text-cut (sym (append_assoc p (10 ∷ []) xs))

place_more : (live : Bool) (s u : State) (n : ℕ) (p : List ℕ) (ps : List (List ℕ)) (f : ScriptFault) {A : Type 0} → line_taken live s s.stage (cut 32 p) ≡ Ok (false, u) → A ⊎ Wanted live u (suc n) ps f → A ⊎ Wanted live s n (p ∷ ps) f
place_more live s u n p ps f taken (inl a) = inl a
place_more live s u n p ps f taken (inr w) = inr (wanted_more live s u n p ps f taken w)

before_more : (live : Bool) (s u : State) (n : ℕ) (p q : List ℕ) (ps : List (List ℕ)) (f : ScriptFault) → line_taken live s s.stage (cut 32 p) ≡ Ok (false, u) → Adds live s.stage s (cut 32 p) u → Before live u (suc n) (q ∷ ps) f → Before live s n (p ∷ q ∷ ps) f
unfolding shown lines_text
before_more live s u n p q ps f taken adds before = record {
  ls = cut 32 p ∷ before.ls;
  rest = before.rest;
  whole = before.whole;
  at = omega (arith, before.at);
  texts = ap (λ (xs : List ℕ). p ++ 10 ∷ xs) before.texts ∙ text_front p (lines_text before.ls);
  fits = before.fits;
  lines = before.lines ∙ ap (λ (front : List (List (List ℕ))). front ++ (before.ls ++ before.rest)) adds.lines ∙ append_assoc (lines_at s.stage s) (cut 32 p ∷ []) (before.ls ++ before.rest);
  place = place_more live s u n p (q ∷ ps) f taken before.place;
}

before_extra : (live : Bool) (s : State) (n : ℕ) (p q : List ℕ) (ps : List (List ℕ)) (f : ScriptFault) → Fits live s.stage s → s.stage ≡ stages.Steps → cut 32 p ≡ (codes "end") ∷ [] → failed (fault_at (suc n) kinds.Extra) ≡ failed f
    → Before live s n (p ∷ q ∷ ps) f
unfolding shown lines_text
before_extra live s n p q ps f fits is words there = record {
  ls = cut 32 p ∷ [];
  rest = [];
  whole = s;
  at = omega (arith, at_line (suc n) kinds.Extra f there);
  texts = text_front p [];
  fits = subst (λ (k : Stage). Fits live k s) is fits;
  lines = rw words (ap (λ (k : Stage). lines_at k s ++ (codes "end" ∷ []) ∷ []) (sym is));
  place = inl (refl, sym (kind_there (suc n) kinds.Extra f there));
}

-- the kind of a line that was not taken
blamed : (live : Bool) (s : State) (stage : Stage) (ws : List (List ℕ)) (k l : Kind) → line_taken live s stage ws ≡ Err k → k ≡ l → IsOfWord l
blamed live s stage ws k l e is =
    let blames : BlamesWord (failure k) = subst BlamesWord e (line_blames live s stage ws) in
    subst IsOfWord is blames.holds

-- if reading lines fails, then the lines before the fault are those with which a whole script begins or ends
pub before_fault : (live : Bool) (s : State) (n : ℕ) (parts : List (List ℕ)) (f : ScriptFault) → (parts ≡ [] → ⊥) → Fits live s.stage s → lines_taken live s n parts ≡ Err f → Before live s n parts f
unfolding lines_taken line_done
before_fault live s n [] f some fits h = absurd (some refl)
before_fault live s n (p ∷ []) f some fits h =
    let at = at_line n (unended p) f h in
    before_none live s n (p ∷ []) f fits at (wanted_here live s n p [] f at (sym (kind_there n (unended p) f h)))
before_fault live s n (p ∷ q ∷ ps) f some fits h =
    go (line_taken live s s.stage (cut 32 p)) refl h (λ u after g. before_fault live u (suc n) (q ∷ ps) f (λ e. cc) after g)
  where
    go : (r : Result (Bool × State) Kind) → line_taken live s s.stage (cut 32 p) ≡ r → line_done r n (q ∷ ps) (λ u. lines_taken live u (suc n) (q ∷ ps)) ≡ Err f
        → ((u : State) → Fits live u.stage u → lines_taken live u (suc n) (q ∷ ps) ≡ Err f → Before live u (suc n) (q ∷ ps) f) → Before live s n (p ∷ q ∷ ps) f
    go (Err k) e g rest =
        let at = at_line n k f g in
        before_none live s n (p ∷ q ∷ ps) f fits at (wanted_here live s n p (q ∷ ps) f at (blamed live s s.stage (cut 32 p) k f.kind e (kind_there n k f g)))
    go (Ok (true, u)) e g rest =
        let goes = read_is (line_taken live s s.stage (cut 32 p)) (true, u) (Goes live s.stage s (cut 32 p)) e (line_taken-sound live s.stage s (cut 32 p) refl fits) in
        let there = choose (is_last (q ∷ ps)) g in
        before_extra live s n p q ps f fits goes.1 goes.2 there
      where
        choose : (b : Bool) → cond b (Ok u) (Err (fault_at (suc n) kinds.Extra)) ≡ Err f → failed (fault_at (suc n) kinds.Extra) ≡ failed f
        choose true i = absurd cc
        choose false i = i
    go (Ok (false, u)) e g rest =
        let adds = read_is (line_taken live s s.stage (cut 32 p)) (false, u) (Goes live s.stage s (cut 32 p)) e (line_taken-sound live s.stage s (cut 32 p) refl fits) in
        before_more live s u n p q ps f e adds (rest u adds.fits g)

-- ---- the script that goes on so

shown-lines : (ls rest : List (List (List ℕ))) → shown (length ls) (map words_text (ls ++ rest) ++ [] ∷ []) ≡ lines_text ls
unfolding shown lines_text
shown-lines [] rest = refl
shown-lines (l ∷ ls) rest =
    shown-front (length ls) (words_text l) (map words_text (ls ++ rest) ++ [] ∷ []) (ended_lines (ls ++ rest)) ∙ rw (shown-lines ls rest) (sym (append_assoc (words_text l) (10 ∷ []) (lines_text ls)))

before_begins : (live : Bool) (bytes : List ℕ) (f : ScriptFault) (before : Before live start 1 (cut 10 bytes) f) → BeginsScript (FitsLive live) bytes (length before.ls)
before_begins live bytes f before =
    let s = script_of before.whole in
    let opened : IsOpenedScript (FitsLive live) s = record { fits = script_fits live before.whole before.fits; few_steps = steps_fit live before.whole before.fits; opened = script_live live before.whole before.fits } in
    let lines : script_lines s ≡ before.ls ++ before.rest = script_lines-lines before.whole ∙ before.lines ∙ ap (λ (front : List (List (List ℕ))). front ++ (before.ls ++ before.rest)) no_lines in
    let parts : cut 10 (spelling s) ≡ map words_text (before.ls ++ before.rest) ++ [] ∷ [] = (text_taken live s opened).parts ∙ ap (λ (ls : List (List (List ℕ))). map words_text ls ++ [] ∷ []) lines in
    let n = length before.ls in
    record {
      script = s;
      opened = opened;
      same = first_lines-shown n (spelling s) ∙ ap (shown n) parts ∙ shown-lines before.ls before.rest ∙ sym before.texts ∙ sym (first_lines-shown n bytes);
    }

fewer_begin : (live : Bool) (bytes : List ℕ) (k n : ℕ) → k ≤ n → BeginsScript (FitsLive live) bytes n → BeginsScript (FitsLive live) bytes k
fewer_begin live bytes k n le begins = record { script = begins.script; opened = begins.opened; same = first_lines-fewer k n (spelling begins.script) bytes le begins.same }

-- a fault of a line is the first one
pub first_fault : (live : Bool) (bytes : List ℕ) (f : ScriptFault) → lines_taken live start 1 (cut 10 bytes) ≡ Err f → IsFirstFault (FitsLive live) bytes f.line
first_fault live bytes f h =
    let before = before_fault live start 1 (cut 10 bytes) f (cut_not_none 10 bytes) (start_fits live) h in
    record {
      before = λ k lt. fewer_begin live bytes k (length before.ls) (omega (arith, before.at)) (before_begins live bytes f before);
      faulty = none_begins live bytes f h;
    }
