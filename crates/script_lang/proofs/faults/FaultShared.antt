-- A fault is that of all bytes that share the lines up to it, and so no script's text has these lines.
use Rattle.std.proofs.Common.{◌≡◌, ℕ, zero, suc, ◌+◌, ◌<◌, ◌≤◌, Bool, true, false, cond, List, [], ◌∷◌, ◌++◌, Result, Ok, Err, refl, sym, ap, ◌∙◌, arith}
use Rattle.std.specs.List.{AllByRecursion}
use Rattle.zeus_model.specs.declared.fault.Kind.{Kind}
use Rattle.zeus_model.specs.declared.fault.Kind.TheVariants as kinds
use Rattle.zeus_model.specs.declared.fault.ScriptFault.{ScriptFault}
use Rattle.zeus_model.specs.Spelling.{spelling}
use Rattle.zeus_model.specs.FirstFault.{BeginsScript}
use Rattle.script_lang.specs.Cut.{cut}
use Rattle.script_lang.specs.Drafts.{State, line_taken}
use Rattle.script_lang.specs.Reading.{start, fault_at, is_last, unended, line_done, lines_taken}
use Rattle.script_lang.specs.Live.{FitsLive}
use Rattle.script_lang.proofs.Cutting.{Lacks}
use Rattle.script_lang.proofs.faults.FirstLines.{shown, first_lines-shown, parts_lack}
use Rattle.script_lang.proofs.ReadComplete.{text_taken}

-- ---- lines that are shown alike

-- bytes that lack byte 10 are no bytes with a byte 10 in them
pub not_ended : (p q rest : List ℕ) → Lacks 10 p → p ≡ q ++ 10 ∷ rest → ⊥
unfolding Lacks
not_ended [] [] rest h e = cc
not_ended [] (c ∷ q) rest h e = cc
not_ended (b ∷ p) [] rest h e = let first : b ≡ 10 = cc in h.0 first
not_ended (b ∷ p) (c ∷ q) rest h e = let others : p ≡ q ++ 10 ∷ rest = cc in not_ended p q rest h.1 others

-- if two texts are equal and their first lines lack byte 10, then the first lines are equal and so is the rest
pub same_line : (p q xs ys : List ℕ) → Lacks 10 p → Lacks 10 q → p ++ 10 ∷ xs ≡ q ++ 10 ∷ ys → (p ≡ q) × (xs ≡ ys)
unfolding Lacks
same_line [] [] xs ys h g e = (refl, cc)
same_line [] (c ∷ q) xs ys h g e = let first : c ≡ 10 = cc in absurd (g.0 first)
same_line (b ∷ p) [] xs ys h g e = let first : b ≡ 10 = cc in absurd (h.0 first)
same_line (b ∷ p) (c ∷ q) xs ys h g e =
    let others : p ++ 10 ∷ xs ≡ q ++ 10 ∷ ys = cc in
    let rest = same_line p q xs ys h.1 g.1 others in
    let first : b ≡ c = cc in
    let same : p ≡ q = rest.0 in
    (cc, rest.1)

-- whether a list of bytes is empty
pub is_none : List ℕ → Bool
is_none [] = true
is_none (b ∷ bs) = false

-- a part is the last one just if nothing is shown of the parts behind it
pub is_last-shown : (n : ℕ) (q : List ℕ) (ps : List (List ℕ)) → is_last (q ∷ ps) ≡ is_none (shown (suc n) (q ∷ ps))
unfolding is_last is_none shown
is_last-shown n [] [] = refl
is_last-shown n (b ∷ q) [] = refl
is_last-shown n [] (p ∷ ps) = refl
is_last-shown n (b ∷ q) (p ∷ ps) = refl

-- ---- no fault lies before the line where reading begins

abbrev pub failed : ScriptFault → Result State ScriptFault
failed f = Err f

-- if a fault at a line is this fault, then it is in the same line
pub at_line : (n : ℕ) (k : Kind) (f : ScriptFault) → failed (fault_at n k) ≡ failed f → n ≡ f.line
at_line n k f e = let same : fault_at n k ≡ f = cc in ap (λ (g : ScriptFault). g.line) same

-- a fault of lines that are read from a number on is in none of the lines before
pub from_line : (live : Bool) (s : State) (m : ℕ) (ps : List (List ℕ)) (f : ScriptFault) → lines_taken live s m ps ≡ Err f → m ≤ f.line
unfolding lines_taken line_done
from_line live s m [] f h = omega (arith, at_line m kinds.Missing f h)
from_line live s m (p ∷ []) f h = omega (arith, at_line m (unended p) f h)
from_line live s m (p ∷ q ∷ ps) f h =
    go (line_taken live s s.stage (cut 32 p)) h (λ u g. from_line live u (suc m) (q ∷ ps) f g)
  where
    go : (r : Result (Bool × State) Kind) → line_done r m (q ∷ ps) (λ u. lines_taken live u (suc m) (q ∷ ps)) ≡ Err f
        → ((u : State) → lines_taken live u (suc m) (q ∷ ps) ≡ Err f → suc m ≤ f.line) → m ≤ f.line
    go (Err k) e rest = omega (arith, at_line m k f e)
    go (Ok (true, u)) e rest = choose (is_last (q ∷ ps)) e
      where
        choose : (b : Bool) → cond b (Ok u) (Err (fault_at (suc m) kinds.Extra)) ≡ Err f → m ≤ f.line
        choose true g = absurd cc
        choose false g = omega (arith, at_line (suc m) kinds.Extra f g)
    go (Ok (false, u)) e rest = let later = rest u e in omega arith

-- ---- the same fault

-- the lines behind the last one are the same
extra_shared : (m n : ℕ) (q t : List ℕ) (ps rs : List (List ℕ)) (u : State) (f : ScriptFault) → shown n (q ∷ ps) ≡ shown n (t ∷ rs) → f.line < m + suc n
    → cond (is_last (q ∷ ps)) (Ok u) (Err (fault_at (suc m) kinds.Extra)) ≡ Err f → cond (is_last (t ∷ rs)) (Ok u) (Err (fault_at (suc m) kinds.Extra)) ≡ Err f
extra_shared m zero q t ps rs u f same lt h = choose (is_last (q ∷ ps)) h
  where
    choose : (b : Bool) → cond b (Ok u) (Err (fault_at (suc m) kinds.Extra)) ≡ Err f → cond (is_last (t ∷ rs)) (Ok u) (Err (fault_at (suc m) kinds.Extra)) ≡ Err f
    choose true g = absurd cc
    choose false g = let at = at_line (suc m) kinds.Extra f g in absurd (omega arith)
extra_shared m (suc n) q t ps rs u f same lt h =
    let alike : is_last (q ∷ ps) ≡ is_last (t ∷ rs) = is_last-shown n q ps ∙ ap is_none same ∙ sym (is_last-shown n t rs) in
    rw alike at h

-- parts without line ends, whose first lines are the same
record AreAlike (n : ℕ) (ps rs : List (List ℕ)) : Type 0 where
  lack : AllByRecursion (Lacks 10) ps
  free : AllByRecursion (Lacks 10) rs
  same : shown n ps ≡ shown n rs

same_fault : (live : Bool) (s : State) (m n : ℕ) (ps rs : List (List ℕ)) → AreAlike n ps rs → (f : ScriptFault) → f.line < m + n → lines_taken live s m ps ≡ Err f → lines_taken live s m rs ≡ Err f
unfolding lines_taken line_done shown unended Lacks
same_fault live s m zero ps rs a f lt h = let low = from_line live s m ps f h in absurd (omega arith)
same_fault live s m (suc n) [] [] a f lt h = h
same_fault live s m (suc n) [] (r ∷ []) a f lt h = rw (← a.same) h
same_fault live s m (suc n) [] (r ∷ t ∷ rs) a f lt h = absurd (not_ended [] r (shown n (t ∷ rs)) tt a.same)
same_fault live s m (suc n) (p ∷ []) [] a f lt h = rw a.same at h
same_fault live s m (suc n) (p ∷ []) (r ∷ []) a f lt h = rw a.same at h
same_fault live s m (suc n) (p ∷ []) (r ∷ t ∷ rs) a f lt h = absurd (not_ended p r (shown n (t ∷ rs)) a.lack.0 a.same)
same_fault live s m (suc n) (p ∷ q ∷ ps) [] a f lt h = absurd (not_ended [] p (shown n (q ∷ ps)) tt (sym a.same))
same_fault live s m (suc n) (p ∷ q ∷ ps) (r ∷ []) a f lt h = absurd (not_ended r p (shown n (q ∷ ps)) a.free.0 (sym a.same))
same_fault live s m (suc n) (p ∷ q ∷ ps) (r ∷ t ∷ rs) a f lt h =
    let both = same_line p r (shown n (q ∷ ps)) (shown n (t ∷ rs)) a.lack.0 a.free.0 a.same in
    rw (← both.0) (go both.1 (line_taken live s s.stage (cut 32 p)) h (λ u lesser g. same_fault live u (suc m) n (q ∷ ps) (t ∷ rs) (record { lack = a.lack.1; free = a.free.1; same = both.1 }) f lesser g))
  where
    go : shown n (q ∷ ps) ≡ shown n (t ∷ rs) → (r' : Result (Bool × State) Kind) → line_done r' m (q ∷ ps) (λ u. lines_taken live u (suc m) (q ∷ ps)) ≡ Err f
        → ((u : State) → f.line < suc m + n → lines_taken live u (suc m) (q ∷ ps) ≡ Err f → lines_taken live u (suc m) (t ∷ rs) ≡ Err f)
        → line_done r' m (t ∷ rs) (λ u. lines_taken live u (suc m) (t ∷ rs)) ≡ Err f
    go alike (Err k) e rest = e
    go alike (Ok (true, u)) e rest = extra_shared m n q t ps rs u f alike lt e
    go alike (Ok (false, u)) e rest = rest u (omega arith) e

-- the lines up to a fault are those of no script's text
pub none_begins : (live : Bool) (bytes : List ℕ) (f : ScriptFault) → lines_taken live start 1 (cut 10 bytes) ≡ Err f → BeginsScript (FitsLive live) bytes f.line → ⊥
none_begins live bytes f h begins =
    let text = text_taken live begins.script begins.opened in
    let same : shown f.line (cut 10 bytes) ≡ shown f.line (cut 10 (spelling begins.script)) = sym (first_lines-shown f.line bytes) ∙ sym begins.same ∙ first_lines-shown f.line (spelling begins.script) in
    let fails = same_fault live start 1 f.line (cut 10 bytes) (cut 10 (spelling begins.script))
    (record { lack = parts_lack 10 bytes; free = parts_lack 10 (spelling begins.script); same = same }) f (omega arith) h in
    let taken = text.taken in
    cc
