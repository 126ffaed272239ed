-- The rows that words of the lines behind the first ones meet, their first words among them.
use Rattle.std.proofs.Common.{◌≡◌, ℕ, Bool, true, false, cond, List, [], ◌∷◌, length, Option, Some, None, Result, Ok, Err, refl, sym, ap, ◌∙◌, arith}
use Rattle.std.specs.Prelude.{codes, ◌&&◌, ◌||◌, ◌==◌}
use Rattle.std.specs.Str.{bytes_eq}
use Rattle.std.proofs.lemmas.Bool.{eqb-true, ne_eqb}
use Rattle.zeus_model.specs.Faults.{row_met}
use Rattle.zeus_model.specs.Places.{First, must, step_keywords, place}
use Rattle.zeus_model.specs.Tables.{or_else, where_true}
use Rattle.zeus_model.specs.Words.{is_among}
use Rattle.zeus_model.specs.declared.fault.Kind.{Kind}
use Rattle.zeus_model.specs.declared.fault.Kind.TheVariants as kinds
use Rattle.script_lang.specs.declared.keywords.StepWord.{StepWord}
use Rattle.script_lang.specs.declared.keywords.StepWord.TheVariants as steps
use Rattle.script_lang.specs.Drafts.{State, degree_taken, object_taken, tx_taken, run_taken, step_taken, tx_line_taken, object_line_taken, degree_line_taken, more, step_line_taken}
use Rattle.script_lang.specs.Reads.{◌>>=◌, or_fault, ended}
use Rattle.script_lang.specs.Steps.{step_word_of}
use Rattle.script_lang.specs.Live.{opening}
use Rattle.script_lang.proofs.laws.FindLaws.{bytes_eq-true}
use Rattle.script_lang.proofs.faults.FirstWord.{Rows, next, first_fault, Tells, tells_bind, tells_ok, tells_err, row_of, stops, passes}
use Rattle.script_lang.proofs.rows.LineRows.{all_forms, line_rows, Any, said_of, object_told, tx_told, step_told}
use Rattle.script_lang.proofs.rows.RowLaws.{range_told, ended_told}
use Rattle.script_lang.proofs.laws.StepLaws.{step_text, step_word_of-sound}

-- a word among others that is this one
among_is : (words others : List (List ℕ)) (w v : List ℕ) → is_among w words ≡ is_among w others → w ≡ v → is_among v others ≡ true → is_among v words ≡ true
among_is words others w v same is there =
    sym (ap (λ (u : List ℕ). is_among u words) is) ∙ same ∙ ap (λ (u : List ℕ). is_among u others) is ∙ there

-- what the first word of a transaction's line meets
tx_choice : (l a c : Bool) → (a ≡ true → c ≡ false) → or_else (where_true (c || false) kinds.Long) (where_true ((a || false) && l) kinds.Live) ≡ row_of {A = Unit {0}} (cond (l && a) (Err kinds.Live) (cond c (Err kinds.Long) (Ok tt)))
unfolding or_else where_true
tx_choice true true true h = let no = h refl in absurd cc
tx_choice true true false h = refl
tx_choice true false true h = refl
tx_choice true false false h = refl
tx_choice false true true h = refl
tx_choice false true false h = refl
tx_choice false false true h = refl
tx_choice false false false h = refl

tx_apart : (n : ℕ) → (n == 1000) ≡ true → (n == 10000) ≡ false
tx_apart n h = let is : n ≡ 1000 = eqb-true n 1000 h in ne_eqb n 10000 (λ e. omega (arith, is, e))

-- ---- the words of steps

no_step_of : (a b c d e f g : Bool) → cond a (Some steps.Begin) (cond b (Some steps.Try) (cond c (Some steps.Deliver) (cond d (Some steps.Tick) (cond e (Some steps.Stop) (cond f (Some steps.View) (cond g (Some steps.Install) None)))))) ≡ None
    → (a || (b || (c || (d || (e || (f || (g || false))))))) ≡ false
no_step_of true b c d e f g h = absurd cc
no_step_of false true c d e f g h = absurd cc
no_step_of false false true d e f g h = absurd cc
no_step_of false false false true e f g h = absurd cc
no_step_of false false false false true f g h = absurd cc
no_step_of false false false false false true g h = absurd cc
no_step_of false false false false false false true h = absurd cc
no_step_of false false false false false false false h = refl

no_step : (w : List ℕ) → step_word_of w ≡ None → is_among w step_keywords ≡ false
unfolding step_word_of is_among
no_step w h = no_step_of (bytes_eq w (codes "begin")) (bytes_eq w (codes "try")) (bytes_eq w (codes "deliver")) (bytes_eq w (codes "tick")) (bytes_eq w (codes "stop")) (bytes_eq w (codes "view")) (bytes_eq w (codes "install")) h

step_among : (k : StepWord) → is_among (step_text k) (codes "end" ∷ step_keywords) ≡ true
unfolding is_among step_text
step_among steps.Begin = refl
step_among steps.Try = refl
step_among steps.Deliver = refl
step_among steps.Tick = refl
step_among steps.Stop = refl
step_among steps.View = refl
step_among steps.Install = refl

step_row : (k : StepWord) (words : List (List ℕ)) (objects txs before : ℕ) (live : Bool) → is_among (step_text k) words ≡ true
    → row_met (must (First words objects txs before live)) (Some (step_text k)) ≡ or_else (where_true (before == 50000) kinds.Long) (where_true live kinds.Live)
unfolding all_forms step_text
step_row steps.Begin words objects txs before live among = rw among refl
step_row steps.Try words objects txs before live among = rw among refl
step_row steps.Deliver words objects txs before live among = rw among refl
step_row steps.Tick words objects txs before live among = rw among refl
step_row steps.Stop words objects txs before live among = rw among refl
step_row steps.View words objects txs before live among = rw among refl
step_row steps.Install words objects txs before live among = rw among refl

-- if a result tells a fault, then so does the result that goes on to more lines
pub more_told : (T : Option Kind) (r : Result State Kind) → Tells T r Any → Tells T (more r) Any
unfolding more
more_told T (Ok s) h = tells_ok T _ _ tt
more_told T (Err k) h = tells_err T k _ h.holds

-- ---- one more than may stand there

object_choice : (b : Bool) → or_else (where_true (b || false || false) kinds.Long) None ≡ row_of {A = Unit {0}} (cond b (Err kinds.Long) (Ok tt))
unfolding or_else where_true
object_choice true = refl
object_choice false = refl

step_choice : (l b : Bool) → (l ≡ true → b ≡ false) → or_else (where_true b kinds.Long) (where_true l kinds.Live) ≡ row_of {A = Unit {0}} (cond l (Err kinds.Live) (cond b (Err kinds.Long) (Ok tt)))
unfolding or_else where_true
step_choice true true h = let no = h refl in absurd cc
step_choice true false h = refl
step_choice false true h = refl
step_choice false false h = refl

module _ {A : Type 0} (R : Rows) (T : Option Kind) (w : List ℕ) (ws : List (List ℕ)) where
  full_told : (b : Bool) (rest : Result A Kind) → first_fault R (w ∷ ws) ≡ T → R [] (Some w) ≡ row_of {A = Unit {0}} (cond b (Err kinds.Long) (Ok tt)) → (first_fault (next R w) ws ≡ T → Tells T rest Any) → Tells T (cond b (Err kinds.Long) rest) Any
  full_told true rest so row h = tells_err T kinds.Long _ (stops R T w ws so kinds.Long row)
  full_told false rest so row h = h (passes R T w ws so row)

  both_told : (a b : Bool) (rest : Result A Kind) → first_fault R (w ∷ ws) ≡ T → R [] (Some w) ≡ row_of {A = Unit {0}} (cond a (Err kinds.Live) (cond b (Err kinds.Long) (Ok tt))) → (first_fault (next R w) ws ≡ T → Tells T rest Any) → Tells T (cond a (Err kinds.Live) (cond b (Err kinds.Long) rest)) Any
  both_told true b rest so row h = tells_err T kinds.Live _ (stops R T w ws so kinds.Live row)
  both_told false true rest so row h = tells_err T kinds.Long _ (stops R T w ws so kinds.Long row)
  both_told false false rest so row h = h (passes R T w ws so row)

-- ---- the lines

-- the words that may come where there are no objects, or some
abbrev pub object_words : Bool → List (List ℕ)
object_words none = cond none (codes "object" ∷ []) (codes "object" ∷ codes "tx" ∷ codes "run" ∷ [])

object_among : (none : Bool) → is_among (codes "object") (object_words none) ≡ true
unfolding is_among
object_among true = refl
object_among false = refl

-- the words that may come right behind the directory
abbrev degree_words : List (List ℕ)
degree_words = codes "degree" ∷ codes "object" ∷ []

module _ (live : Bool) (words : List (List ℕ)) (s : State) (T : Option Kind) where
  abbrev R : Rows
  R = line_rows (opening live) (said_of words s)

  object_taken_told : (ws : List (List ℕ)) → is_among (codes "object") words ≡ true → first_fault R (codes "object" ∷ ws) ≡ T → Tells T (object_taken s ws) Any
  unfolding object_taken all_forms
  object_taken_told ws among so =
      full_told R T (codes "object") ws (length s.names == 256) _ so (rw among (object_choice (length s.names == 256))) (λ behind.
      tells_bind T _ _ _ (object_told (opening live) words s T ws behind) (λ o p.
      tells_ok T _ _ tt))

  tx_taken_told : (ws : List (List ℕ)) → is_among (codes "tx") words ≡ true → first_fault R (codes "tx" ∷ ws) ≡ T → Tells T (tx_taken live s ws) Any
  unfolding tx_taken all_forms
  tx_taken_told ws among so =
      both_told R T (codes "tx") ws (live && (length s.txs == 1000)) (length s.txs == 10000) _ so (rw among (tx_choice live (length s.txs == 1000) (length s.txs == 10000) (tx_apart (length s.txs)))) (λ behind.
      tells_bind T _ _ _ (tx_told (opening live) words s T ws behind) (λ t p.
      tells_ok T _ _ tt))

  run_taken_told : (ws : List (List ℕ)) → is_among (codes "run") words ≡ true → first_fault R (codes "run" ∷ ws) ≡ T → Tells T (run_taken s ws) Any
  unfolding run_taken all_forms
  run_taken_told ws among so =
      tells_bind T _ _ _ (ended_told (next R (codes "run")) T ws (passes R T (codes "run") ws so (rw among refl)) (λ u. refl)) (λ e p.
      tells_ok T _ _ tt)

  wrong_told : {A : Type 0} (w : List ℕ) (ws : List (List ℕ)) → is_among w words ≡ false → first_fault R (w ∷ ws) ≡ T → Tells {A = A} T (Err kinds.Word) Any
  unfolding all_forms
  wrong_told w ws among so = tells_err T kinds.Word _ (stops R T w ws so kinds.Word (rw among refl))

  module _ (w : List ℕ) (ws : List (List ℕ)) (so : first_fault R (w ∷ ws) ≡ T) where
    at_word : (v : List ℕ) → bytes_eq w v ≡ true → first_fault R (v ∷ ws) ≡ T
    at_word v e = ap (λ (u : List ℕ). first_fault R (u ∷ ws)) (sym (bytes_eq-true w v e)) ∙ so

    there : (others : List (List ℕ)) (v : List ℕ) → is_among w words ≡ is_among w others → bytes_eq w v ≡ true → is_among v others ≡ true → is_among v words ≡ true
    there others v may e h = among_is words others w v may (bytes_eq-true w v e) h

    pub tx_line_told : is_among w words ≡ is_among w (codes "tx" ∷ codes "run" ∷ []) → Tells T (tx_line_taken live s w ws) Any
    unfolding tx_line_taken is_among
    tx_line_told may = go (bytes_eq w (codes "tx")) (bytes_eq w (codes "run")) refl refl
      where
        go : (a b : Bool) → bytes_eq w (codes "tx") ≡ a → bytes_eq w (codes "run") ≡ b → Tells {A = State} T (cond a (tx_taken live s ws) (cond b (run_taken s ws) (Err kinds.Word))) Any
        go true b e f = tx_taken_told ws (there (codes "tx" ∷ codes "run" ∷ []) (codes "tx") may e refl) (at_word (codes "tx") e)
        go false true e f = run_taken_told ws (there (codes "tx" ∷ codes "run" ∷ []) (codes "run") may f refl) (at_word (codes "run") f)
        go false false e f = wrong_told w ws (may ∙ rw (e, f) refl) so

    pub object_line_told : is_among w words ≡ is_among w (object_words (length s.objects == 0)) → Tells T (object_line_taken live s w ws) Any
    unfolding object_line_taken is_among
    object_line_told may = go (bytes_eq w (codes "object")) (length s.objects == 0) refl refl
      where
        go : (a b : Bool) → bytes_eq w (codes "object") ≡ a → (length s.objects == 0) ≡ b → Tells {A = State} T (cond a (object_taken s ws) (cond b (Err kinds.Word) (tx_line_taken live s w ws))) Any
        go true b e f = object_taken_told ws (there (object_words (length s.objects == 0)) (codes "object") may e (object_among (length s.objects == 0))) (at_word (codes "object") e)
        go false true e f = wrong_told w ws (may ∙ rw (f, e) refl) so
        go false false e f = tx_line_told (may ∙ rw (f, e) refl)

    degree_taken_told : is_among (codes "degree") words ≡ true → first_fault R (codes "degree" ∷ ws) ≡ T → Tells T (degree_taken s ws) Any
    unfolding degree_taken all_forms
    degree_taken_told among at =
        tells_bind T _ _ _ (range_told (next R (codes "degree")) T ws (passes R T (codes "degree") ws at (rw among refl)) 1 9 (λ u. refl)) (λ n p.
        tells_bind T _ _ _ (ended_told (next (next R (codes "degree")) p.word) T n.1 p.so (λ u. refl)) (λ e q.
        tells_ok T _ _ tt))

    degree_choice : is_among w words ≡ is_among w degree_words → (length s.objects == 0) ≡ true → (b : Bool) → bytes_eq w (codes "degree") ≡ b → Tells {A = State} T (cond b (degree_taken s ws) (object_line_taken live s w ws)) Any
    unfolding is_among
    degree_choice may none true e = degree_taken_told (there degree_words (codes "degree") may e refl) (at_word (codes "degree") e)
    degree_choice may none false e = object_line_told (may ∙ rw (none, e) refl)

    pub degree_line_told : is_among w words ≡ is_among w degree_words → (length s.objects == 0) ≡ true → Tells T (degree_line_taken live s w ws) Any
    unfolding degree_line_taken
    degree_line_told may none = degree_choice may none (bytes_eq w (codes "degree")) refl

    step_taken_told : (k : StepWord) → is_among (step_text k) words ≡ true → (live ≡ true → (length s.steps == 50000) ≡ false) → first_fault R (step_text k ∷ ws) ≡ T → Tells T (step_taken live s k ws) Any
    unfolding step_taken place
    step_taken_told k among few at =
        both_told R T (step_text k) ws live (length s.steps == 50000) _ at (step_row k words (length s.names) (length s.txs) (length s.steps) live among ∙ step_choice live (length s.steps == 50000) few) (λ behind.
        tells_bind T _ _ _ (step_told (opening live) words s T k ws behind) (λ t p.
        tells_ok T _ _ tt))

    pub step_line_told : is_among w words ≡ is_among w (codes "end" ∷ step_keywords) → (live ≡ true → (length s.steps == 50000) ≡ false) → Tells T (step_line_taken live s w ws) Any
    unfolding step_line_taken all_forms
    step_line_told may few = go (bytes_eq w (codes "end")) (step_word_of w) refl refl
      where
        go : (a : Bool) (o : Option StepWord) → bytes_eq w (codes "end") ≡ a → step_word_of w ≡ o
            → Tells {A = Bool × State} T (cond a (ended ws >>= λ e. Ok (true, s)) (or_fault o kinds.Word >>= λ k. more (step_taken live s k ws))) Any
        go true o e f =
            tells_bind T _ _ _ (ended_told (next R (codes "end")) T ws (passes R T (codes "end") ws (at_word (codes "end") e) (rw (there (codes "end" ∷ step_keywords) (codes "end") may e refl) refl)) (λ u. refl)) (λ x p.
            tells_ok T _ _ tt)
        go false None e f = wrong_told w ws (may ∙ rw (e, no_step w f) refl) so
        go false (Some k) e f =
            let is : w ≡ step_text k = step_word_of-sound w k f in
            more_told T _ (step_taken_told k (among_is words (codes "end" ∷ step_keywords) w (step_text k) may is (step_among k)) few (ap (λ (u : List ℕ). first_fault R (u ∷ ws)) (sym is) ∙ so))
