-- The rows that the words of each line meet, and what reading says of the line.
use Rattle.std.proofs.Common.{◌≡◌, ℕ, zero, suc, ◌^◌, Bool, true, false, cond, List, [], ◌∷◌, ◌++◌, length, replicate, Option, Some, None, Result, Ok, Err, refl, sym, ap, ◌∙◌, subst}
use Rattle.std.specs.Prelude.{codes, ◌||◌, ◌==◌}
use Rattle.std.specs.Str.{bytes_eq}
use Rattle.zeus_model.specs.Faults.{row_met}
use Rattle.zeus_model.specs.Places.{Number, Keyword, must, ends, under, behind, Ends, Form, no_form}
use Rattle.zeus_model.specs.Tables.{or_else, where_true}
use Rattle.zeus_model.specs.Words.{is_among}
use Rattle.zeus_model.specs.declared.fault.Kind.{Kind}
use Rattle.zeus_model.specs.declared.fault.Kind.TheVariants as kinds
use Rattle.script_lang.specs.Numbers.{range_at}
use Rattle.script_lang.specs.Reads.{◌>>=◌, or_fault, keyword_at, ended}
use Rattle.script_lang.proofs.laws.FindLaws.{bytes_eq-true}
use Rattle.script_lang.proofs.faults.FirstWord.{Rows, next, first_fault, first_fault-same, Tells, tells_bind, tells_ok, tells_err, word_first, stops, passes}
use Rattle.script_lang.proofs.rows.LineRows.{Any, keyword_told}
use Rattle.script_lang.proofs.rows.NodeRows.{members_told}
use Rattle.script_lang.proofs.rows.RowLaws.{table, range_told, ended_told}
use Rattle.zeus_lease.specs.declared.draft.Stage.{Stage}
use Rattle.zeus_lease.specs.declared.draft.Stage.TheVariants as stages
use Rattle.zeus_lease.specs.declared.keywords.StepWord.{StepWord}
use Rattle.zeus_lease.specs.declared.keywords.StepWord.TheVariants as words
use Rattle.zeus_lease.specs.Places.{Said, step_keywords, forms, tail_place, form_place, place, one_step_more, row}
use Rattle.zeus_lease.specs.Reading.{State, version_after, number_after, step_word_of, ticks_after, step_at, step_taken, step_line_taken, line_taken}
use Rattle.zeus_lease.proofs.LineFits.{step_text, step_word_of-sound}

-- opens the forms
unfoldable pub all_forms : ℕ
unfolding table place forms under behind tail_place one_step_more is_among
all_forms = 0

or_none : (o : Option Kind) → or_else o None ≡ o
unfolding or_else
or_none None = refl
or_none (Some k) = refl

abbrev pub line_rows : Said → Rows
line_rows d = λ before w. row d before w

-- behind a first word of this form stands what the table of kinds says alone
abbrev rows_of : ℕ → Form → Rows
rows_of nodes f = λ before w. row_met (form_place nodes f before) w

behind_first : (d : Said) (w : List ℕ) (ws : List (List ℕ)) → first_fault (next (line_rows d) w) ws ≡ first_fault (rows_of d.nodes (under no_form w (forms d.nodes))) ws
unfolding place one_step_more
behind_first d w ws = first_fault-same _ _ ws (λ before v. or_none _)

-- ---- the first lines

-- the only word that may begin the line
module _ (d : Said) (T : Option Kind) (keyword : List ℕ) (ws : List (List ℕ)) (so : first_fault (line_rows d) ws ≡ T) (words : d.next ≡ keyword ∷ [])
    (same : bytes_eq keyword keyword ≡ true) (no_step : is_among keyword step_keywords ≡ false) where
  first_told : Tells T (keyword_at keyword ws) (λ x. first_fault (rows_of d.nodes (under no_form keyword (forms d.nodes))) x.1 ≡ T)
  unfolding table place one_step_more is_among
  first_told =
      told (keyword_told (line_rows d) T keyword ws so refl (λ v e. rw (words, e) refl) (rw (words, same, no_step) refl))
    where
      told : Tells T (keyword_at keyword ws) (λ x. first_fault (next (line_rows d) keyword) x.1 ≡ T) → Tells T (keyword_at keyword ws) (λ x. first_fault (rows_of d.nodes (under no_form keyword (forms d.nodes))) x.1 ≡ T)
      told h = go (keyword_at keyword ws) h
        where
          go : (r : Result (Unit {0} × List (List ℕ)) Kind) → Tells T r (λ x. first_fault (next (line_rows d) keyword) x.1 ≡ T) → Tells T r (λ x. first_fault (rows_of d.nodes (under no_form keyword (forms d.nodes))) x.1 ≡ T)
          go (Ok x) g = tells_ok T x _ (sym (behind_first d keyword x.1) ∙ g.holds)
          go (Err k) g = tells_err T k _ g.holds

  -- a line of this word and a number
  number_told : (lowest limit : ℕ) → under no_form keyword (forms d.nodes) ≡ record { wants = Number lowest limit ∷ []; tail = Ends } → Tells T (number_after keyword lowest limit ws) Any
  unfolding number_after behind tail_place
  number_told lowest limit form =
      tells_bind T _ _ _ first_told (λ a p.
      let rows : first_fault (rows_of d.nodes record { wants = Number lowest limit ∷ []; tail = Ends }) a.1 ≡ T = rw form at p in
      tells_bind T _ _ _ (range_told (rows_of d.nodes record { wants = Number lowest limit ∷ []; tail = Ends }) T a.1 rows lowest limit (λ u. refl)) (λ n q.
      tells_bind T _ _ _ (ended_told (next (rows_of d.nodes record { wants = Number lowest limit ∷ []; tail = Ends }) q.word) T n.1 q.so (λ u. refl)) (λ e t.
      tells_ok T _ _ tt)))

version_told : (d : Said) (T : Option Kind) (ws : List (List ℕ)) → first_fault (line_rows d) ws ≡ T → d.next ≡ codes "leases" ∷ [] → Tells T (version_after ws) Any
unfolding version_after all_forms
version_told d T ws so words =
    let R = rows_of d.nodes record { wants = Keyword (codes "1" ∷ []) ∷ []; tail = Ends } in
    tells_bind T _ _ _ (first_told d T (codes "leases") ws so words refl refl) (λ a p.
    tells_bind T _ _ _ (keyword_told R T (codes "1") a.1 p refl (λ v e. rw e refl) refl) (λ b q.
    ended_told (next R (codes "1")) T b.1 q (λ u. refl)))

-- ---- steps

-- so many numbers, and then the end of the line
abbrev tick_rows : ℕ → ℕ → Rows
tick_rows nodes count = λ before w. row_met (behind (replicate count (Number 0 (2 ^ 32))) (tail_place nodes Ends) before) w

ticks_told : (T : Option Kind) (nodes count : ℕ) (before : List ℕ) (ws : List (List ℕ)) → first_fault (tick_rows nodes count) ws ≡ T → Tells T (ticks_after count before ws) (λ x. first_fault (tick_rows nodes 0) x.1 ≡ T)
unfolding ticks_after behind
ticks_told T nodes zero before ws so = tells_ok T _ _ so
ticks_told T nodes (suc count) before ws so =
    tells_bind T _ _ _ (range_told (tick_rows nodes (suc count)) T ws so 0 (2 ^ 32) (λ u. refl)) (λ t p.
    ticks_told T nodes count (before ++ t.0 ∷ []) t.1 p.so)

-- the rows behind the word of a step
abbrev step_rows : ℕ → StepWord → Rows
step_rows nodes k = rows_of nodes (under no_form (step_text k) (forms nodes))

-- one number, and then the end of the line
one_number : (R : Rows) (T : Option Kind) (ws : List (List ℕ)) (limit : ℕ) → first_fault R ws ≡ T → ((w : Option (List ℕ)) → R [] w ≡ row_met (must (Number 0 limit)) w) → ((v : List ℕ) (w : Option (List ℕ)) → R (v ∷ []) w ≡ row_met ends w)
    → {A : Type 0} (f : ℕ → A) → Tells T (range_at 0 limit ws >>= λ n. ended n.1 >>= λ e. Ok (f n.0)) Any
one_number R T ws limit so first last f =
    tells_bind T _ _ _ (range_told R T ws so 0 limit first) (λ n p.
    tells_bind T _ _ _ (ended_told (next R p.word) T n.1 p.so (λ u. last p.word u)) (λ e t.
    tells_ok T _ _ tt))

step_told : (nodes : ℕ) (T : Option Kind) (k : StepWord) (ws : List (List ℕ)) → first_fault (step_rows nodes k) ws ≡ T → Tells T (step_at nodes k ws) Any
unfolding step_at step_text all_forms
step_told nodes T words.Pass ws so =
    tells_bind T _ _ _ (ticks_told T nodes (suc nodes) [] ws so) (λ ts p.
    tells_bind T _ _ _ (ended_told (tick_rows nodes 0) T ts.1 p (λ u. refl)) (λ e t.
    tells_ok T _ _ tt))
step_told nodes T words.Ask ws so = one_number (step_rows nodes words.Ask) T ws nodes so (λ u. refl) (λ v u. refl) _
step_told nodes T words.Hear ws so = one_number (step_rows nodes words.Hear) T ws (2 ^ 32) so (λ u. refl) (λ v u. refl) _
step_told nodes T words.Take ws so = one_number (step_rows nodes words.Take) T ws (2 ^ 32) so (λ u. refl) (λ v u. refl) _
step_told nodes T words.Act ws so = one_number (step_rows nodes words.Act) T ws nodes so (λ u. refl) (λ v u. refl) _
step_told nodes T words.View ws so = tells_bind T _ _ _ (members_told T nodes None [] 0 ws so) (λ ns p. tells_ok T _ _ tt)

-- ---- the first word of a step's line

no_step_of : (a b c d e f : Bool) → cond a (Some words.Pass) (cond b (Some words.Ask) (cond c (Some words.Hear) (cond d (Some words.Take) (cond e (Some words.Act) (cond f (Some words.View) None))))) ≡ None
    → (a || (b || (c || (d || (e || (f || false)))))) ≡ false
no_step_of true b c d e f h = absurd cc
no_step_of false true c d e f h = absurd cc
no_step_of false false true d e f h = absurd cc
no_step_of false false false true e f h = absurd cc
no_step_of false false false false true f h = absurd cc
no_step_of false false false false false true h = absurd cc
no_step_of false false false false false false h = refl

no_step : (w : List ℕ) → step_word_of w ≡ None → is_among w step_keywords ≡ false
unfolding step_word_of is_among
no_step w h = no_step_of (bytes_eq w (codes "pass")) (bytes_eq w (codes "ask")) (bytes_eq w (codes "hear")) (bytes_eq w (codes "take")) (bytes_eq w (codes "act")) (bytes_eq w (codes "view")) h

-- the word of a step is one of the words of steps
pub a_step : (k : StepWord) → is_among (step_text k) step_keywords ≡ true
unfolding is_among step_text
a_step words.Pass = refl
a_step words.Ask = refl
a_step words.Hear = refl
a_step words.Take = refl
a_step words.Act = refl
a_step words.View = refl

end_or : (w : List ℕ) → is_among w (codes "end" ∷ step_keywords) ≡ (bytes_eq w (codes "end") || is_among w step_keywords)
unfolding is_among
end_or w = refl

or_true : (b : Bool) → (b || true) ≡ true
or_true true = refl
or_true false = refl

module _ (d : Said) (T : Option Kind) (words_are : d.next ≡ codes "end" ∷ step_keywords) where
  -- no word that may begin the line
  wrong_row : (w : List ℕ) → bytes_eq w (codes "end") ≡ false → is_among w step_keywords ≡ false → row d [] (Some w) ≡ Some kinds.Word
  unfolding table place one_step_more
  wrong_row w e f = let none : is_among w (codes "end" ∷ step_keywords) ≡ false = rw (end_or w, e, f) refl in rw (words_are, none) refl

  end_row : row d [] (Some (codes "end")) ≡ None
  unfolding all_forms
  end_row = rw words_are refl

  -- the word of a step
  step_row : (k : StepWord) → row d [] (Some (step_text k)) ≡ where_true (d.steps == 50000) kinds.Long
  unfolding table place one_step_more
  step_row k =
      let among : is_among (step_text k) (codes "end" ∷ step_keywords) ≡ true = rw (end_or (step_text k), a_step k) (or_true (bytes_eq (step_text k) (codes "end"))) in
      rw (words_are, among, a_step k) refl

  module _ (s : State) (nodes : d.nodes ≡ s.nodes) (count : d.steps ≡ length s.steps) where
    step_taken_told : (k : StepWord) (ws : List (List ℕ)) → first_fault (line_rows d) (step_text k ∷ ws) ≡ T → Tells T (step_taken s k ws) Any
    unfolding step_taken where_true
    step_taken_told k ws so = go (length s.steps == 50000) (step_row k ∙ rw count refl)
      where
        go : (b : Bool) → row d [] (Some (step_text k)) ≡ where_true b kinds.Long → Tells {A = Bool × State} T (cond b (Err kinds.Long) (step_at s.nodes k ws >>= λ t. Ok (false, record s { steps = s.steps ++ t ∷ [] }))) Any
        go true met = tells_err T kinds.Long _ (stops (line_rows d) T (step_text k) ws so kinds.Long met)
        go false met =
            let behind = sym (behind_first d (step_text k) ws) ∙ passes (line_rows d) T (step_text k) ws so met in
            let rows : first_fault (step_rows s.nodes k) ws ≡ T = subst (λ (n : ℕ). first_fault (step_rows n k) ws ≡ T) nodes behind in
            tells_bind T _ _ _ (step_told s.nodes T k ws rows) (λ t p. tells_ok T _ _ tt)

    end_told : (w : List ℕ) (ws : List (List ℕ)) → first_fault (line_rows d) (w ∷ ws) ≡ T → bytes_eq w (codes "end") ≡ true → Tells {A = Bool × State} T (ended ws >>= λ e. Ok (true, s)) Any
    unfolding all_forms
    end_told w ws so e =
        let is : w ≡ codes "end" = bytes_eq-true w (codes "end") e in
        let behind = sym (behind_first d (codes "end") ws) ∙ passes (line_rows d) T (codes "end") ws (ap (λ (v : List ℕ). first_fault (line_rows d) (v ∷ ws)) (sym is) ∙ so) end_row in
        tells_bind T _ _ _ (ended_told (rows_of d.nodes record { wants = []; tail = Ends }) T ws behind (λ u. refl)) (λ x p. tells_ok T _ _ tt)

    step_line_told : (w : List ℕ) (ws : List (List ℕ)) → first_fault (line_rows d) (w ∷ ws) ≡ T → Tells T (step_line_taken s w ws) Any
    unfolding step_line_taken
    step_line_told w ws so = go (bytes_eq w (codes "end")) (step_word_of w) refl refl
      where
        go : (a : Bool) (o : Option StepWord) → bytes_eq w (codes "end") ≡ a → step_word_of w ≡ o
            → Tells {A = Bool × State} T (cond a (ended ws >>= λ e. Ok (true, s)) (or_fault o kinds.Word >>= λ k. step_taken s k ws)) Any
        go true o e f = end_told w ws so e
        go false None e f = tells_err T kinds.Word _ (stops (line_rows d) T w ws so kinds.Word (wrong_row w e (no_step w f)))
        go false (Some k) e f =
            let is : w ≡ step_text k = step_word_of-sound w k f in
            step_taken_told k ws (ap (λ (u : List ℕ). first_fault (line_rows d) (u ∷ ws)) (sym is) ∙ so)

-- ---- each line

-- the words that may begin the line at a stage
unfoldable pub words_at : Stage → List (List ℕ)
words_at stages.Version = codes "leases" ∷ []
words_at stages.Nodes = codes "nodes" ∷ []
words_at stages.Length = codes "length" ∷ []
words_at stages.Percent = codes "percent" ∷ []
words_at stages.Steps = codes "end" ∷ step_keywords

any_ok : {A B : Type 0} (T : Option Kind) (r : Result A Kind) (f : A → B) → Tells T r Any → Tells T (r >>= λ x. Ok (f x)) Any
any_ok T (Ok x) f h = tells_ok T (f x) _ tt
any_ok T (Err k) f h = tells_err T k _ h.holds

-- if reading a line fails, then its fault is the first row that a word of the line meets
pub line_told : (d : Said) (s : State) (stage : Stage) (ws : List (List ℕ)) → d.next ≡ words_at stage → (stage ≡ stages.Steps → (d.nodes ≡ s.nodes) × (d.steps ≡ length s.steps)) → Tells (first_fault (line_rows d) ws) (line_taken s stage ws) Any
unfolding line_taken words_at all_forms
line_told d s stages.Version ws next counts = any_ok _ _ _ (version_told d _ ws refl next)
line_told d s stages.Nodes ws next counts = any_ok _ _ _ (number_told d _ (codes "nodes") ws refl next refl refl 1 9 refl)
line_told d s stages.Length ws next counts = any_ok _ _ _ (number_told d _ (codes "length") ws refl next refl refl 1 (2 ^ 32) refl)
line_told d s stages.Percent ws next counts = any_ok _ _ _ (number_told d _ (codes "percent") ws refl next refl refl 0 101 refl)
line_told d s stages.Steps ws next counts =
    let both = counts refl in
    tells_bind _ _ _ _ (word_first (line_rows d) _ ws refl refl) (λ w p. step_line_told d _ next s both.0 both.1 w.0 w.1 p)
