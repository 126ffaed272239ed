-- Which words may begin a line, by the first word of the line before it.
use Rattle.std.proofs.Common.{◌≡◌, ℕ, Bool, true, false, List, [], ◌∷◌, ◌++◌, length, Some, None, Result, Ok, Err, refl, sym, ap, ◌∙◌, arith, length-append}
use Rattle.std.specs.Prelude.{codes, ◌&&◌, ◌==◌}
use Rattle.std.specs.Str.{bytes_eq}
use Rattle.std.proofs.lemmas.Bool.{ne_eqb}
use Rattle.zeus_model.specs.Places.{first_word, last_line, step_keywords, under, order}
use Rattle.zeus_model.specs.Tables.{nth}
use Rattle.zeus_model.specs.declared.fault.Kind.{Kind}
use Rattle.script_lang.specs.declared.keywords.StepWord.{StepWord}
use Rattle.script_lang.specs.declared.keywords.StepWord.TheVariants as steps
use Rattle.script_lang.specs.declared.stage.Stage.{Stage}
use Rattle.script_lang.specs.declared.stage.Stage.TheVariants as stages
use Rattle.script_lang.specs.Drafts.{State, version_of, version_taken, nodes_taken, slots_taken, some_nodes, directory_taken, degree_taken, object_taken, tx_taken, run_taken, step_taken, tx_line_taken, object_line_taken, degree_line_taken, more, step_line_taken, body_taken, line_taken}
use Rattle.script_lang.specs.NodeLists.{nodes_after}
use Rattle.script_lang.specs.Numbers.{range_at}
use Rattle.script_lang.specs.Objects.{object_at}
use Rattle.script_lang.specs.Reads.{◌>>=◌, word_at, ended}
use Rattle.script_lang.specs.Steps.{step_at}
use Rattle.script_lang.specs.Transactions.{tx_at}
use Rattle.script_lang.specs.Live.{opening}
use Rattle.script_lang.proofs.rows.BodyRows.{object_words}
use Rattle.script_lang.proofs.DraftFits.{BodyFits, Fits}
use Rattle.script_lang.proofs.DraftSound.{keyword_at-sound, word_at-sound}
use Rattle.script_lang.proofs.laws.FindLaws.{bytes_eq-true}
use Rattle.script_lang.proofs.Sound.{IfRead, read_bind, read_ok, read_err, read_cond, read_or}
use Rattle.script_lang.proofs.laws.StepLaws.{step_text, step_word_of-sound}

-- the words that may begin the next line
unfoldable pub words_at : Stage → State → List (List ℕ)
words_at stages.Version s = codes "zeus" ∷ []
words_at stages.Nodes s = codes "nodes" ∷ []
words_at stages.Slots s = codes "slots" ∷ []
words_at stages.Directory s = codes "directory" ∷ []
words_at stages.Degree s = codes "degree" ∷ codes "object" ∷ []
words_at stages.Objects s = object_words (length s.objects == 0)
words_at stages.Txs s = codes "tx" ∷ codes "run" ∷ []
words_at stages.Steps s = codes "end" ∷ step_keywords

-- the words that may stand behind a line that begins so
abbrev pub words_behind : Bool → List ℕ → List (List ℕ)
words_behind live w = under (codes "end" ∷ step_keywords) w (order (opening live))

-- the last line of lines with one more at the end is that one
pub last_line-more : (ls : List (List (List ℕ))) (l : List (List ℕ)) → last_line (ls ++ l ∷ []) ≡ l
unfolding last_line
last_line-more [] l = refl
last_line-more (k ∷ []) l = refl
last_line-more (k ∷ m ∷ ls) l = last_line-more (m ∷ ls) l

any_read : {A : Type 0} (r : Result A Kind) → IfRead r (λ _. Unit {0})
any_read (Ok x) = read_ok _ _ tt
any_read (Err k) = read_err _ _

-- the state behind a line that begins so wants the words that may follow
abbrev Follows : Bool → List ℕ → State → Type 0
Follows live w t = words_behind live w ≡ words_at t.stage t

one_at_least : {A : Type 0} (xs : List A) (x : A) → (length (xs ++ x ∷ []) == 0) ≡ false
one_at_least xs x = ne_eqb (length (xs ++ x ∷ [])) 0 (λ e. let more = length-append xs (x ∷ []) in absurd (omega (arith, more, e)))

step_behind : (live : Bool) (k : StepWord) → words_behind live (step_text k) ≡ codes "end" ∷ step_keywords
unfolding under order step_text
step_behind live steps.Begin = refl
step_behind live steps.Try = refl
step_behind live steps.Deliver = refl
step_behind live steps.Tick = refl
step_behind live steps.Stop = refl
step_behind live steps.View = refl
step_behind live steps.Install = refl

module _ (live : Bool) (s : State) where
  version_follows : (ws : List (List ℕ)) → IfRead (version_taken s ws) (Follows live (first_word ws))
  unfolding version_taken under order words_at nth
  version_follows ws = read_bind _ _ _ (keyword_at-sound (codes "zeus") ws) (λ a p. read_bind _ _ _ (any_read (word_at a.1)) (λ w q. read_bind _ _ _ (any_read (version_of w.0)) (λ v r. read_bind _ _ _ (any_read (ended w.1)) (λ e t. read_ok _ _ (rw p refl)))))

  nodes_follow : (ws : List (List ℕ)) → IfRead (nodes_taken s ws) (Follows live (first_word ws))
  unfolding nodes_taken under order words_at nth
  nodes_follow ws = read_bind _ _ _ (keyword_at-sound (codes "nodes") ws) (λ a p. read_bind _ _ _ (any_read (range_at 1 9 a.1)) (λ n q. read_bind _ _ _ (any_read (ended n.1)) (λ e t. read_ok _ _ (rw p refl))))

  slots_follow : (ws : List (List ℕ)) → IfRead (slots_taken s ws) (Follows live (first_word ws))
  unfolding slots_taken under order words_at nth
  slots_follow ws = read_bind _ _ _ (keyword_at-sound (codes "slots") ws) (λ a p. read_bind _ _ _ (any_read (range_at 1 9 a.1)) (λ n q. read_bind _ _ _ (any_read (ended n.1)) (λ e t. read_ok _ _ (rw p refl))))

  directory_follows : (ws : List (List ℕ)) → IfRead (directory_taken s ws) (Follows live (first_word ws))
  unfolding directory_taken under order words_at nth
  directory_follows ws = read_bind _ _ _ (keyword_at-sound (codes "directory") ws) (λ a p. read_bind _ _ _ (any_read (nodes_after s.head.nodes (Some s.head.nodes) None [] 0 a.1)) (λ n q. read_bind _ _ _ (any_read (some_nodes n)) (λ e t. read_ok _ _ (rw p refl))))

  degree_follows : (w : List ℕ) (ws : List (List ℕ)) → bytes_eq w (codes "degree") ≡ true → s.objects ≡ [] → IfRead (degree_taken s ws) (Follows live w)
  unfolding degree_taken under order words_at
  degree_follows w ws e none =
      let zero : (length s.objects == 0) ≡ true = rw none refl in
      read_bind _ _ _ (any_read (range_at 1 9 ws)) (λ n q. read_bind _ _ _ (any_read (ended n.1)) (λ x t. read_ok _ _ (rw (bytes_eq-true w (codes "degree") e, zero) refl)))

  object_follows : (w : List ℕ) (ws : List (List ℕ)) → bytes_eq w (codes "object") ≡ true → IfRead (object_taken s ws) (Follows live w)
  unfolding object_taken under order words_at
  object_follows w ws e =
      read_cond (length s.names == 256) _ _ _ (λ t. read_err _ _) (λ f. read_bind _ _ _ (any_read (object_at s.head.version s.head.nodes s.names ws)) (λ o p. read_ok _ _ (rw (bytes_eq-true w (codes "object") e, one_at_least s.objects o.1) refl)))

  tx_line_follows : (w : List ℕ) (ws : List (List ℕ)) → IfRead (tx_line_taken live s w ws) (Follows live w)
  unfolding tx_line_taken tx_taken run_taken under order words_at
  tx_line_follows w ws =
      read_cond (bytes_eq w (codes "tx")) _ _ _
      (λ e. read_cond (live && (length s.txs == 1000)) _ _ _ (λ t. read_err _ _) (λ f. read_cond (length s.txs == 10000) _ _ _ (λ t. read_err _ _)
      (λ g. read_bind _ _ _ (any_read (tx_at s.head.version s.head.nodes s.head.slots s.names (length s.txs) ws)) (λ x p. read_ok _ _ (rw (bytes_eq-true w (codes "tx") e) refl)))))
      (λ f. read_cond (bytes_eq w (codes "run")) _ _ _ (λ e. read_bind _ _ _ (any_read (ended ws)) (λ x p. read_ok _ _ (rw (bytes_eq-true w (codes "run") e) refl))) (λ g. read_err _ _))

  object_line_follows : (w : List ℕ) (ws : List (List ℕ)) → IfRead (object_line_taken live s w ws) (Follows live w)
  unfolding object_line_taken
  object_line_follows w ws =
      read_cond (bytes_eq w (codes "object")) _ _ _ (object_follows w ws) (λ f. read_cond (length s.objects == 0) _ _ _ (λ t. read_err _ _) (λ g. tx_line_follows w ws))

  degree_line_follows : (w : List ℕ) (ws : List (List ℕ)) → s.objects ≡ [] → IfRead (degree_line_taken live s w ws) (Follows live w)
  unfolding degree_line_taken
  degree_line_follows w ws none =
      read_cond (bytes_eq w (codes "degree")) (degree_taken s ws) (object_line_taken live s w ws) (Follows live w) (λ t. degree_follows w ws t none) (λ f. object_line_follows w ws)

  step_follows : (k : StepWord) (ws : List (List ℕ)) → s.stage ≡ stages.Steps → IfRead (step_taken live s k ws) (Follows live (step_text k))
  unfolding step_taken words_at
  step_follows k ws at =
      read_cond live _ _ _ (λ t. read_err _ _) (λ f. read_cond (length s.steps == 50000) _ _ _ (λ t. read_err _ _)
      (λ g. read_bind _ _ _ (any_read (step_at s.head.nodes s.head.slots (length s.txs) k ws)) (λ x p. read_ok _ _ (step_behind live k ∙ sym (ap (λ (stage : Stage). words_at stage (record s { steps = s.steps ++ x ∷ [] })) at)))))

-- behind a line that is not the last
abbrev pub FollowsMore : Bool → List ℕ → Bool × State → Type 0
FollowsMore live w (true, t) = Unit {0}
FollowsMore live w (false, t) = Follows live w t

more_follows : (live : Bool) (w : List ℕ) (r : Result State Kind) → IfRead r (Follows live w) → IfRead (more r) (FollowsMore live w)
unfolding more
more_follows live w (Ok t) h = read_ok _ _ h.holds
more_follows live w (Err k) h = read_err _ _

step_line_follows : (live : Bool) (s : State) (w : List ℕ) (ws : List (List ℕ)) → s.stage ≡ stages.Steps → IfRead (step_line_taken live s w ws) (FollowsMore live w)
unfolding step_line_taken
step_line_follows live s w ws at =
    read_cond (bytes_eq w (codes "end")) _ _ _
    (λ t. read_bind _ _ _ (any_read (ended ws)) (λ x e. read_ok _ _ tt))
    (λ f. read_bind _ _ _ (read_or _ _ _ (step_word_of-sound w)) (λ k p. more_follows live w _ (rw p (step_follows live s k ws at))))

body_follows : (live : Bool) (stage : Stage) (s : State) (ws : List (List ℕ)) → ((w : List ℕ) (rest : List (List ℕ)) → IfRead (body_taken live s stage w rest) (FollowsMore live w)) → IfRead (word_at ws >>= λ w. body_taken live s stage w.0 w.1) (FollowsMore live (first_word ws))
unfolding nth
body_follows live stage s ws h = read_bind _ _ _ (word_at-sound ws) (λ w p. rw p (h w.0 w.1))

-- a line that is taken leads to a state that wants the words that may follow it
pub line_follows : (live : Bool) (stage : Stage) (s : State) (ws : List (List ℕ)) → s.stage ≡ stage → Fits live stage s → IfRead (line_taken live s stage ws) (FollowsMore live (first_word ws))
unfolding line_taken body_taken BodyFits
line_follows live stages.Version s ws at fits = more_follows live _ _ (version_follows live s ws)
line_follows live stages.Nodes s ws at fits = more_follows live _ _ (nodes_follow live s ws)
line_follows live stages.Slots s ws at fits = more_follows live _ _ (slots_follow live s ws)
line_follows live stages.Directory s ws at fits = more_follows live _ _ (directory_follows live s ws)
line_follows live stages.Degree s ws at fits = body_follows live stages.Degree s ws (λ w rest. more_follows live w _ (degree_line_follows live s w rest fits.body.objects))
line_follows live stages.Objects s ws at fits = body_follows live stages.Objects s ws (λ w rest. more_follows live w _ (object_line_follows live s w rest))
line_follows live stages.Txs s ws at fits = body_follows live stages.Txs s ws (λ w rest. more_follows live w _ (tx_line_follows live s w rest))
line_follows live stages.Steps s ws at fits = body_follows live stages.Steps s ws (λ w rest. step_line_follows live s w rest at)
