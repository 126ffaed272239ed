-- What a script of leases keeps so far, the lines that it was read from, and that each line that is taken adds itself.
use Rattle.std.proofs.Common.{◌≡◌, ℕ, zero, suc, ◌+◌, ◌<◌, ◌≤◌, ◌^◌, Bool, true, false, cond, List, [], ◌∷◌, ◌++◌, length, Some, None, refl, sym, ap, ◌∙◌, arith, append_assoc, append-nil, length-append, subst}
use Rattle.std.specs.Prelude.{codes, decimal, map, ◌==◌}
use Rattle.std.specs.List.{AllByRecursion}
use Rattle.std.specs.Str.{bytes_eq}
use Rattle.std.proofs.lemmas.Bool.Decides.{nat_tests}
use Rattle.std.proofs.lemmas.List.Elements.{All-from_recursion}
use Rattle.script_lang.specs.Reads.{ended}
use Rattle.script_lang.proofs.DraftSound.{keyword_at-sound, word_at-sound}
use Rattle.script_lang.proofs.laws.FindLaws.{bytes_eq-true}
use Rattle.script_lang.proofs.laws.NodeLaws.{nodes_after-sound}
use Rattle.script_lang.proofs.laws.NumberLaws.{range_at-sound}
use Rattle.script_lang.proofs.laws.StepLaws.{ended-sound, none_below}
use Rattle.script_lang.proofs.Sound.{IfRead, read_bind, read_ok, read_err, read_cond, read_or, read_weaken}
use Rattle.zeus_lease.specs.declared.draft.Stage.{Stage}
use Rattle.zeus_lease.specs.declared.draft.Stage.TheVariants as stages
use Rattle.zeus_lease.specs.declared.keywords.StepWord.{StepWord}
use Rattle.zeus_lease.specs.declared.keywords.StepWord.TheVariants as words
use Rattle.zeus_lease.specs.declared.step.LeaseStep.{LeaseStep}
use Rattle.zeus_lease.specs.declared.step.LeaseStep.TheVariants as steps
use Rattle.zeus_lease.specs.Reading.{State, version_after, number_after, step_word_of, ticks_after, step_at, step_taken, step_line_taken, line_taken, taken, script_of}
use Rattle.zeus_lease.specs.Scripts.{FitsStep, FitsNumbers, number_line, script_lines, step_words}
use Rattle.zeus_lease.proofs.Language.{Lines, Goes}

-- a whole script
pub record Whole (s : State) : Type 0 where
  pub stage : s.stage ≡ stages.Steps
  pub numbers : FitsNumbers s.nodes s.length s.percent
  pub steps : AllByRecursion (FitsStep s.nodes) s.steps
  pub few : length s.steps ≤ 50000

-- what is kept by each stage
unfoldable pub FitsAt : Stage → State → Type 0
FitsAt stages.Version s = s.steps ≡ []
FitsAt stages.Nodes s = s.steps ≡ []
FitsAt stages.Length s = (1 ≤ s.nodes) × (s.nodes ≤ 8) × (s.steps ≡ [])
FitsAt stages.Percent s = (1 ≤ s.nodes) × (s.nodes ≤ 8) × (1 ≤ s.length) × (s.length < 2 ^ 32) × (s.steps ≡ [])
FitsAt stages.Steps s = Whole s

abbrev pub Fits : State → Type 0
Fits s = FitsAt s.stage s

abbrev pub version_line : List (List ℕ)
version_line = codes "leases" ∷ codes "1" ∷ []

-- the lines before the steps
abbrev pub head_lines : State → Lines
head_lines s = version_line ∷ number_line (codes "nodes") s.nodes ∷ number_line (codes "length") s.length ∷ number_line (codes "percent") s.percent ∷ []

-- the lines that were read by each stage
unfoldable pub lines_at : Stage → State → Lines
lines_at stages.Version s = []
lines_at stages.Nodes s = version_line ∷ []
lines_at stages.Length s = version_line ∷ number_line (codes "nodes") s.nodes ∷ []
lines_at stages.Percent s = version_line ∷ number_line (codes "nodes") s.nodes ∷ number_line (codes "length") s.length ∷ []
lines_at stages.Steps s = head_lines s ++ map step_words s.steps

abbrev pub lines : State → Lines
lines s = lines_at s.stage s

-- the lines of a whole script
abbrev pub all : State → Lines
all s = script_lines (script_of s)

-- behind the steps, all lines of a script are those read so far and `end`
pub all_lines : (s : State) → s.stage ≡ stages.Steps → all s ≡ lines s ++ (codes "end" ∷ []) ∷ []
unfolding script_lines script_of lines_at
all_lines s at = subst (λ (k : Stage). all s ≡ lines_at k s ++ (codes "end" ∷ []) ∷ []) (sym at) refl

-- ---- the first lines

version_after-sound : (ws : List (List ℕ)) → IfRead (version_after ws) (λ _. ws ≡ version_line)
unfolding version_after ended
version_after-sound ws =
    read_bind _ _ _ (keyword_at-sound (codes "leases") ws) (λ a p. read_bind _ _ _ (keyword_at-sound (codes "1") a.1) (λ b q. made b.1 p q (ended-sound b.1)))
  where
    made : {front : List (List ℕ)} (rest : List (List ℕ)) → ws ≡ codes "leases" ∷ front → front ≡ codes "1" ∷ rest → IfRead (ended rest) (λ _. rest ≡ []) → IfRead (ended rest) (λ _. ws ≡ version_line)
    made [] p q h = read_ok _ _ (p ∙ ap (λ (xs : List (List ℕ)). codes "leases" ∷ xs) q)
    made (w ∷ rest) p q h = read_err _ _

number_after-sound : (keyword : List ℕ) (lowest limit : ℕ) (ws : List (List ℕ)) → IfRead (number_after keyword lowest limit ws) (λ n. (ws ≡ number_line keyword n) × (lowest ≤ n) × (n < limit))
unfolding number_after
number_after-sound keyword lowest limit ws =
    read_bind _ _ _ (keyword_at-sound keyword ws) (λ a p. read_bind _ _ _ (range_at-sound lowest limit a.1) (λ n q. read_bind _ _ _ (ended-sound n.1) (λ _ e.
    read_ok _ _ (rw (q.0, e) at p, q.2, q.3))))

-- ---- steps

-- the word of a step
unfoldable pub step_text : StepWord → List ℕ
step_text words.Pass = codes "pass"
step_text words.Ask = codes "ask"
step_text words.Hear = codes "hear"
step_text words.Take = codes "take"
step_text words.Act = codes "act"
step_text words.View = codes "view"

-- if a word is read as that of a step, then it is the step's word
pub step_word_of-sound : (w : List ℕ) (k : StepWord) → step_word_of w ≡ Some k → w ≡ step_text k
unfolding step_word_of step_text
step_word_of-sound w k h = go (bytes_eq w (codes "pass")) (bytes_eq w (codes "ask")) (bytes_eq w (codes "hear")) (bytes_eq w (codes "take")) (bytes_eq w (codes "act")) (bytes_eq w (codes "view")) refl refl refl refl refl refl h
  where
    is : (v : List ℕ) (j : StepWord) → bytes_eq w v ≡ true → v ≡ step_text j → Some j ≡ Some k → w ≡ step_text k
    is v j e same some = let j_is : j ≡ k = cc in bytes_eq-true w v e ∙ same ∙ ap step_text j_is

    go : (a b c d e f : Bool) → bytes_eq w (codes "pass") ≡ a → bytes_eq w (codes "ask") ≡ b → bytes_eq w (codes "hear") ≡ c → bytes_eq w (codes "take") ≡ d → bytes_eq w (codes "act") ≡ e → bytes_eq w (codes "view") ≡ f
        → cond a (Some words.Pass) (cond b (Some words.Ask) (cond c (Some words.Hear) (cond d (Some words.Take) (cond e (Some words.Act) (cond f (Some words.View) None))))) ≡ Some k → w ≡ step_text k
    go true b c d e f ea eb ec ed ee ef g = is (codes "pass") words.Pass ea refl g
    go false true c d e f ea eb ec ed ee ef g = is (codes "ask") words.Ask eb refl g
    go false false true d e f ea eb ec ed ee ef g = is (codes "hear") words.Hear ec refl g
    go false false false true e f ea eb ec ed ee ef g = is (codes "take") words.Take ed refl g
    go false false false false true f ea eb ec ed ee ef g = is (codes "act") words.Act ee refl g
    go false false false false false true ea eb ec ed ee ef g = is (codes "view") words.View ef refl g
    go false false false false false false ea eb ec ed ee ef g = absurd cc

-- numbers of a pass: so many, behind those before
record AreTicks (count : ℕ) (before : List ℕ) (ws : List (List ℕ)) (x : List ℕ × List (List ℕ)) : Type 0 where
  ts : List ℕ
  words : ws ≡ map decimal ts ++ x.1
  whole : x.0 ≡ before ++ ts
  count_is : length ts ≡ count
  small : AllByRecursion (λ t. t < 2 ^ 32) ts

more_ticks : (count : ℕ) (before : List ℕ) (ws : List (List ℕ)) (t : ℕ × List (List ℕ)) (x : List ℕ × List (List ℕ)) → ws ≡ decimal t.0 ∷ t.1 → t.0 < 2 ^ 32 → AreTicks count (before ++ t.0 ∷ []) t.1 x → AreTicks (suc count) before ws x
more_ticks count before ws t x is small rest = record {
  ts = t.0 ∷ rest.ts;
  words = is ∙ ap (λ (vs : List (List ℕ)). decimal t.0 ∷ vs) rest.words;
  whole = rest.whole ∙ append_assoc before (t.0 ∷ []) rest.ts;
  count_is = ap suc rest.count_is;
  small = (small, rest.small);
}

ticks_after-sound : (count : ℕ) (before : List ℕ) (ws : List (List ℕ)) → IfRead (ticks_after count before ws) (AreTicks count before ws)
unfolding ticks_after
ticks_after-sound zero before ws = read_ok _ _ (record { ts = []; words = refl; whole = sym (append-nil before); count_is = refl; small = tt })
ticks_after-sound (suc count) before ws =
    read_bind _ _ _ (range_at-sound 0 (2 ^ 32) ws) (λ t p. read_weaken _ _ (λ x rest. more_ticks count before ws t x p.0 p.3 rest) (ticks_after-sound count (before ++ t.0 ∷ []) t.1))

-- the words are those of the step, which keeps the ranges
pub record IsStepLine (nodes : ℕ) (k : StepWord) (ws : List (List ℕ)) (step : LeaseStep) : Type 0 where
  pub spelled : step_text k ∷ ws ≡ step_words step
  pub fits : FitsStep nodes step

pass_line : (nodes : ℕ) (ws : List (List ℕ)) (x : List ℕ × List (List ℕ)) → AreTicks (suc nodes) [] ws x → x.1 ≡ [] → IsStepLine nodes words.Pass ws (steps.Pass x.0)
unfolding step_text step_words FitsStep
pass_line nodes ws x are end =
    let whole : x.0 ≡ are.ts = are.whole in
    let spelled : ws ≡ map decimal are.ts = are.words ∙ ap (λ (vs : List (List ℕ)). map decimal are.ts ++ vs) end ∙ append-nil (map decimal are.ts) in
    record {
      spelled = ap (λ (vs : List (List ℕ)). codes "pass" ∷ vs) (spelled ∙ ap (map decimal) (sym whole));
      fits = rw whole (are.count_is, All-from_recursion (λ t. t < 2 ^ 32) are.ts are.small);
    }

step_at-sound : (nodes : ℕ) (k : StepWord) (ws : List (List ℕ)) → IfRead (step_at nodes k ws) (IsStepLine nodes k ws)
unfolding step_at step_text step_words FitsStep
step_at-sound nodes words.Pass ws =
    read_bind _ _ _ (ticks_after-sound (suc nodes) [] ws) (λ x p. read_bind _ _ _ (ended-sound x.1) (λ _ e. read_ok _ _ (pass_line nodes ws x p e)))
step_at-sound nodes words.Ask ws =
    read_bind _ _ _ (range_at-sound 0 nodes ws) (λ n p. read_bind _ _ _ (ended-sound n.1) (λ _ e. read_ok _ _ (record { spelled = rw (p.0, e) refl; fits = p.3 })))
step_at-sound nodes words.Hear ws =
    read_bind _ _ _ (range_at-sound 0 (2 ^ 32) ws) (λ n p. read_bind _ _ _ (ended-sound n.1) (λ _ e. read_ok _ _ (record { spelled = rw (p.0, e) refl; fits = p.3 })))
step_at-sound nodes words.Take ws =
    read_bind _ _ _ (range_at-sound 0 (2 ^ 32) ws) (λ n p. read_bind _ _ _ (ended-sound n.1) (λ _ e. read_ok _ _ (record { spelled = rw (p.0, e) refl; fits = p.3 })))
step_at-sound nodes words.Act ws =
    read_bind _ _ _ (range_at-sound 0 nodes ws) (λ n p. read_bind _ _ _ (ended-sound n.1) (λ _ e. read_ok _ _ (record { spelled = rw (p.0, e) refl; fits = p.3 })))
step_at-sound nodes words.View ws =
    read_bind _ _ _ (nodes_after-sound nodes None None [] 0 ws (none_below 0)) (λ ns p.
    let whole : ns ≡ p.ns = p.whole in
    read_ok _ _ (record { spelled = rw (p.words, whole) refl; fits = rw whole (p.rises, p.below) }))

-- ---- lines

abbrev GoesOn : State → List (List ℕ) → Bool × State → Type 0
GoesOn s ws x = Goes Fits Whole lines all s ws x

-- one more element
each_more : {A : Type 0} (P : A → Type 0) (xs : List A) (x : A) → AllByRecursion P xs → P x → AllByRecursion P (xs ++ x ∷ [])
each_more P [] x h p = (p, tt)
each_more P (y ∷ xs) x h p = (h.0, each_more P xs x h.1 p)

map-more : (xs : List LeaseStep) (x : LeaseStep) → map step_words (xs ++ x ∷ []) ≡ map step_words xs ++ step_words x ∷ []
map-more [] x = refl
map-more (y ∷ xs) x = ap (λ (ls : Lines). step_words y ∷ ls) (map-more xs x)

module _ (s : State) (ws : List (List ℕ)) where
  version_goes : s.stage ≡ stages.Version → FitsAt stages.Version s → IfRead (line_taken s stages.Version ws) (GoesOn s ws)
  unfolding line_taken FitsAt lines_at
  version_goes at fits =
      read_bind _ _ _ (version_after-sound ws) (λ e p. read_ok _ _ (fits, subst (λ (k : Stage). version_line ∷ [] ≡ lines_at k s ++ ws ∷ []) (sym at) (ap (λ (l : List (List ℕ)). l ∷ []) (sym p))))

  nodes_go : s.stage ≡ stages.Nodes → FitsAt stages.Nodes s → IfRead (line_taken s stages.Nodes ws) (GoesOn s ws)
  unfolding line_taken FitsAt lines_at
  nodes_go at fits =
      read_bind _ _ _ (number_after-sound (codes "nodes") 1 9 ws) (λ n p.
      read_ok _ _ ((p.1, omega (arith, p.2), fits), subst (λ (k : Stage). version_line ∷ number_line (codes "nodes") n ∷ [] ≡ lines_at k s ++ ws ∷ []) (sym at) (ap (λ (l : List (List ℕ)). version_line ∷ l ∷ []) (sym p.0))))

  length_goes : s.stage ≡ stages.Length → FitsAt stages.Length s → IfRead (line_taken s stages.Length ws) (GoesOn s ws)
  unfolding line_taken FitsAt lines_at
  length_goes at fits =
      read_bind _ _ _ (number_after-sound (codes "length") 1 (2 ^ 32) ws) (λ n p.
      read_ok _ _ (
        (fits.0, fits.1, p.1, p.2, fits.2),
        subst (λ (k : Stage). version_line ∷ number_line (codes "nodes") s.nodes ∷ number_line (codes "length") n ∷ [] ≡ lines_at k s ++ ws ∷ []) (sym at) (ap (λ (l : List (List ℕ)). version_line ∷ number_line (codes "nodes") s.nodes ∷ l ∷ []) (sym p.0)),
      ))

  percent_goes : s.stage ≡ stages.Percent → FitsAt stages.Percent s → IfRead (line_taken s stages.Percent ws) (GoesOn s ws)
  unfolding line_taken FitsAt lines_at
  percent_goes at fits =
      read_bind _ _ _ (number_after-sound (codes "percent") 0 101 ws) (λ n p.
      let none : s.steps ≡ [] = fits.4 in
      read_ok _ _ (
        record { stage = refl; numbers = record { few = (fits.0, fits.1); long = (fits.2, fits.3); close = omega (arith, p.2) }; steps = rw none tt; few = rw none (omega arith) },
        subst (λ (k : Stage). head_lines (record s { percent = n }) ++ map step_words s.steps ≡ lines_at k s ++ ws ∷ []) (sym at)
            (rw none (ap (λ (l : List (List ℕ)). version_line ∷ number_line (codes "nodes") s.nodes ∷ number_line (codes "length") s.length ∷ l ∷ []) (sym p.0))),
      ))

  step_added : (k : StepWord) (rest : List (List ℕ)) (step : LeaseStep) → s.stage ≡ stages.Steps → Whole s → ws ≡ step_text k ∷ rest → (length s.steps == 50000) ≡ false → IsStepLine s.nodes k rest step → GoesOn s ws (false, record s { steps = s.steps ++ step ∷ [] })
  unfolding FitsAt lines_at
  step_added k rest step at whole is room line =
      let more : length (s.steps ++ step ∷ []) ≡ length s.steps + 1 = length-append s.steps (step ∷ []) in
      let few : length (s.steps ++ step ∷ []) ≤ 50000 = grind (arith, nat_tests, whole.few) in
      let kept : Whole (record s { steps = s.steps ++ step ∷ [] }) = record { stage = at; numbers = whole.numbers; steps = each_more (FitsStep s.nodes) s.steps step whole.steps line.fits; few = few } in
      let words : step_words step ≡ ws = sym (is ∙ line.spelled) in (
        subst (λ (j : Stage). FitsAt j (record s { steps = s.steps ++ step ∷ [] })) (sym at) kept,
        subst (λ (j : Stage). lines_at j (record s { steps = s.steps ++ step ∷ [] }) ≡ lines_at j s ++ ws ∷ []) (sym at)
            (ap (λ (ls : Lines). head_lines s ++ ls) (map-more s.steps step ∙ ap (λ (l : List (List ℕ)). map step_words s.steps ++ l ∷ []) words)),
      )

  step_goes : (k : StepWord) (rest : List (List ℕ)) → s.stage ≡ stages.Steps → Whole s → ws ≡ step_text k ∷ rest → IfRead (step_taken s k rest) (GoesOn s ws)
  unfolding step_taken
  step_goes k rest at whole is =
      read_cond (length s.steps == 50000) _ _ _ (λ t. read_err _ _)
      (λ f. read_bind _ _ _ (step_at-sound s.nodes k rest) (λ step p. read_ok _ _ (step_added k rest step at whole is f p)))

  step_line_goes : (w : List ℕ) (rest : List (List ℕ)) → s.stage ≡ stages.Steps → Whole s → ws ≡ w ∷ rest → IfRead (step_line_taken s w rest) (GoesOn s ws)
  unfolding step_line_taken
  step_line_goes w rest at whole is =
      read_cond (bytes_eq w (codes "end")) _ _ _
      (λ t. read_bind _ _ _ (ended-sound rest) (λ _ e. read_ok _ _ (whole, all_lines s at ∙ ap (λ (l : List (List ℕ)). lines s ++ l ∷ []) (sym (is ∙ rw (bytes_eq-true w (codes "end") t, e) refl)))))
      (λ f. read_bind _ _ _ (read_or _ _ _ (step_word_of-sound w)) (λ k p. step_goes k rest at whole (is ∙ ap (λ (v : List ℕ). v ∷ rest) p)))

  line_goes : (stage : Stage) → s.stage ≡ stage → FitsAt stage s → IfRead (line_taken s stage ws) (GoesOn s ws)
  unfolding line_taken FitsAt
  line_goes stages.Version at fits = version_goes at fits
  line_goes stages.Nodes at fits = nodes_go at fits
  line_goes stages.Length at fits = length_goes at fits
  line_goes stages.Percent at fits = percent_goes at fits
  line_goes stages.Steps at fits = read_bind _ _ _ (word_at-sound ws) (λ w p. step_line_goes w.0 w.1 at fits p)

  pub goes : Fits s → IfRead (taken s ws) (Goes Fits Whole lines all s ws)
  goes fits = line_goes s.stage refl fits
