-- Steps as words: what is read is spelled so, and what is spelled so is read.
use Rattle.std.proofs.Common.{◌≡◌, ℕ, ◌≤◌, ◌^◌, Bool, true, false, cond, List, [], ◌∷◌, Option, Some, None, Ok, refl, arith}
use Rattle.std.specs.Prelude.{codes, decimal, map}
use Rattle.std.specs.Str.{bytes_eq}
use Rattle.zeus_base.specs.Nodes.{has}
use Rattle.zeus_base.specs.NodeLaws.{IsBelow}
use Rattle.zeus_base.specs.declared.config.Config.{Config}
use Rattle.zeus_base.specs.declared.step.Step.{Step}
use Rattle.zeus_base.specs.declared.step.Step.TheVariants as steps
use Rattle.zeus_model.specs.Scripts.{FitsStep}
use Rattle.zeus_model.specs.Spelling.{step_words}
use Rattle.script_lang.specs.declared.keywords.StepWord.{StepWord}
use Rattle.script_lang.specs.declared.keywords.StepWord.TheVariants as words
use Rattle.script_lang.specs.NodeLists.{is_owner}
use Rattle.script_lang.specs.Reads.{ended}
use Rattle.script_lang.specs.Steps.{step_word_of, step_at}
use Rattle.script_lang.proofs.laws.FindLaws.{bytes_eq-true}
use Rattle.script_lang.proofs.laws.NodeLaws.{nodes_after-sound, nodes_after-nodes, HasRoom}
use Rattle.script_lang.proofs.laws.NumberLaws.{range_at-sound, range_at-decimal}
use Rattle.script_lang.proofs.Sound.{IfRead, read_bind, read_ok, read_err}

-- the word of a step
unfoldable pub step_text : StepWord → List ℕ
step_text words.Begin = codes "begin"
step_text words.Try = codes "try"
step_text words.Deliver = codes "deliver"
step_text words.Tick = codes "tick"
step_text words.Stop = codes "stop"
step_text words.View = codes "view"
step_text words.Install = codes "install"

abbrev IfWord : List ℕ → Option StepWord → Type 0
IfWord w None = Unit {0}
IfWord w (Some k) = w ≡ step_text k

word_choice : (w : List ℕ) (b : Bool) (k : StepWord) (rest : Option StepWord) → (b ≡ true → w ≡ step_text k) → IfWord w rest → IfWord w (cond b (Some k) rest)
word_choice w true k rest h g = h refl
word_choice w false k rest h g = g

step_word_of-word : (w : List ℕ) → IfWord w (step_word_of w)
unfolding step_word_of step_text
step_word_of-word w =
    word_choice w (bytes_eq w (codes "begin")) words.Begin _ (bytes_eq-true w (codes "begin"))
    (word_choice w (bytes_eq w (codes "try")) words.Try _ (bytes_eq-true w (codes "try"))
    (word_choice w (bytes_eq w (codes "deliver")) words.Deliver _ (bytes_eq-true w (codes "deliver"))
    (word_choice w (bytes_eq w (codes "tick")) words.Tick _ (bytes_eq-true w (codes "tick"))
    (word_choice w (bytes_eq w (codes "stop")) words.Stop _ (bytes_eq-true w (codes "stop"))
    (word_choice w (bytes_eq w (codes "view")) words.View _ (bytes_eq-true w (codes "view"))
    (word_choice w (bytes_eq w (codes "install")) words.Install None (bytes_eq-true w (codes "install")) tt))))))

-- if a word is read as that of a step, then it is the step's word
pub step_word_of-sound : (w : List ℕ) (k : StepWord) → step_word_of w ≡ Some k → w ≡ step_text k
step_word_of-sound w k h = rw h at (step_word_of-word w)

-- the word of a step is read as that step
pub step_word_of-text : (k : StepWord) → step_word_of (step_text k) ≡ Some k
unfolding step_word_of step_text
step_word_of-text words.Begin = refl
step_word_of-text words.Try = refl
step_word_of-text words.Deliver = refl
step_word_of-text words.Tick = refl
step_word_of-text words.Stop = refl
step_word_of-text words.View = refl
step_word_of-text words.Install = refl

-- a step that was read
pub record IsStepLine (config : Config) (txs : ℕ) (k : StepWord) (ws : List (List ℕ)) (step : Step) : Type 0 where
  pub spelled : step_text k ∷ ws ≡ step_words step
  pub fits : FitsStep config txs step

-- if a line is found to end, then no words are left
pub ended-sound : (ws : List (List ℕ)) → IfRead (ended ws) (λ _. ws ≡ [])
unfolding ended
ended-sound [] = read_ok _ _ refl
ended-sound (w ∷ ws) = read_err _ _

-- no nodes are below every bound
pub none_below : (b : ℕ) → IsBelow b []
unfolding has
none_below b k h = absurd cc

-- if a step is read behind its word, then the words spell a step that fits
pub step_at-sound : (config : Config) (txs : ℕ) (k : StepWord) (ws : List (List ℕ)) → IfRead (step_at config.nodes config.slots txs k ws) (IsStepLine config txs k ws)
unfolding step_at step_text step_words FitsStep
step_at-sound config txs words.Begin ws =
    read_bind _ _ _ (range_at-sound 0 txs ws) (λ k p. read_bind _ _ _ (ended-sound k.1) (λ _ e.
    read_ok _ _ (record { spelled = rw (p.0, e) refl; fits = p.3 })))
step_at-sound config txs words.Try ws =
    read_bind _ _ _ (range_at-sound 0 config.nodes ws) (λ n p. read_bind _ _ _ (range_at-sound 0 config.slots n.1) (λ s q. read_bind _ _ _ (ended-sound s.1) (λ _ e.
    read_ok _ _ (record { spelled = rw (p.0, q.0, e) refl; fits = (p.3, q.3) }))))
step_at-sound config txs words.Deliver ws =
    read_bind _ _ _ (range_at-sound 0 config.nodes ws) (λ n p. read_bind _ _ _ (range_at-sound 0 config.nodes n.1) (λ m q. read_bind _ _ _ (range_at-sound 0 (2 ^ 32) m.1) (λ i r. read_bind _ _ _ (ended-sound i.1) (λ _ e.
    read_ok _ _ (record { spelled = rw (p.0, q.0, r.0, e) refl; fits = (p.3, q.3, r.3) })))))
step_at-sound config txs words.Tick ws =
    read_bind _ _ _ (range_at-sound 0 config.nodes ws) (λ n p. read_bind _ _ _ (ended-sound n.1) (λ _ e.
    read_ok _ _ (record { spelled = rw (p.0, e) refl; fits = p.3 })))
step_at-sound config txs words.Stop ws =
    read_bind _ _ _ (range_at-sound 0 config.nodes ws) (λ n p. read_bind _ _ _ (ended-sound n.1) (λ _ e.
    read_ok _ _ (record { spelled = rw (p.0, e) refl; fits = p.3 })))
step_at-sound config txs words.View ws =
    read_bind _ _ _ (nodes_after-sound config.nodes None None [] 0 ws (none_below 0)) (λ ns p.
    let whole : ns ≡ p.ns = p.whole in
    read_ok _ _ (record { spelled = rw (p.words, whole) refl; fits = rw whole (p.rises, p.below) }))
step_at-sound config txs words.Install ws =
    read_bind _ _ _ (range_at-sound 0 config.nodes ws) (λ n p. read_bind _ _ _ (range_at-sound 1 (2 ^ 32) n.1) (λ i q. read_bind _ _ _ (ended-sound i.1) (λ _ e.
    read_ok _ _ (record { spelled = rw (p.0, q.0, e) refl; fits = (p.3, q.2, q.3) }))))

-- ---- what is spelled is read

-- the word of a step, and the words behind it
unfoldable pub word_of_step : Step → StepWord
word_of_step (steps.Begin k) = words.Begin
word_of_step (steps.Try n s) = words.Try
word_of_step (steps.Deliver n m i) = words.Deliver
word_of_step (steps.Tick n) = words.Tick
word_of_step (steps.Stop n) = words.Stop
word_of_step (steps.View ns) = words.View
word_of_step (steps.Install n e) = words.Install

unfoldable pub step_rest : Step → List (List ℕ)
step_rest (steps.Begin k) = decimal k ∷ []
step_rest (steps.Try n s) = decimal n ∷ decimal s ∷ []
step_rest (steps.Deliver n m i) = decimal n ∷ decimal m ∷ decimal i ∷ []
step_rest (steps.Tick n) = decimal n ∷ []
step_rest (steps.Stop n) = decimal n ∷ []
step_rest (steps.View ns) = map decimal ns
step_rest (steps.Install n e) = decimal n ∷ decimal e ∷ []

-- the words of a step are its first word and the rest
pub step_words-parts : (step : Step) → step_words step ≡ step_text (word_of_step step) ∷ step_rest step
unfolding step_words step_text word_of_step step_rest
step_words-parts (steps.Begin k) = refl
step_words-parts (steps.Try n s) = refl
step_words-parts (steps.Deliver n m i) = refl
step_words-parts (steps.Tick n) = refl
step_words-parts (steps.Stop n) = refl
step_words-parts (steps.View ns) = refl
step_words-parts (steps.Install n e) = refl

-- if there is no owner, then no list of nodes has it
pub no_owner : (k : ℕ) (ns : List ℕ) → is_owner None k ≡ true → has k ns ≡ false
unfolding is_owner
no_owner k ns h = absurd cc

any_room : (k : ℕ) → HasRoom None k
unfolding HasRoom
any_room k = tt

-- if a step fits, then reading the words behind its first word gives it
pub step_at-words : (config : Config) (txs : ℕ) (step : Step) → config.nodes ≤ 8 → config.slots ≤ 8 → txs ≤ 2 ^ 64 → FitsStep config txs step → step_at config.nodes config.slots txs (word_of_step step) (step_rest step) ≡ Ok step
unfolding step_at word_of_step step_rest FitsStep ended
step_at-words config txs (steps.Begin k) few slots small fits = rw (range_at-decimal 0 txs k [] (omega arith) (omega arith) fits) refl
step_at-words config txs (steps.Try n s) few slots small fits =
    rw (range_at-decimal 0 config.nodes n (decimal s ∷ []) (omega (arith, fits.0)) (omega arith) fits.0, range_at-decimal 0 config.slots s [] (omega (arith, fits.1)) (omega arith) fits.1) refl
step_at-words config txs (steps.Deliver n m i) few slots small fits =
    rw (range_at-decimal 0 config.nodes n (decimal m ∷ decimal i ∷ []) (omega (arith, fits.0)) (omega arith) fits.0, range_at-decimal 0 config.nodes m (decimal i ∷ []) (omega (arith, fits.1)) (omega arith) fits.1, range_at-decimal 0 (2 ^ 32) i [] (omega (arith, fits.2)) (omega arith) fits.2) refl
step_at-words config txs (steps.Tick n) few slots small fits = rw (range_at-decimal 0 config.nodes n [] (omega arith) (omega arith) fits) refl
step_at-words config txs (steps.Stop n) few slots small fits = rw (range_at-decimal 0 config.nodes n [] (omega arith) (omega arith) fits) refl
step_at-words config txs (steps.View ns) few slots small fits =
    rw (nodes_after-nodes config.nodes None None [] 0 ns few (record { low = none_below 0; rises = fits.0; below = fits.1; apart = λ k h. no_owner k ns h; room = any_room _ })) refl
step_at-words config txs (steps.Install n e) few slots small fits =
    rw (range_at-decimal 0 config.nodes n (decimal e ∷ []) (omega (arith, fits.0)) (omega arith) fits.0, range_at-decimal 1 (2 ^ 32) e [] (omega (arith, fits.2)) fits.1 fits.2) refl
