-- What is spelled so is read, and lines that are taken can be gone on with to a whole script.
use Rattle.std.proofs.Common.{◌≡◌, ℕ, zero, suc, ◌+◌, ◌<◌, ◌≤◌, ◌^◌, true, false, List, [], ◌∷◌, ◌++◌, length, Some, None, Ok, refl, sym, ap, ◌∙◌, arith, append_assoc, append-nil, length-append}
use Rattle.std.specs.Prelude.{codes, decimal, map, ◌==◌}
use Rattle.std.specs.List.{AllByRecursion}
use Rattle.std.specs.Str.{bytes_eq}
use Rattle.std.proofs.lemmas.Bool.{ne_eqb}
use Rattle.std.proofs.lemmas.List.Elements.{All-from_recursion, recursion_from_All}
use Rattle.zeus_model.specs.Spelling.{lines_text}
use Rattle.script_lang.specs.Following.{line_followed, followed}
use Rattle.script_lang.specs.Reading.{is_last}
use Rattle.script_lang.specs.Reads.{word_at, keyword_at, ended}
use Rattle.script_lang.proofs.laws.NodeLaws.{nodes_after-nodes, HasRoom}
use Rattle.script_lang.proofs.laws.NumberLaws.{range_at-decimal}
use Rattle.script_lang.proofs.laws.StepLaws.{no_owner, none_below}
use Rattle.script_lang.proofs.TextComplete.{IsLine, IsPrinted, cut-words_text, from_test, decimal_printed, nodes_printed}
use Rattle.script_lang.proofs.faults.WordKinds.{BlamesWord, then, ok, err, either, some, word_blames, keyword_blames, ended_blames, range_blames, nodes_blame}
use Rattle.zeus_model.specs.Faults.{IsOfWord}
use Rattle.zeus_model.specs.declared.fault.Kind.TheVariants as kinds
use Rattle.zeus_lease.specs.declared.draft.Stage.{Stage}
use Rattle.zeus_lease.specs.declared.draft.Stage.TheVariants as stages
use Rattle.zeus_lease.specs.declared.keywords.StepWord.{StepWord}
use Rattle.zeus_lease.specs.declared.keywords.StepWord.TheVariants as words
use Rattle.zeus_lease.specs.declared.script.LeaseScript.{LeaseScript}
use Rattle.zeus_lease.specs.declared.step.LeaseStep.{LeaseStep}
use Rattle.zeus_lease.specs.declared.step.LeaseStep.TheVariants as steps
use Rattle.zeus_lease.specs.Faults.{IsScriptText}
use Rattle.zeus_lease.specs.Reading.{State, start, version_after, number_after, step_word_of, ticks_after, step_at, step_taken, step_line_taken, line_taken, taken, script_of}
use Rattle.zeus_lease.specs.Scripts.{FitsStep, FitsNumbers, FitsScript, number_line, script_lines, step_words, spelling}
use Rattle.zeus_lease.proofs.Language.{Lines, Completes, IsTextOf, Language, parts_of}
use Rattle.zeus_lease.proofs.LineFits.{Whole, FitsAt, Fits, version_line, lines_at, lines, all, goes, step_text}

-- ---- completing

abbrev end_line : List (List ℕ)
end_line = codes "end" ∷ []

-- a whole script of these numbers, without steps
abbrev bare : ℕ → ℕ → ℕ → State
bare nodes term percent = record { stage = stages.Steps; nodes = nodes; length = term; percent = percent; steps = [] }

bare_whole : (nodes term percent : ℕ) → FitsNumbers nodes term percent → Whole (bare nodes term percent)
bare_whole nodes term percent numbers = record { stage = refl; numbers = numbers; steps = tt; few = omega arith }

completes_at : (stage : Stage) (s : State) → FitsAt stage s → s.stage ≡ stage → Completes Whole (lines_at stage) all s
unfolding FitsAt lines_at script_lines script_of
completes_at stages.Version s fits at = record {
  ls = version_line ∷ number_line (codes "nodes") 1 ∷ number_line (codes "length") 1 ∷ number_line (codes "percent") 0 ∷ end_line ∷ [];
  whole = bare 1 1 0;
  is = bare_whole 1 1 0 (record { few = (omega arith, omega arith); long = (omega arith, omega arith); close = omega arith });
  made = refl;
}
completes_at stages.Nodes s fits at = record {
  ls = number_line (codes "nodes") 1 ∷ number_line (codes "length") 1 ∷ number_line (codes "percent") 0 ∷ end_line ∷ [];
  whole = bare 1 1 0;
  is = bare_whole 1 1 0 (record { few = (omega arith, omega arith); long = (omega arith, omega arith); close = omega arith });
  made = refl;
}
completes_at stages.Length s fits at = record {
  ls = number_line (codes "length") 1 ∷ number_line (codes "percent") 0 ∷ end_line ∷ [];
  whole = bare s.nodes 1 0;
  is = bare_whole s.nodes 1 0 (record { few = (fits.0, fits.1); long = (omega arith, omega arith); close = omega arith });
  made = refl;
}
completes_at stages.Percent s fits at = record {
  ls = number_line (codes "percent") 0 ∷ end_line ∷ [];
  whole = bare s.nodes s.length 0;
  is = bare_whole s.nodes s.length 0 (record { few = (fits.0, fits.1); long = (fits.2, fits.3); close = omega arith });
  made = refl;
}
completes_at stages.Steps s fits at = record { ls = end_line ∷ []; whole = s; is = fits; made = refl }

completes : (s : State) → Fits s → Completes Whole lines all s
completes s fits = let done = completes_at s.stage s fits refl in record { ls = done.ls; whole = done.whole; is = done.is; made = done.made }

-- ---- the lines of a script are lines

number_is_line : (w : List ℕ) (n : ℕ) → IsPrinted w → n < 2 ^ 64 → IsLine (number_line w n)
unfolding IsLine
number_is_line w n is lt = (is, (decimal_printed n lt, tt))

ticks_printed : (ts : List ℕ) → AllByRecursion (λ t. t < 2 ^ 32) ts → AllByRecursion IsPrinted (map decimal ts)
ticks_printed [] h = tt
ticks_printed (t ∷ ts) h = (decimal_printed t (omega (arith, h.0)), ticks_printed ts h.1)

step_is_line : (nodes : ℕ) (step : LeaseStep) → nodes ≤ 8 → FitsStep nodes step → IsLine (step_words step)
unfolding IsLine step_words FitsStep
step_is_line nodes (steps.Pass ts) few h = (from_test (codes "pass") refl, ticks_printed ts (recursion_from_All (λ t. t < 2 ^ 32) ts h.1))
step_is_line nodes (steps.Ask n) few h = (from_test (codes "ask") refl, (decimal_printed n (omega arith), tt))
step_is_line nodes (steps.Hear i) few h = (from_test (codes "hear") refl, (decimal_printed i (omega arith), tt))
step_is_line nodes (steps.Take i) few h = (from_test (codes "take") refl, (decimal_printed i (omega arith), tt))
step_is_line nodes (steps.Act n) few h = (from_test (codes "act") refl, (decimal_printed n (omega arith), tt))
step_is_line nodes (steps.View set) few h = (from_test (codes "view") refl, nodes_printed nodes set few h.1)

end_is_line : IsLine end_line
unfolding IsLine
end_is_line = (from_test (codes "end") refl, tt)

version_is_line : IsLine version_line
unfolding IsLine
version_is_line = (from_test (codes "leases") refl, (from_test (codes "1") refl, tt))

steps_are : (nodes : ℕ) (ss : List LeaseStep) → nodes ≤ 8 → AllByRecursion (FitsStep nodes) ss → AllByRecursion IsLine (map step_words ss ++ end_line ∷ [])
steps_are nodes [] few h = (end_is_line, tt)
steps_are nodes (s ∷ ss) few h = (step_is_line nodes s few h.0, steps_are nodes ss few h.1)

are : (t : State) → Whole t → AllByRecursion IsLine (all t)
unfolding script_lines script_of
are t whole =
    let n = whole.numbers in (
      version_is_line,
      (
        number_is_line (codes "nodes") t.nodes (from_test (codes "nodes") refl) (omega (arith, n.few.1)),
        (
          number_is_line (codes "length") t.length (from_test (codes "length") refl) (omega (arith, n.long.1)),
          (
            number_is_line (codes "percent") t.percent (from_test (codes "percent") refl) (omega (arith, n.close)),
            steps_are t.nodes t.steps n.few.1 whole.steps,
          ),
        ),
      ),
    )

-- ---- what is spelled is read

number_after-line : (keyword : List ℕ) (lowest limit n : ℕ) → bytes_eq keyword keyword ≡ true → n < 2 ^ 64 → lowest ≤ n → n < limit → number_after keyword lowest limit (number_line keyword n) ≡ Ok n
unfolding number_after keyword_at word_at ended
number_after-line keyword lowest limit n same fits low high = rw (same, range_at-decimal lowest limit n [] fits low high) refl

ticks_after-ticks : (count : ℕ) (before ts : List ℕ) → length ts ≡ count → AllByRecursion (λ t. t < 2 ^ 32) ts → ticks_after count before (map decimal ts) ≡ Ok (before ++ ts, [])
unfolding ticks_after
ticks_after-ticks zero before [] e h = ap (λ (xs : List ℕ). Ok (xs, [])) (sym (append-nil before))
ticks_after-ticks zero before (t ∷ ts) e h = absurd cc
ticks_after-ticks (suc count) before [] e h = absurd cc
ticks_after-ticks (suc count) before (t ∷ ts) e h =
    let fewer : length ts ≡ count = omega (arith, e) in
    rw (range_at-decimal 0 (2 ^ 32) t (map decimal ts) (omega (arith, h.0)) (omega arith) h.0)
    (ticks_after-ticks count (before ++ t ∷ []) ts fewer h.1 ∙ ap (λ (xs : List ℕ). Ok (xs, [])) (append_assoc before (t ∷ []) ts))

-- the word of a step, and the words behind it
unfoldable word_of_step : LeaseStep → StepWord
word_of_step (steps.Pass ts) = words.Pass
word_of_step (steps.Ask n) = words.Ask
word_of_step (steps.Hear i) = words.Hear
word_of_step (steps.Take i) = words.Take
word_of_step (steps.Act n) = words.Act
word_of_step (steps.View set) = words.View

unfoldable step_rest : LeaseStep → List (List ℕ)
step_rest (steps.Pass ts) = map decimal ts
step_rest (steps.Ask n) = decimal n ∷ []
step_rest (steps.Hear i) = decimal i ∷ []
step_rest (steps.Take i) = decimal i ∷ []
step_rest (steps.Act n) = decimal n ∷ []
step_rest (steps.View set) = map decimal set

step_words-parts : (step : LeaseStep) → step_words step ≡ step_text (word_of_step step) ∷ step_rest step
unfolding step_words step_text word_of_step step_rest
step_words-parts (steps.Pass ts) = refl
step_words-parts (steps.Ask n) = refl
step_words-parts (steps.Hear i) = refl
step_words-parts (steps.Take i) = refl
step_words-parts (steps.Act n) = refl
step_words-parts (steps.View set) = refl

any_room : (k : ℕ) → HasRoom None k
unfolding HasRoom
any_room k = tt

step_at-words : (nodes : ℕ) (step : LeaseStep) → nodes ≤ 8 → FitsStep nodes step → step_at nodes (word_of_step step) (step_rest step) ≡ Ok step
unfolding step_at word_of_step step_rest FitsStep ended
step_at-words nodes (steps.Pass ts) few h =
    rw (ticks_after-ticks (suc nodes) [] ts h.0 (recursion_from_All (λ t. t < 2 ^ 32) ts h.1)) refl
step_at-words nodes (steps.Ask n) few h = rw (range_at-decimal 0 nodes n [] (omega arith) (omega arith) h) refl
step_at-words nodes (steps.Hear i) few h = rw (range_at-decimal 0 (2 ^ 32) i [] (omega arith) (omega arith) h) refl
step_at-words nodes (steps.Take i) few h = rw (range_at-decimal 0 (2 ^ 32) i [] (omega arith) (omega arith) h) refl
step_at-words nodes (steps.Act n) few h = rw (range_at-decimal 0 nodes n [] (omega arith) (omega arith) h) refl
step_at-words nodes (steps.View set) few h =
    rw (nodes_after-nodes nodes None None [] 0 set few (record { low = none_below 0; rises = h.0; below = h.1; apart = λ k g. no_owner k set g; room = any_room _ })) refl

step_word_of-text : (k : StepWord) → (step_word_of (step_text k) ≡ Some k) × (bytes_eq (step_text k) (codes "end") ≡ false)
unfolding step_word_of step_text
step_word_of-text words.Pass = (refl, refl)
step_word_of-text words.Ask = (refl, refl)
step_word_of-text words.Hear = (refl, refl)
step_word_of-text words.Take = (refl, refl)
step_word_of-text words.Act = (refl, refl)
step_word_of-text words.View = (refl, refl)

-- a line with whole lines behind it
one_more : (s : State) (n : ℕ) (l : List (List ℕ)) (rest : Lines) → IsLine l → followed taken s n (parts_of (l ∷ rest)) ≡ line_followed (taken s l) n (parts_of rest) (λ t. followed taken t (suc n) (parts_of rest))
unfolding followed
one_more s n l [] is = rw (cut-words_text l is) refl
one_more s n l (k ∷ rest) is = rw (cut-words_text l is) refl

went_on : (s t : State) (n : ℕ) (l : List (List ℕ)) (rest : Lines) → IsLine l → taken s l ≡ Ok (false, t) → followed taken s n (parts_of (l ∷ rest)) ≡ followed taken t (suc n) (parts_of rest)
unfolding line_followed
went_on s t n l rest is e = one_more s n l rest is ∙ rw e refl

abbrev with_steps : ℕ → ℕ → ℕ → List LeaseStep → State
with_steps nodes term percent ss = record { stage = stages.Steps; nodes = nodes; length = term; percent = percent; steps = ss }

module _ (nodes term percent : ℕ) (few : nodes ≤ 8) where
  step_read : (before : List LeaseStep) (step : LeaseStep) → length before < 50000 → FitsStep nodes step → taken (with_steps nodes term percent before) (step_words step) ≡ Ok (false, with_steps nodes term percent (before ++ step ∷ []))
  unfolding line_taken word_at step_line_taken step_taken
  step_read before step room fits =
      let both = step_word_of-text (word_of_step step) in
      let none : (length before == 50000) ≡ false = ne_eqb (length before) 50000 (λ e. omega arith) in
      rw (step_words-parts step, both.1, both.0, none, step_at-words nodes step few fits) refl

  end_read : (ss : List LeaseStep) (n : ℕ) → followed taken (with_steps nodes term percent ss) n (parts_of (end_line ∷ [])) ≡ Ok (with_steps nodes term percent ss)
  unfolding line_followed line_taken word_at step_line_taken ended is_last
  end_read ss n = one_more (with_steps nodes term percent ss) n end_line [] end_is_line ∙ refl

  steps_read : (before rest : List LeaseStep) (n : ℕ) → length before + length rest ≤ 50000 → AllByRecursion (FitsStep nodes) rest
      → followed taken (with_steps nodes term percent before) n (parts_of (map step_words rest ++ end_line ∷ [])) ≡ Ok (with_steps nodes term percent (before ++ rest))
  steps_read before [] n room fits = end_read before n ∙ ap (λ (ss : List LeaseStep). Ok (with_steps nodes term percent ss)) (sym (append-nil before))
  steps_read before (step ∷ rest) n room fits =
      let here = step_read before step (omega arith) fits.0 in
      let longer : length (before ++ step ∷ []) ≡ length before + 1 = length-append before (step ∷ []) in
      went_on (with_steps nodes term percent before) (with_steps nodes term percent (before ++ step ∷ [])) n (step_words step) (map step_words rest ++ end_line ∷ []) (step_is_line nodes step few fits.0) here
      ∙ steps_read (before ++ step ∷ []) rest (suc n) (omega arith) fits.1
      ∙ ap (λ (ss : List LeaseStep). Ok (with_steps nodes term percent ss)) (append_assoc before (step ∷ []) rest)

-- the state after each of the first lines
abbrev at_stage : Stage → ℕ → ℕ → State
at_stage stage nodes term = record { stage = stage; nodes = nodes; length = term; percent = 0; steps = [] }

head_read : (nodes term percent : ℕ) (rest : Lines) → FitsNumbers nodes term percent
    → followed taken start 1 (parts_of (version_line ∷ number_line (codes "nodes") nodes ∷ number_line (codes "length") term ∷ number_line (codes "percent") percent ∷ rest)) ≡ followed taken (with_steps nodes term percent []) 5 (parts_of rest)
unfolding start line_taken version_after keyword_at word_at ended
head_read nodes term percent rest numbers =
    let first = number_after-line (codes "nodes") 1 9 nodes refl (omega (arith, numbers.few.1)) numbers.few.0 (omega (arith, numbers.few.1)) in
    let second = number_after-line (codes "length") 1 (2 ^ 32) term refl (omega (arith, numbers.long.1)) numbers.long.0 numbers.long.1 in
    let third = number_after-line (codes "percent") 0 101 percent refl (omega (arith, numbers.close)) (omega arith) (omega (arith, numbers.close)) in
    let nodes_is = number_is_line (codes "nodes") nodes (from_test (codes "nodes") refl) (omega (arith, numbers.few.1)) in
    let length_is = number_is_line (codes "length") term (from_test (codes "length") refl) (omega (arith, numbers.long.1)) in
    let percent_is = number_is_line (codes "percent") percent (from_test (codes "percent") refl) (omega (arith, numbers.close)) in
    went_on start (at_stage stages.Nodes 0 0) 1 version_line (number_line (codes "nodes") nodes ∷ number_line (codes "length") term ∷ number_line (codes "percent") percent ∷ rest) version_is_line refl
    ∙ went_on (at_stage stages.Nodes 0 0) (at_stage stages.Length nodes 0) 2 (number_line (codes "nodes") nodes) (number_line (codes "length") term ∷ number_line (codes "percent") percent ∷ rest) nodes_is (rw first refl)
    ∙ went_on (at_stage stages.Length nodes 0) (at_stage stages.Percent nodes term) 3 (number_line (codes "length") term) (number_line (codes "percent") percent ∷ rest) length_is (rw second refl)
    ∙ went_on (at_stage stages.Percent nodes term) (with_steps nodes term percent []) 4 (number_line (codes "percent") percent) rest percent_is (rw third refl)

whole_read : (t : State) → Whole t → followed taken start 1 (parts_of (all t)) ≡ Ok (with_steps t.nodes t.length t.percent t.steps)
unfolding script_lines script_of
whole_read t whole =
    head_read t.nodes t.length t.percent (map step_words t.steps ++ end_line ∷ []) whole.numbers
    ∙ steps_read t.nodes t.length t.percent whole.numbers.few.1 [] t.steps 5 (omega (arith, whole.few)) whole.steps

read : (t : State) → Whole t → followed taken start 1 (parts_of (all t)) ≡ Ok t
read t whole = whole_read t whole ∙ ap (λ (k : Stage). Ok (record { stage = k; nodes = t.nodes; length = t.length; percent = t.percent; steps = t.steps })) (sym whole.stage)

-- ---- a line that is not taken has a word to blame

version_blames : (ws : List (List ℕ)) → BlamesWord (version_after ws)
unfolding version_after
version_blames ws = then _ _ (keyword_blames _ ws) (λ a. then _ _ (keyword_blames _ a.1) (λ b. ended_blames b.1))

number_blames : (keyword : List ℕ) (lowest limit : ℕ) (ws : List (List ℕ)) → BlamesWord (number_after keyword lowest limit ws)
unfolding number_after
number_blames keyword lowest limit ws = then _ _ (keyword_blames keyword ws) (λ a. then _ _ (range_blames lowest limit a.1) (λ n. then _ _ (ended_blames n.1) (λ e. ok _)))

ticks_blame : (count : ℕ) (before : List ℕ) (ws : List (List ℕ)) → BlamesWord (ticks_after count before ws)
unfolding ticks_after
ticks_blame zero before ws = ok _
ticks_blame (suc count) before ws = then _ _ (range_blames 0 (2 ^ 32) ws) (λ t. ticks_blame count (before ++ t.0 ∷ []) t.1)

step_blames : (nodes : ℕ) (k : StepWord) (ws : List (List ℕ)) → BlamesWord (step_at nodes k ws)
unfolding step_at
step_blames nodes words.Pass ws = then _ _ (ticks_blame (suc nodes) [] ws) (λ ts. then _ _ (ended_blames ts.1) (λ e. ok _))
step_blames nodes words.Ask ws = then _ _ (range_blames 0 nodes ws) (λ n. then _ _ (ended_blames n.1) (λ e. ok _))
step_blames nodes words.Hear ws = then _ _ (range_blames 0 (2 ^ 32) ws) (λ n. then _ _ (ended_blames n.1) (λ e. ok _))
step_blames nodes words.Take ws = then _ _ (range_blames 0 (2 ^ 32) ws) (λ n. then _ _ (ended_blames n.1) (λ e. ok _))
step_blames nodes words.Act ws = then _ _ (range_blames 0 nodes ws) (λ n. then _ _ (ended_blames n.1) (λ e. ok _))
step_blames nodes words.View ws = then _ _ (nodes_blame nodes None None [] 0 ws) (λ ns. ok _)

step_line_blames : (s : State) (w : List ℕ) (ws : List (List ℕ)) → BlamesWord (step_line_taken s w ws)
unfolding step_line_taken step_taken IsOfWord
step_line_blames s w ws =
    either (bytes_eq w (codes "end")) _ _ (then _ _ (ended_blames ws) (λ e. ok _))
    (then _ _ (some (step_word_of w) kinds.Word tt) (λ k. either (length s.steps == 50000) _ _ (err kinds.Long tt) (then _ _ (step_blames s.nodes k ws) (λ t. ok _))))

line_blames : (s : State) (stage : Stage) (ws : List (List ℕ)) → BlamesWord (line_taken s stage ws)
unfolding line_taken
line_blames s stages.Version ws = then _ _ (version_blames ws) (λ e. ok _)
line_blames s stages.Nodes ws = then _ _ (number_blames (codes "nodes") 1 9 ws) (λ n. ok _)
line_blames s stages.Length ws = then _ _ (number_blames (codes "length") 1 (2 ^ 32) ws) (λ n. ok _)
line_blames s stages.Percent ws = then _ _ (number_blames (codes "percent") 0 101 ws) (λ n. ok _)
line_blames s stages.Steps ws = then _ _ (word_blames ws) (λ w. step_line_blames s w.0 w.1)

-- ---- texts

abbrev pub state_of_script : LeaseScript → State
state_of_script s = with_steps s.nodes s.length s.percent s.steps

-- the state of a script says that script
pub script_is : (s : LeaseScript) → script_of (state_of_script s) ≡ s
unfolding script_of
script_is s = refl

-- if a script fits, then the state with its numbers and steps is a whole one
pub script_whole : (s : LeaseScript) → FitsScript s → Whole (state_of_script s)
script_whole s fits = record { stage = refl; numbers = fits.numbers; steps = recursion_from_All (FitsStep s.nodes) s.steps fits.steps; few = fits.few_steps }

-- if a state is a whole script, then its script fits
pub whole_script : (t : State) → Whole t → FitsScript (script_of t)
unfolding script_of
whole_script t whole = record { numbers = whole.numbers; steps = All-from_recursion (FitsStep t.nodes) t.steps whole.steps; few_steps = whole.few }

is_text : (bytes : List ℕ) → IsTextOf Whole all bytes → IsScriptText bytes
unfolding spelling
is_text bytes text = record { script = script_of text.whole; fits = whole_script text.whole text.is; spelled = text.spelled }

of_text : (bytes : List ℕ) → IsScriptText bytes → IsTextOf Whole all bytes
unfolding spelling
of_text bytes text = record {
  whole = state_of_script text.script;
  is = script_whole text.script text.fits;
  spelled = text.spelled ∙ ap (λ (s : LeaseScript). lines_text (script_lines s)) (sym (script_is text.script));
}

start_fits : Fits start
unfolding start FitsAt
start_fits = refl

-- before the first line no line was read
pub no_lines : lines start ≡ []
unfolding start lines_at
no_lines = refl

-- scripts of leases are a language of lines
pub leases : Language Fits Whole lines all taken start IsScriptText
leases = record {
  starts = start_fits;
  no_lines = no_lines;
  goes = goes;
  completes = completes;
  are = are;
  read = read;
  blames = λ s ws. line_blames s s.stage ws;
  is_text = is_text;
  of_text = of_text;
}
