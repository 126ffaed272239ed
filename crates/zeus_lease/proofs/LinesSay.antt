-- What the lines that were read say, and that a fault of a word is that of the first word that does not fit.
use Rattle.std.proofs.Common.{◌≡◌, ℕ, suc, ◌+◌, ◌-◌, ◌<◌, ◌^◌, true, List, [], ◌∷◌, ◌++◌, length, take, Err, refl, sym, ap, ◌∙◌, arith}
use Rattle.std.specs.Prelude.{codes, map}
use Rattle.zeus_model.specs.Faults.{IsOfWord, lines_of}
use Rattle.zeus_model.specs.Places.{first_word, last_line, beginning, under}
use Rattle.zeus_model.specs.Tables.{nth}
use Rattle.zeus_model.specs.Words.{is_among}
use Rattle.zeus_model.specs.declared.fault.Kind.{Kind}
use Rattle.zeus_model.specs.declared.fault.ScriptFault.{ScriptFault}
use Rattle.script_lang.specs.Cut.{cut}
use Rattle.script_lang.specs.Following.{followed}
use Rattle.script_lang.proofs.faults.FirstWord.{Found, found, tells_fault}
use Rattle.script_lang.proofs.rows.LineRows.{Any}
use Rattle.script_lang.proofs.rows.RowLaws.{number_in-decimal}
use Rattle.zeus_lease.specs.declared.draft.Stage.{Stage}
use Rattle.zeus_lease.specs.declared.draft.Stage.TheVariants as stages
use Rattle.zeus_lease.specs.declared.step.LeaseStep.{LeaseStep}
use Rattle.zeus_lease.specs.declared.step.LeaseStep.TheVariants as steps
use Rattle.zeus_lease.specs.Faults.{IsScriptText, IsWordFault}
use Rattle.zeus_lease.specs.Places.{Said, step_keywords, order, said}
use Rattle.zeus_lease.specs.Reading.{State, start, taken}
use Rattle.zeus_lease.specs.Scripts.{number_line, step_words}
use Rattle.zeus_lease.proofs.Followed.{taken_fault, where_wanted}
use Rattle.zeus_lease.proofs.Language.{Lines}
use Rattle.zeus_lease.proofs.LineFits.{Whole, FitsAt, Fits, version_line, head_lines, lines_at, lines, all}
use Rattle.zeus_lease.proofs.LineRows.{line_rows, line_told, words_at}
use Rattle.zeus_lease.proofs.LinesRead.{leases, no_lines}

-- the words that may stand behind a line
abbrev words_behind : List (List ℕ) → List (List ℕ)
words_behind l = under (codes "end" ∷ step_keywords) (first_word l) order

step_behind : (s : LeaseStep) → words_behind (step_words s) ≡ codes "end" ∷ step_keywords
unfolding under order step_words nth
step_behind (steps.Pass ts) = refl
step_behind (steps.Ask n) = refl
step_behind (steps.Hear i) = refl
step_behind (steps.Take i) = refl
step_behind (steps.Act n) = refl
step_behind (steps.View set) = refl

step_begins : (s : LeaseStep) → is_among (first_word (step_words s)) step_keywords ≡ true
unfolding is_among step_words nth
step_begins (steps.Pass ts) = refl
step_begins (steps.Ask n) = refl
step_begins (steps.Hear i) = refl
step_begins (steps.Take i) = refl
step_begins (steps.Act n) = refl
step_begins (steps.View set) = refl

-- behind a line that a step may follow, and behind steps, may stand a step or `end`
last_behind : (l : List (List ℕ)) (ss : List LeaseStep) → words_behind l ≡ codes "end" ∷ step_keywords → words_behind (last_line (l ∷ map step_words ss)) ≡ codes "end" ∷ step_keywords
unfolding last_line
last_behind l [] is = is
last_behind l (s ∷ ss) is = last_behind (step_words s) ss (step_behind s)

count_steps : (ss : List LeaseStep) → length (beginning step_keywords (map step_words ss)) ≡ length ss
unfolding beginning
count_steps [] = refl
count_steps (s ∷ ss) = rw (step_begins s) (ap suc (count_steps ss))

percent_behind : (n : ℕ) → words_behind (number_line (codes "percent") n) ≡ codes "end" ∷ step_keywords
unfolding under order nth
percent_behind n = refl

-- what the lines of a state say
record Says (s : State) (stage : Stage) (d : Said) : Type 0 where
  next : d.next ≡ words_at stage
  counts : stage ≡ stages.Steps → (d.nodes ≡ s.nodes) × (d.steps ≡ length s.steps)

steps_next : (s : State) → (said (head_lines s ++ map step_words s.steps)).next ≡ words_at stages.Steps
unfolding said last_line words_at
steps_next s = last_behind (number_line (codes "percent") s.percent) s.steps (percent_behind s.percent)

steps_nodes : (s : State) → s.nodes < 2 ^ 64 → (said (head_lines s ++ map step_words s.steps)).nodes ≡ s.nodes
unfolding said nth
steps_nodes s lt = number_in-decimal s.nodes lt

steps_count : (s : State) → (said (head_lines s ++ map step_words s.steps)).steps ≡ length s.steps
unfolding said beginning is_among nth
steps_count s = count_steps s.steps

version_next : (said []).next ≡ words_at stages.Version
unfolding said last_line under order words_at nth
version_next = refl

nodes_next : (said (version_line ∷ [])).next ≡ words_at stages.Nodes
unfolding said last_line under order words_at nth
nodes_next = refl

length_next : (n : ℕ) → (said (version_line ∷ number_line (codes "nodes") n ∷ [])).next ≡ words_at stages.Length
unfolding said last_line under order words_at nth
length_next n = refl

percent_next : (n term : ℕ) → (said (version_line ∷ number_line (codes "nodes") n ∷ number_line (codes "length") term ∷ [])).next ≡ words_at stages.Percent
unfolding said last_line under order words_at nth
percent_next n term = refl

says_at : (s : State) (stage : Stage) → FitsAt stage s → Says s stage (said (lines_at stage s))
unfolding lines_at FitsAt
says_at s stages.Version fits = record { next = version_next; counts = λ e. absurd cc }
says_at s stages.Nodes fits = record { next = nodes_next; counts = λ e. absurd cc }
says_at s stages.Length fits = record { next = length_next s.nodes; counts = λ e. absurd cc }
says_at s stages.Percent fits = record { next = percent_next s.nodes s.length; counts = λ e. absurd cc }
says_at s stages.Steps fits = record { next = steps_next s; counts = λ e. (steps_nodes s (omega (arith, fits.numbers.few.1)), steps_count s) }

-- ---- the line of a fault

take_front : {A : Type 0} (xs : List A) (x : A) (ys : List A) → take (length xs) (xs ++ x ∷ ys) ≡ xs
take_front [] x ys = refl
take_front (y ∷ xs) x ys = ap (λ l. y ∷ l) (take_front xs x ys)

nth_front : (xs : Lines) (x : List (List ℕ)) (ys : Lines) → nth [] (xs ++ x ∷ ys) (length xs) ≡ x
unfolding nth
nth_front [] x ys = refl
nth_front (y ∷ xs) x ys = nth_front xs x ys

map-both : (xs ys : List (List ℕ)) → map (cut 32) (xs ++ ys) ≡ map (cut 32) xs ++ map (cut 32) ys
map-both [] ys = refl
map-both (x ∷ xs) ys = ap (λ (ls : Lines). cut 32 x ∷ ls) (map-both xs ys)

length-map : (xs : List (List ℕ)) → length (map (cut 32) xs) ≡ length xs
length-map [] = refl
length-map (x ∷ xs) = ap suc (length-map xs)

-- the word that reading blames is the first that does not fit
faulty : (s : State) (ws : List (List ℕ)) (k : Kind) → Fits s → taken s ws ≡ Err k → Found (line_rows (said (lines s))) ws k
faulty s ws k fits e =
    let says = says_at s s.stage fits in
    let told = line_told (said (lines s)) s s.stage ws says.next says.counts in
    found (line_rows (said (lines s))) ws k (tells_fault _ _ Any k told e)

word_fault_at : (bytes : List ℕ) (n : ℕ) (kind : Kind) (front : List (List ℕ)) (last : List ℕ) (others : List (List ℕ)) (s : State) → cut 10 bytes ≡ front ++ last ∷ others → length front + 1 ≡ n → lines s ≡ map (cut 32) front
    → Found (line_rows (said (lines s))) (cut 32 last) kind → IsWordFault bytes n kind
word_fault_at bytes n kind front last others s is at said_so f =
    let place : n - 1 ≡ length (map (cut 32) front) = omega (arith, at, length-map front) in
    let cut_so : lines_of bytes ≡ map (cut 32) front ++ cut 32 last ∷ map (cut 32) others = ap (map (cut 32)) is ∙ map-both front (last ∷ others) in
    let before : take (n - 1) (lines_of bytes) ≡ lines s = rw (place, cut_so) (take_front (map (cut 32) front) (cut 32 last) (map (cut 32) others)) ∙ sym said_so in
    let line : nth [] (lines_of bytes) (n - 1) ≡ cut 32 last = rw (place, cut_so) (nth_front (map (cut 32) front) (cut 32 last) (map (cut 32) others)) in
    record {
      index = f.index;
      word = rw (before, line) (record { fit = f.fit; faulty = f.faulty });
    }

-- if reading lines fails with a fault of a word, then that is the first word that does not fit
pub word_fault : (bytes : List ℕ) (f : ScriptFault) → followed taken start 1 (cut 10 bytes) ≡ Err f → IsOfWord f.kind → IsWordFault bytes f.line f.kind
word_fault bytes f h word =
    let w = where_wanted Fits Whole lines all taken start IsScriptText leases bytes f h word in
    let blamed = taken_fault taken w.there w.last w.others f.kind w.kind word in
    let said_so : lines w.there ≡ map (cut 32) w.front = w.said ∙ ap (λ (ls : Lines). ls ++ map (cut 32) w.front) no_lines in
    word_fault_at bytes f.line f.kind w.front w.last w.others w.there w.cut_so w.at said_so (faulty w.there (cut 32 w.last) f.kind w.fits blamed)
