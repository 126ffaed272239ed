-- The lines of a report and of an input, one by one, and words to the end of a line.
use Rattle.std.proofs.Common.{◌≡◌, ℕ, suc, ◌+◌, ◌<◌, ◌≤◌, true, false, List, [], ◌∷◌, length, refl, sym, ap, ◌∙◌, arith, length-append, Bor}
use Rattle.std.specs.Prelude.{Result, Ok, Err, Option, Some, None, MatchOption, codes, take, drop}
use Rattle.std.specs.Str.{bytes_eq}
use Rattle.zeus_base.specs.declared.value.Value.{Value}
use Rattle.zeus_model.specs.declared.fault.Kind.{Kind}
use Rattle.zeus_model.specs.declared.fault.Kind.TheVariants.{Number}
use Rattle.zeus_model.specs.declared.script.Script.{Script}
use Rattle.script_lang.specs.Cut.{joined}
use Rattle.script_lang.specs.Numbers.{number_of, number_at}
use Rattle.script_lang.specs.Reads.{◌>>=◌, or_fault, word_at}
use Rattle.script_lang.specs.Values.{value_of, value_at}
use Rattle.zeus_audit.specs.Auditing.{Failing, is_end, ended, line_done, lines_taken, verdict_of}
use Rattle.zeus_audit.specs.Inputs.{script_length}
use Rattle.zeus_audit.specs.Progress.{State}
use Rattle.zeus_audit.specs.Rules.{line_taken}
use Rattle.zeus_audit.specs.Shapes.{values_at, numbers_at}
use Rattle.zeus_audit.specs.Texts.{behind, IsBehind}
use Rattle.zeus_audit.specs.declared.verdict.Rule.{Rule}
use Rattle.zeus_audit.specs.declared.verdict.Rule.TheVariants as rules
use Rattle.zeus_audit.specs.declared.verdict.Verdict.TheVariants as verdicts

-- ---- words to the end of the line

abbrev words_left : {A : Type 0} → Result (A × List (List ℕ)) Kind → List (List ℕ)
words_left (Ok p) = p.1
words_left (Err k) = []

passed_on : {A : Type 0} (r : Result A Kind) (ws rest : List (List ℕ)) (x : A) (f : List (List ℕ) → Result (Unit {0}) Kind) → ◌>>=◌ {B = A × List (List ℕ)} r (λ v. Ok (v, ws)) ≡ Ok (x, rest) → (◌>>=◌ {B = A × List (List ℕ)} r (λ v. Ok (v, ws)) >>= λ v. f ws) ≡ f rest
passed_on (Ok y) ws rest x f is = let same : ws ≡ rest = ap words_left is in ap f same
passed_on (Err k) ws rest x f is = absurd cc

fewer : {A : Type 0} (r : Result A Kind) (ws rest : List (List ℕ)) (x : A) → ◌>>=◌ {B = A × List (List ℕ)} r (λ v. Ok (v, ws)) ≡ Ok (x, rest) → length rest < suc (length ws)
fewer (Ok y) ws rest x is = let same : ws ≡ rest = ap words_left is in omega (arith, ap length same)
fewer (Err k) ws rest x is = absurd cc

-- a value more
pub values_more : (version : ℕ) (ws rest : List (List ℕ)) (v : Value) → value_at version ws ≡ Ok (v, rest) → values_at version ws ≡ values_at version rest
unfolding values_at value_at word_at
values_more version [] rest v is = absurd cc
values_more version (w ∷ ws) rest v is = passed_on (value_of version w) ws rest v (values_at version) is

-- if a value was read, then fewer words are left
pub values_fewer : (version : ℕ) (ws rest : List (List ℕ)) (v : Value) → value_at version ws ≡ Ok (v, rest) → length rest < length ws
unfolding value_at word_at
values_fewer version [] rest v is = absurd cc
values_fewer version (w ∷ ws) rest v is = fewer (value_of version w) ws rest v is

-- if the next value cannot be read and a word is left, then the values cannot be read either
pub values_fail : (version : ℕ) (ws : List (List ℕ)) (k : Kind) → value_at version ws ≡ Err k → (ws ≡ [] → ⊥) → values_at version ws ≡ Err k
unfolding values_at
values_fail version [] k is some = absurd (some refl)
values_fail version (w ∷ ws) k is some = rw is refl

-- if no word is left, then all values were read
pub values_end : (version : ℕ) (ws : List (List ℕ)) → ws ≡ [] → values_at version ws ≡ Ok tt
unfolding values_at
values_end version [] is = refl
values_end version (w ∷ ws) is = absurd cc

-- a number more
pub numbers_more : (ws rest : List (List ℕ)) (n : ℕ) → number_at ws ≡ Ok (n, rest) → numbers_at ws ≡ numbers_at rest
unfolding numbers_at number_at word_at
numbers_more [] rest n is = absurd cc
numbers_more (w ∷ ws) rest n is = passed_on (or_fault (number_of w) Number) ws rest n numbers_at is

-- if a number was read, then fewer words are left
pub numbers_fewer : (ws rest : List (List ℕ)) (n : ℕ) → number_at ws ≡ Ok (n, rest) → length rest < length ws
unfolding number_at word_at
numbers_fewer [] rest n is = absurd cc
numbers_fewer (w ∷ ws) rest n is = fewer (or_fault (number_of w) Number) ws rest n is

-- if the next number cannot be read and a word is left, then the numbers cannot be read either
pub numbers_fail : (ws : List (List ℕ)) (k : Kind) → number_at ws ≡ Err k → (ws ≡ [] → ⊥) → numbers_at ws ≡ Err k
unfolding numbers_at
numbers_fail [] k is some = absurd (some refl)
numbers_fail (w ∷ ws) k is some = rw is refl

-- if no word is left, then all numbers were read
pub numbers_end : (ws : List (List ℕ)) → ws ≡ [] → numbers_at ws ≡ Ok tt
unfolding numbers_at
numbers_end [] is = refl
numbers_end (w ∷ ws) is = absurd cc

-- ---- what is behind a prefix

-- what std's strip_prefix gives of a line is what stands behind the prefix, if it begins with it
pub stripped : (o : Option (Bor (List ℕ))) (prefix line : List ℕ)
    → MatchOption o (bytes_eq (take (length prefix) line) prefix ≡ false) (λ x. (bytes_eq (take (length prefix) line) prefix ≡ true) × (x.now ≡ drop (length prefix) line) × (length x.now + length prefix ≡ length line))
    → IsBehind o (behind prefix line)
unfolding behind
stripped None prefix line h = rw h refl
stripped (Some x) prefix line h = rw h.0 (ap (λ (l : List ℕ). Some l) (sym h.1))

-- ---- the lines of a report

-- a line more
pub line_more : (s : Script) (st after : State) (n : ℕ) (p : List ℕ) (rest : List (List ℕ)) → (rest ≡ [] → ⊥) → line_taken s st p ≡ Ok after → lines_taken s st n (p ∷ rest) ≡ lines_taken s after (suc n) rest
unfolding lines_taken line_done
line_more s st after n p [] some is = absurd (some refl)
line_more s st after n p (q ∷ ps) some is = rw is refl

-- if a line that is not the last one breaks a rule, then the report fails at it by this rule
pub line_fails : (s : Script) (st : State) (n : ℕ) (p : List ℕ) (rest : List (List ℕ)) (rule : Rule) → (rest ≡ [] → ⊥) → line_taken s st p ≡ Err rule → lines_taken s st n (p ∷ rest) ≡ Err record { line = n; rule = rule }
unfolding lines_taken line_done
line_fails s st n p [] rule some is = absurd (some refl)
line_fails s st n p (q ∷ ps) rule some is = rw is refl

-- if the last line is the end, then the report is taken
pub line_ended : (s : Script) (st : State) (n : ℕ) (p : List ℕ) (rest : List (List ℕ)) → rest ≡ [] → is_end st.stage p ≡ true → lines_taken s st n (p ∷ rest) ≡ Ok st
unfolding lines_taken ended
line_ended s st n p [] none is = rw is refl
line_ended s st n p (q ∷ ps) none is = absurd cc

-- if the last line is not the end, then the report fails at it by its form
pub line_not_ended : (s : Script) (st : State) (n : ℕ) (p : List ℕ) (rest : List (List ℕ)) → rest ≡ [] → is_end st.stage p ≡ false → lines_taken s st n (p ∷ rest) ≡ Err record { line = n; rule = rules.Form }
unfolding lines_taken ended
line_not_ended s st n p [] none is = rw is refl
line_not_ended s st n p (q ∷ ps) none is = absurd cc

-- if no line is left, then the report fails there by its form
pub line_wanting : (s : Script) (st : State) (n : ℕ) (parts : List (List ℕ)) → parts ≡ [] → lines_taken s st n parts ≡ Err record { line = n; rule = rules.Form }
unfolding lines_taken ended
line_wanting s st n [] none = refl
line_wanting s st n (p ∷ ps) none = absurd cc

-- ---- the same, of lines whose verdict is known

-- behind the line `end` nothing stands
pub told_end : (s : Script) (st : State) (n : ℕ) (lines : List (List ℕ)) (all : Result State Failing) (p : List ℕ) (rest : List (List ℕ)) → lines_taken s st n lines ≡ all → lines ≡ p ∷ rest → rest ≡ [] → is_end st.stage p ≡ true → verdicts.Sound ≡ verdict_of all
unfolding verdict_of
told_end s st n lines all p rest total is none end =
    let e : all ≡ Ok st = sym total ∙ (ap (lines_taken s st n) is ∙ line_ended s st n p rest none end) in
    rw e refl

-- the last part is no line
pub told_form : (s : Script) (st : State) (n : ℕ) (lines : List (List ℕ)) (all : Result State Failing) (p : List ℕ) (rest : List (List ℕ)) → lines_taken s st n lines ≡ all → lines ≡ p ∷ rest → rest ≡ [] → is_end st.stage p ≡ false → verdicts.Fails n rules.Form ≡ verdict_of all
unfolding verdict_of
told_form s st n lines all p rest total is none end =
    let e : all ≡ Err record { line = n; rule = rules.Form } = sym total ∙ (ap (lines_taken s st n) is ∙ line_not_ended s st n p rest none end) in
    rw e refl

-- the line breaks a rule
pub told_fail : (s : Script) (st : State) (n : ℕ) (lines : List (List ℕ)) (all : Result State Failing) (p : List ℕ) (rest : List (List ℕ)) (rule : Rule) → lines_taken s st n lines ≡ all → lines ≡ p ∷ rest → (rest ≡ [] → ⊥) → line_taken s st p ≡ Err rule → verdicts.Fails n rule ≡ verdict_of all
unfolding verdict_of
told_fail s st n lines all p rest rule total is some taken =
    let e : all ≡ Err record { line = n; rule = rule } = sym total ∙ (ap (lines_taken s st n) is ∙ line_fails s st n p rest rule some taken) in
    rw e refl

-- the line is taken
pub told_more : (s : Script) (st : State) (n : ℕ) (lines : List (List ℕ)) (all : Result State Failing) (p : List ℕ) (rest : List (List ℕ)) (after : State) → lines_taken s st n lines ≡ all → lines ≡ p ∷ rest → (rest ≡ [] → ⊥) → line_taken s st p ≡ Ok after → lines_taken s after (suc n) rest ≡ all
told_more s st n lines all p rest after total is some taken =
    sym (line_more s st after n p rest some taken) ∙ (ap (lines_taken s st n) (sym is) ∙ total)

-- no line is left
pub told_none : (s : Script) (st : State) (n : ℕ) (lines : List (List ℕ)) (all : Result State Failing) → lines_taken s st n lines ≡ all → lines ≡ [] → verdicts.Fails n rules.Form ≡ verdict_of all
unfolding verdict_of
told_none s st n lines all total none =
    let e : all ≡ Err record { line = n; rule = rules.Form } = sym total ∙ line_wanting s st n lines none in
    rw e refl

-- ---- the lines of an input

-- the length of a script whose one line is left is that of the line
pub script_last : (p : List ℕ) (rest : List (List ℕ)) → rest ≡ [] → script_length (p ∷ rest) ≡ length p
unfolding script_length
script_last p [] none = refl
script_last p (q ∷ ps) none = absurd cc

-- if the line is `end` and more lines follow, then the script ends with it
pub script_ends : (p : List ℕ) (rest : List (List ℕ)) → (rest ≡ [] → ⊥) → bytes_eq p (codes "end") ≡ true → script_length (p ∷ rest) ≡ suc (length p)
unfolding script_length
script_ends p [] some is = absurd (some refl)
script_ends p (q ∷ ps) some is = rw is refl

-- if the line is not `end` and more lines follow, then the script goes on behind it
pub script_more : (p : List ℕ) (rest : List (List ℕ)) → (rest ≡ [] → ⊥) → bytes_eq p (codes "end") ≡ false → script_length (p ∷ rest) ≡ suc (length p) + script_length rest
unfolding script_length
script_more p [] some is = absurd (some refl)
script_more p (q ∷ ps) some is = rw is refl

-- if no line is left, then nothing of the script is left
pub script_none : (parts : List (List ℕ)) → parts ≡ [] → script_length parts ≡ 0
unfolding script_length
script_none [] none = refl
script_none (p ∷ ps) none = absurd cc

-- if more lines follow, then lines joined are as long as the head line, a line end, and the others joined
pub length-joined : (p : List ℕ) (rest : List (List ℕ)) → (rest ≡ [] → ⊥) → length (joined 10 (p ∷ rest)) ≡ length p + suc (length (joined 10 rest))
unfolding joined
length-joined p [] some = absurd (some refl)
length-joined p (q ∷ ps) some = length-append p (10 ∷ joined 10 (q ∷ ps))

-- lines joined are not shorter than their head line
pub joined_least : (p : List ℕ) (rest : List (List ℕ)) → length p ≤ length (joined 10 (p ∷ rest))
unfolding joined
joined_least p [] = omega arith
joined_least p (q ∷ ps) = omega (arith, length-append p (10 ∷ joined 10 (q ∷ ps)))

-- a single line joined is as long as the line
pub length-joined_last : (p : List ℕ) (rest : List (List ℕ)) → rest ≡ [] → length (joined 10 (p ∷ rest)) ≡ length p
unfolding joined
length-joined_last p [] none = refl
length-joined_last p (q ∷ ps) none = absurd cc
