-- A fault of a word is that of the first word of its line that does not fit, and its kind the first row that this word meets.
use Rattle.std.proofs.Common.{◌≡◌, ℕ, suc, ◌+◌, ◌-◌, Bool, true, false, cond, List, [], ◌∷◌, ◌++◌, length, take, Option, Some, Result, Ok, Err, refl, sym, ap, ◌∙◌, arith, append_assoc, append-nil, subst}
use Rattle.std.specs.Prelude.{codes, map, ◌==◌}
use Rattle.std.proofs.lemmas.Bool.{ne_eqb}
use Rattle.zeus_model.specs.Faults.{IsFaultyWord, lines_of, IsWordFault, IsOfWord}
use Rattle.zeus_model.specs.Places.{Said, first_word, second_word, last_line, beginning, step_keywords, under, order, said}
use Rattle.zeus_model.specs.Spelling.{step_words}
use Rattle.zeus_model.specs.Tables.{nth}
use Rattle.zeus_model.specs.Words.{is_among, number_in}
use Rattle.zeus_model.specs.declared.fault.Kind.{Kind}
use Rattle.zeus_model.specs.declared.fault.Kind.TheVariants as kinds
use Rattle.zeus_model.specs.declared.fault.ScriptFault.{ScriptFault}
use Rattle.script_lang.specs.declared.stage.Stage.{Stage}
use Rattle.script_lang.specs.declared.stage.Stage.TheVariants as stages
use Rattle.script_lang.specs.Cut.{cut}
use Rattle.script_lang.specs.Drafts.{State, body_taken, line_taken}
use Rattle.script_lang.specs.Live.{opening}
use Rattle.script_lang.specs.Reading.{start, fault_at, is_last, unended, line_done, lines_taken}
use Rattle.script_lang.specs.Reads.{◌>>=◌, word_at}
use Rattle.script_lang.proofs.rows.BodyRows.{more_told, tx_line_told, object_line_told, degree_line_told, step_line_told}
use Rattle.script_lang.proofs.BodySound.{Goes, line_taken-sound}
use Rattle.script_lang.proofs.DraftFits.{HasVersion, HasNodes, HasSlots, HeadFits, BodyFits, Fits, declared_lines, lines_at, Adds}
use Rattle.script_lang.proofs.faults.FaultReached.{kind_there}
use Rattle.script_lang.proofs.faults.FaultShared.{failed, at_line}
use Rattle.script_lang.proofs.faults.FirstWord.{first_fault, found, Tells, tells_bind, tells_fault, word_first}
use Rattle.script_lang.proofs.faults.LineOrder.{words_at, words_behind, FollowsMore, last_line-more, line_follows}
use Rattle.script_lang.proofs.rows.LineRows.{all_forms, line_rows, Any, said_of, version_told, nodes_told, slots_told, directory_told}
use Rattle.script_lang.proofs.faults.LinesSaid.{beginning-all, beginning-none, no_object_step, no_tx_step, a_step, length-map, declared_said}
use Rattle.script_lang.proofs.ReadSound.{start_fits, no_lines}
use Rattle.script_lang.proofs.rows.RowLaws.{number_in-decimal}
use Rattle.script_lang.proofs.Sound.{read_is}

-- ---- what the lines so far say

module _ (live : Bool) (s : State) (words : List (List ℕ)) (ls tail : List (List (List ℕ))) (is : ls ≡ declared_lines s ++ tail) (next : words_behind live (first_word (last_line ls)) ≡ words) where
  said_is : HasVersion s.head → HasNodes s.head → HasSlots s.head → length s.names ≡ length s.objects
      → beginning (codes "object" ∷ []) tail ≡ [] → beginning (codes "tx" ∷ []) tail ≡ [] → length (beginning step_keywords tail) ≡ length s.steps
      → said (opening live) ls ≡ said_of words s
  said_is version nodes slots count objects txs steps =
      ap (said (opening live)) is
      ∙ declared_said s live words tail (rw is at next) (omega (arith, version.1)) (omega (arith, nodes.1)) (omega (arith, slots.1)) count objects txs steps

-- before `run`
said_plain : (live : Bool) (s : State) (words : List (List ℕ)) (ls : List (List (List ℕ))) → ls ≡ declared_lines s → words_behind live (first_word (last_line ls)) ≡ words → HasVersion s.head → HasNodes s.head → HasSlots s.head
    → length s.names ≡ length s.objects → s.steps ≡ [] → said (opening live) ls ≡ said_of words s
unfolding beginning
said_plain live s words ls is next version nodes slots count none =
    said_is live s words ls [] (is ∙ sym (append-nil (declared_lines s))) next version nodes slots count refl refl (rw none refl)

-- behind `run`
said_running : (live : Bool) (s : State) (words : List (List ℕ)) (ls : List (List (List ℕ))) → ls ≡ lines_at stages.Steps s → words_behind live (first_word (last_line ls)) ≡ words → HasVersion s.head → HasNodes s.head → HasSlots s.head
    → length s.names ≡ length s.objects → said (opening live) ls ≡ said_of words s
unfolding lines_at beginning is_among nth
said_running live s words ls is next version nodes slots count =
    let steps : length (beginning step_keywords (map step_words s.steps)) ≡ length s.steps = rw (beginning-all step_keywords step_words s.steps a_step) (length-map step_words s.steps) in
    said_is live s words ls ((codes "run" ∷ []) ∷ map step_words s.steps) (is ∙ append_assoc (declared_lines s) ((codes "run" ∷ []) ∷ []) (map step_words s.steps)) next version nodes slots count
    (beginning-none (codes "object" ∷ []) step_words s.steps no_object_step) (beginning-none (codes "tx" ∷ []) step_words s.steps no_tx_step) steps

-- ---- one line

module _ (live : Bool) (s : State) (ls : List (List (List ℕ))) (ws : List (List ℕ)) (T : Option Kind) (so : first_fault (line_rows (opening live) (said (opening live) ls)) ws ≡ T) where
  -- a line of the body, of its first word and the others
  body_told : (stage : Stage) (words : List (List ℕ)) → said (opening live) ls ≡ said_of words s
      → ((w : List ℕ) (rest : List (List ℕ)) → first_fault (line_rows (opening live) (said_of words s)) (w ∷ rest) ≡ T → Tells T (body_taken live s stage w rest) Any)
      → Tells T (word_at ws >>= λ w. body_taken live s stage w.0 w.1) Any
  unfolding all_forms
  body_told stage words is h =
      let there : first_fault (line_rows (opening live) (said_of words s)) ws ≡ T = ap (λ (d : Said). first_fault (line_rows (opening live) d) ws) (sym is) ∙ so in
      tells_bind T _ _ _ (word_first (line_rows (opening live) (said_of words s)) T ws there refl) (λ w p. h w.0 w.1 p)

  few_steps : length s.steps ≡ 0 → (length s.steps == 50000) ≡ false
  few_steps none = ne_eqb (length s.steps) 50000 (λ e. omega (arith, none, e))

  line_told : (stage : Stage) → Fits live stage s → ls ≡ lines_at stage s → words_behind live (first_word (last_line ls)) ≡ words_at stage s → Tells T (line_taken live s stage ws) Any
  unfolding line_taken body_taken words_at lines_at said HeadFits BodyFits nth
  line_told stages.Version fits is next = more_told T _ (version_told live (said (opening live) ls) s ws T so next)
  line_told stages.Nodes fits is next = more_told T _ (nodes_told live (said (opening live) ls) s ws T so next)
  line_told stages.Slots fits is next = more_told T _ (slots_told live (said (opening live) ls) s ws T so next)
  line_told stages.Directory fits is next =
      let nodes : (said (opening live) ls).nodes ≡ s.head.nodes = ap (λ (ks : List (List (List ℕ))). number_in (second_word (nth [] ks 1))) is ∙ number_in-decimal s.head.nodes (omega (arith, fits.head.1.1)) in
      more_told T _ (directory_told live (said (opening live) ls) s ws T so next nodes fits.head.1.0)
  line_told stages.Degree fits is next =
      let none : length s.objects ≡ 0 = ap length fits.body.objects in
      let count : length s.names ≡ length s.objects = ap length fits.body.names ∙ sym none in
      body_told stages.Degree (words_at stages.Degree s) (said_plain live s (words_at stages.Degree s) ls is next fits.head.0 fits.head.1 fits.head.2 count fits.body.steps)
      (λ w rest there. more_told T _ (degree_line_told live (words_at stages.Degree s) s T w rest there refl (ap (λ (n : ℕ). n == 0) none)))
  line_told stages.Objects fits is next =
      body_told stages.Objects (words_at stages.Objects s) (said_plain live s (words_at stages.Objects s) ls is next fits.head.0 fits.head.1 fits.head.2 fits.body.0.count fits.body.2)
      (λ w rest there. more_told T _ (object_line_told live (words_at stages.Objects s) s T w rest there refl))
  line_told stages.Txs fits is next =
      body_told stages.Txs (words_at stages.Txs s) (said_plain live s (words_at stages.Txs s) ls is next fits.head.0 fits.head.1 fits.head.2 fits.body.0.count fits.body.2)
      (λ w rest there. more_told T _ (tx_line_told live (words_at stages.Txs s) s T w rest there refl))
  line_told stages.Steps fits is next =
      body_told stages.Steps (words_at stages.Steps s) (said_running live s (words_at stages.Steps s) ls is next fits.head.0 fits.head.1 fits.head.2 fits.body.0.count)
      (λ w rest there. step_line_told live (words_at stages.Steps s) s T w rest there refl (λ h. few_steps (ap length (fits.body.2.live_none h))))

-- ---- all lines

-- the fault lies in a line behind these, and in its first word that does not fit
record Lies (live : Bool) (ls : List (List (List ℕ))) (parts : List (List ℕ)) (n : ℕ) (f : ScriptFault) : Type 0 where
  count : ℕ
  at : count + n ≡ f.line
  word : first_fault (line_rows (opening live) (said (opening live) (ls ++ take count (map (cut 32) parts)))) (nth [] (map (cut 32) parts) count) ≡ Some f.kind

no_unended : (p : List ℕ) → IsOfWord (unended p) → ⊥
unfolding unended IsOfWord
no_unended [] h = h
no_unended (b ∷ bs) h = h

lies_here : (live : Bool) (ls : List (List (List ℕ))) (p : List ℕ) (ps : List (List ℕ)) (n : ℕ) (f : ScriptFault) → n ≡ f.line → first_fault (line_rows (opening live) (said (opening live) ls)) (cut 32 p) ≡ Some f.kind → Lies live ls (p ∷ ps) n f
unfolding nth
lies_here live ls p ps n f at word = record {
  count = 0;
  at = omega (arith, at);
  word = ap (λ (ks : List (List (List ℕ))). first_fault (line_rows (opening live) (said (opening live) ks)) (cut 32 p)) (append-nil ls) ∙ word;
}

lies_later : (live : Bool) (ls : List (List (List ℕ))) (p : List ℕ) (ps : List (List ℕ)) (n : ℕ) (f : ScriptFault) → Lies live (ls ++ cut 32 p ∷ []) ps (suc n) f → Lies live ls (p ∷ ps) n f
unfolding nth
lies_later live ls p ps n f lies = record {
  count = suc lies.count;
  at = omega (arith, lies.at);
  word = ap (λ (ks : List (List (List ℕ))). first_fault (line_rows (opening live) (said (opening live) ks)) (nth [] (map (cut 32) ps) lies.count)) (sym (append_assoc ls (cut 32 p ∷ []) (take lies.count (map (cut 32) ps)))) ∙ lies.word;
}

abbrev MayNext : Bool → State → List (List (List ℕ)) → Type 0
MayNext live s ls = words_behind live (first_word (last_line ls)) ≡ words_at s.stage s

lies : (live : Bool) (s : State) (n : ℕ) (parts : List (List ℕ)) (f : ScriptFault) (ls : List (List (List ℕ))) → Fits live s.stage s → ls ≡ lines_at s.stage s → MayNext live s ls → IsOfWord f.kind → lines_taken live s n parts ≡ Err f → Lies live ls parts n f
unfolding lines_taken line_done IsOfWord
lies live s n [] f ls fits is next word h = absurd (subst IsOfWord (sym (kind_there n kinds.Missing f h)) word)
lies live s n (p ∷ []) f ls fits is next word h = absurd (no_unended p (subst IsOfWord (sym (kind_there n (unended p) f h)) word))
lies live s n (p ∷ q ∷ ps) f ls fits is next word h =
    go (line_taken live s s.stage (cut 32 p)) refl h (λ u ks after more may g. lies live u (suc n) (q ∷ ps) f ks after more may word g)
  where
    go : (r : Result (Bool × State) Kind) → line_taken live s s.stage (cut 32 p) ≡ r → line_done r n (q ∷ ps) (λ u. lines_taken live u (suc n) (q ∷ ps)) ≡ Err f
        → ((u : State) (ks : List (List (List ℕ))) → Fits live u.stage u → ks ≡ lines_at u.stage u → MayNext live u ks → lines_taken live u (suc n) (q ∷ ps) ≡ Err f → Lies live ks (q ∷ ps) (suc n) f) → Lies live ls (p ∷ q ∷ ps) n f
    go (Err k) e g rest =
        let T = first_fault (line_rows (opening live) (said (opening live) ls)) (cut 32 p) in
        let row : T ≡ Some k = tells_fault T (line_taken live s s.stage (cut 32 p)) Any k (line_told live s ls (cut 32 p) T refl s.stage fits is next) e in
        lies_here live ls p (q ∷ ps) n f (at_line n k f g) (row ∙ ap (λ (l : Kind). Some l) (kind_there n k f g))
    go (Ok (true, u)) e g rest = absurd (subst IsOfWord (sym (kind_there (suc n) kinds.Extra f (choose (is_last (q ∷ ps)) g))) word)
      where
        choose : (b : Bool) → cond b (Ok u) (Err (fault_at (suc n) kinds.Extra)) ≡ Err f → failed (fault_at (suc n) kinds.Extra) ≡ failed f
        choose true i = absurd cc
        choose false i = i
    go (Ok (false, u)) e g rest =
        let adds : Adds live s.stage s (cut 32 p) u = read_is (line_taken live s s.stage (cut 32 p)) (false, u) (Goes live s.stage s (cut 32 p)) e (line_taken-sound live s.stage s (cut 32 p) refl fits) in
        let follows : words_behind live (first_word (cut 32 p)) ≡ words_at u.stage u = read_is (line_taken live s s.stage (cut 32 p)) (false, u) (FollowsMore live (first_word (cut 32 p))) e (line_follows live s.stage s (cut 32 p) refl fits) in
        let lines : ls ++ cut 32 p ∷ [] ≡ lines_at u.stage u = ap (λ (ks : List (List (List ℕ))). ks ++ cut 32 p ∷ []) is ∙ sym adds.lines in
        let may : MayNext live u (ls ++ cut 32 p ∷ []) = ap (λ (l : List (List ℕ)). words_behind live (first_word l)) (last_line-more ls (cut 32 p)) ∙ follows in
        lies_later live ls p (q ∷ ps) n f (rest u (ls ++ cut 32 p ∷ []) adds.fits lines may g)

start_next : (live : Bool) → MayNext live start []
unfolding start words_at under order last_line nth
start_next live = refl

-- a fault of a word is told so
pub word_fault : (live : Bool) (bytes : List ℕ) (f : ScriptFault) → lines_taken live start 1 (cut 10 bytes) ≡ Err f → IsOfWord f.kind → IsWordFault (opening live) bytes f.line f.kind
word_fault live bytes f h word =
    let there = lies live start 1 (cut 10 bytes) f [] (start_fits live) (sym no_lines) (start_next live) word h in
    let line : there.count ≡ f.line - 1 = omega (arith, there.at) in
    let first = found _ _ f.kind there.word in
    record {
      index = first.index;
      word = subst (λ (k : ℕ). IsFaultyWord (opening live) (said (opening live) (take k (lines_of bytes))) (nth [] (lines_of bytes) k) first.index f.kind) line (record { fit = first.fit; faulty = first.faulty });
    }
