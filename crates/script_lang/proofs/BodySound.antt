-- Each line behind the first ones adds itself, and keeps what a script keeps.
use Rattle.std.proofs.Common.{◌≡◌, ◌≢◌, ℕ, suc, ◌+◌, ◌<◌, ◌≤◌, Bool, true, false, List, [], ◌∷◌, ◌++◌, length, All, Some, Result, Ok, Err, refl, sym, ap, ◌∙◌, arith, append_assoc, append-nil, zero-add, length-append, subst}
use Rattle.std.specs.Prelude.{codes, decimal, map, ◌&&◌, ◌==◌}
use Rattle.std.specs.List.{AllByRecursion}
use Rattle.std.specs.Str.{bytes_eq}
use Rattle.std.proofs.lemmas.Bool.{eq-eqb}
use Rattle.std.proofs.lemmas.Bool.Decides.{nat_tests}
use Rattle.std.proofs.lemmas.List.{map-append}
use Rattle.std.proofs.lemmas.List.Quantifiers.{all_pairs_push}
use Rattle.std.proofs.lemmas.List.Elements.{All-from_recursion, recursion_from_All}
use Rattle.zeus_base.specs.Limits.{KeepsDeclaration}
use Rattle.zeus_base.specs.declared.config.Config.{Config}
use Rattle.zeus_base.specs.declared.config.ObjectDecl.{ObjectDecl}
use Rattle.zeus_base.specs.declared.step.Step.{Step}
use Rattle.zeus_txn.specs.declared.tx.TxDecl.{TxDecl}
use Rattle.zeus_model.specs.Names.{IsName}
use Rattle.zeus_model.specs.Scripts.{FitsValue, FitsTx, FitTxs, FitsStep}
use Rattle.zeus_model.specs.Spelling.{head_lines, degree_lines, object_words, object_lines, tx_words, step_words}
use Rattle.zeus_model.specs.declared.fault.Kind.{Kind}
use Rattle.script_lang.specs.declared.keywords.StepWord.{StepWord}
use Rattle.script_lang.specs.declared.stage.Stage.{Stage}
use Rattle.script_lang.specs.declared.stage.Stage.TheVariants as stages
use Rattle.script_lang.specs.Drafts.{State, degree_taken, object_taken, tx_taken, run_taken, step_taken, tx_line_taken, object_line_taken, degree_line_taken, more, step_line_taken, body_taken, line_taken}
use Rattle.script_lang.specs.Reads.{◌>>=◌, word_at}
use Rattle.script_lang.specs.Reading.{config_of}
use Rattle.script_lang.proofs.DraftFits.{HeadFits, AreObjects, BodyFits, Fits, declared_lines, lines_at, Adds}
use Rattle.script_lang.proofs.DraftSound.{word_at-sound, version_taken-sound, nodes_taken-sound, slots_taken-sound, directory_taken-sound}
use Rattle.script_lang.proofs.laws.FindLaws.{bytes_eq-true, find-nowhere}
use Rattle.script_lang.proofs.laws.NumberLaws.{range_at-sound}
use Rattle.script_lang.proofs.laws.ObjectLaws.{IsObject, object_rest, object_at-sound}
use Rattle.script_lang.proofs.laws.StepLaws.{step_text, IsStepLine, ended-sound, step_word_of-sound, step_at-sound}
use Rattle.script_lang.proofs.laws.TxLaws.{tx_rest, IsTxLine, tx_at-sound}
use Rattle.script_lang.proofs.Sound.{IfRead, read_bind, read_ok, read_err, read_cond, read_or, read_weaken}

-- ---- lists with one more at the end

-- if a fact holds of each element of a list and of one more, then it holds of each with that one at the end
pub each_more : {A : Type 0} (P : A → Type 0) (xs : List A) (x : A) → AllByRecursion P xs → P x → AllByRecursion P (xs ++ x ∷ [])
each_more P [] x h p = (p, tt)
each_more P (y ∷ ys) x h p = (h.0, each_more P ys x h.1 p)

-- the same for the other way to say "of each element"
pub all_more : {A : Type 0} (P : A → Type 0) (xs : List A) (x : A) → All P xs → P x → All P (xs ++ x ∷ [])
all_more P xs x h p = All-from_recursion P (xs ++ x ∷ []) (each_more P xs x (recursion_from_All P xs h) p)

object_lines-more : (names : List (List ℕ)) (objects : List ObjectDecl) (name : List ℕ) (o : ObjectDecl) → length names ≡ length objects → object_lines (names ++ name ∷ []) (objects ++ o ∷ []) ≡ object_lines names objects ++ object_words name o ∷ []
unfolding object_lines
object_lines-more [] [] name o same = refl
object_lines-more [] (p ∷ objects) name o same = absurd (omega arith)
object_lines-more (n ∷ names) [] name o same = absurd (omega arith)
object_lines-more (n ∷ names) (p ∷ objects) name o same = ap (λ (ls : List (List (List ℕ))). object_words n p ∷ ls) (object_lines-more names objects name o (omega arith))

-- if transactions fit and the next one fits at its number, then they fit with it at the end
pub FitTxs-more : (config : Config) (k : ℕ) (ts : List TxDecl) (t : TxDecl) → FitTxs config k ts → FitsTx config (length ts + k) t → FitTxs config k (ts ++ t ∷ [])
unfolding FitTxs
FitTxs-more config k [] t h fits = (rw zero-add at fits, tt)
FitTxs-more config k (u ∷ ts) t h fits =
    let place : suc (length ts) + k ≡ length ts + suc k = omega arith in
    (h.0, FitTxs-more config (suc k) ts t h.1 (rw place at fits))

-- ---- from one stage to the next

no_objects : (version nodes : ℕ) (names : List (List ℕ)) (objects : List ObjectDecl) → names ≡ [] → objects ≡ [] → AreObjects version nodes names objects
no_objects version nodes names objects e f = rw (e, f) (record { count = refl; few = omega arith; each = λ k d lt. absurd (omega arith); distinct = λ i j d less lt. absurd (omega arith); values = tt; declared = tt })

to_objects : (live : Bool) (s : State) → Fits live stages.Degree s → Fits live stages.Objects s
unfolding HeadFits BodyFits
to_objects live s fits = record {
  head = (fits.head.0, fits.head.1, fits.head.2, fits.head.3, rw fits.head.4 tt);
  body = (no_objects s.head.version s.head.nodes s.names s.objects fits.body.names fits.body.objects, fits.body.txs, fits.body.steps);
}

to_txs : (live : Bool) (s : State) → Fits live stages.Objects s → 1 ≤ length s.objects → Fits live stages.Txs s
unfolding HeadFits BodyFits FitTxs
to_txs live s fits some =
    let none = fits.body.1 in
    record {
      head = fits.head;
      body = (fits.body.0, record { some = some; fit = rw none tt; few = rw none (omega arith); live_few = λ h. rw none (omega arith) }, fits.body.2);
    }

degree_made : (live : Bool) (s : State) (ws ws1 : List (List ℕ)) (d : ℕ) → Fits live stages.Degree s → ws ≡ decimal d ∷ ws1 → 1 ≤ d → d < 9 → ws1 ≡ []
    → Adds live stages.Degree s (codes "degree" ∷ ws) (record s { stage = stages.Objects; head = record s.head { degree = Some d } })
unfolding HeadFits BodyFits lines_at head_lines degree_lines object_lines
degree_made live s ws ws1 d fits spelled low high end = record {
  fits = record { head = (fits.head.0, fits.head.1, fits.head.2, fits.head.3, (low, omega arith)); body = (no_objects s.head.version s.head.nodes s.names s.objects fits.body.names fits.body.objects, fits.body.txs, fits.body.steps) };
  lines = rw (spelled, end, fits.head.4, fits.body.names, fits.body.txs) refl;
}

degree_taken-sound : (live : Bool) (s : State) (ws : List (List ℕ)) → Fits live stages.Degree s → IfRead (degree_taken s ws) (Adds live stages.Degree s (codes "degree" ∷ ws))
unfolding degree_taken
degree_taken-sound live s ws fits =
    read_bind _ _ _ (range_at-sound 1 9 ws) (λ d p. read_bind _ _ _ (ended-sound d.1) (λ _ e.
    read_ok _ _ (degree_made live s ws d.1 d.0 fits p.0 p.2 p.3 e)))

-- ---- objects

objects_more : (s : State) (ws : List (List ℕ)) (x : List ℕ × ObjectDecl) → AreObjects s.head.version s.head.nodes s.names s.objects → length s.names ≢ 256 → IsObject s.head.version s.head.nodes s.names ws x → AreObjects s.head.version s.head.nodes (s.names ++ x.0 ∷ []) (s.objects ++ x.1 ∷ [])
objects_more s ws x are room o = record {
  count = rw (length-append s.names (x.0 ∷ []), length-append s.objects (x.1 ∷ [])) (omega (arith, are.count));
  few = rw length-append (omega (arith, are.few));
  each = all_more IsName s.names x.0 are.each o.name;
  distinct = all_pairs_push (λ a b. a ≢ b) s.names x.0 are.distinct (find-nowhere s.names x.0 o.new);
  values = each_more (λ o. FitsValue s.head.version o.value) s.objects x.1 are.values o.value;
  declared = each_more (KeepsDeclaration s.head.version s.head.nodes) s.objects x.1 are.declared o.declared;
}

-- a line behind the objects, where no transaction follows
placed : {A : Type 0} (head os : List A) (o : A) → (head ++ (os ++ o ∷ [])) ++ [] ≡ ((head ++ os) ++ []) ++ o ∷ []
placed {A = A} head os o = append-nil (head ++ (os ++ o ∷ [])) ∙ sym (append_assoc head os (o ∷ [])) ∙ ap (λ (ls : List A). ls ++ o ∷ []) (sym (append-nil (head ++ os)))

-- the first lines know nothing of the objects
head_same : (s : State) (names : List (List ℕ)) (objects : List ObjectDecl) → head_lines (config_of (record s { stage = stages.Objects; names = names; objects = objects })) ≡ head_lines (config_of s)
unfolding head_lines
head_same s names objects = refl

object_made : (live : Bool) (s : State) (ws : List (List ℕ)) (x : List ℕ × ObjectDecl) → Fits live stages.Objects s → length s.names ≢ 256 → IsObject s.head.version s.head.nodes s.names ws x
    → Adds live stages.Objects s (codes "object" ∷ ws) (record s { stage = stages.Objects; names = s.names ++ x.0 ∷ []; objects = s.objects ++ x.1 ∷ [] })
unfolding HeadFits BodyFits lines_at object_words
object_made live s ws x fits room o =
    let are = objects_more s ws x fits.body.0 room o in
    let head = head_same s (s.names ++ x.0 ∷ []) (s.objects ++ x.1 ∷ []) in
    let lines = object_lines-more s.names s.objects x.0 x.1 fits.body.0.count in
    record {
      fits = record { head = fits.head; body = (are, fits.body.1, fits.body.2) };
      lines = rw (head, lines, o.words, fits.body.1) (placed (head_lines (config_of s)) (object_lines s.names s.objects) (codes "object" ∷ object_rest x.0 x.1));
    }

object_taken-sound : (live : Bool) (s : State) (ws : List (List ℕ)) → Fits live stages.Objects s → IfRead (object_taken s ws) (Adds live stages.Objects s (codes "object" ∷ ws))
unfolding object_taken
object_taken-sound live s ws fits =
    read_cond (length s.names == 256) _ _ _ (λ t. read_err _ _) (λ f.
    let room : length s.names ≢ 256 = λ e. let full = eq-eqb (length s.names) 256 e in absurd cc in
    read_bind _ _ _ (object_at-sound s.head.version s.head.nodes s.names ws) (λ x o. read_ok _ _ (object_made live s ws x fits room o)))

-- ---- transactions

tx_made : (live : Bool) (s : State) (ws : List (List ℕ)) (t : TxDecl) → Fits live stages.Txs s → (live && (length s.txs == 1000)) ≡ false → (length s.txs == 10000) ≡ false → IsTxLine (config_of s) s.names (length s.txs) ws t
    → Adds live stages.Txs s (codes "tx" ∷ ws) (record s { stage = stages.Txs; txs = s.txs ++ t ∷ [] })
unfolding HeadFits BodyFits lines_at tx_words
tx_made live s ws t fits calm room line =
    let txs = fits.body.1 in
    let place : length s.txs + 0 ≡ length s.txs = omega arith in
    let fit = FitTxs-more (config_of s) 0 s.txs t txs.fit (rw place line.fits) in
    let live_few : live ≡ true → length (s.txs ++ t ∷ []) ≤ 1000 = λ h. rw length-append (few_live live (length s.txs) h calm (txs.live_few h)) in
    record {
      fits = record { head = fits.head; body = (fits.body.0, record { some = txs.some; fit = fit; few = rw length-append (grind (arith, nat_tests, txs.few)); live_few = live_few }, fits.body.2) };
      lines = rw (map-append, line.spelled) (sym (append_assoc (head_lines (config_of s) ++ object_lines s.names s.objects) (map (tx_words s.names) s.txs) ((codes "tx" ∷ tx_rest s.names t) ∷ [])));
    }
  where
    few_live : (live : Bool) (k : ℕ) → live ≡ true → (live && (k == 1000)) ≡ false → k ≤ 1000 → k + 1 ≤ 1000
    few_live true k h g le = grind (arith, nat_tests)
    few_live false k h g le = absurd cc

tx_taken-sound : (live : Bool) (s : State) (ws : List (List ℕ)) → Fits live stages.Txs s → IfRead (tx_taken live s ws) (Adds live stages.Txs s (codes "tx" ∷ ws))
unfolding tx_taken BodyFits
tx_taken-sound live s ws fits =
    read_cond (live && (length s.txs == 1000)) _ _ _ (λ t. read_err _ _) (λ calm.
    read_cond (length s.txs == 10000) _ _ _ (λ t. read_err _ _) (λ room.
    read_bind _ _ _ (tx_at-sound (config_of s) s.names (length s.txs) ws fits.body.0.count) (λ t p. read_ok _ _ (tx_made live s ws t fits calm room p))))

-- ---- `run` and steps

run_made : (live : Bool) (s : State) (ws : List (List ℕ)) → Fits live stages.Txs s → ws ≡ [] → Adds live stages.Txs s (codes "run" ∷ ws) (record s { stage = stages.Steps })
unfolding HeadFits BodyFits lines_at
run_made live s ws fits end =
    let none = fits.body.2 in
    record {
      fits = record { head = fits.head; body = (fits.body.0, record { some = fits.body.1.some; fit = fits.body.1.fit; few = fits.body.1.few; live_few = fits.body.1.live_few }, record { fit = rw none tt; few = rw none (omega arith); live_none = λ h. none }) };
      lines = rw (none, end) (append-nil (declared_lines s ++ (codes "run" ∷ []) ∷ []));
    }

run_taken-sound : (live : Bool) (s : State) (ws : List (List ℕ)) → Fits live stages.Txs s → IfRead (run_taken s ws) (Adds live stages.Txs s (codes "run" ∷ ws))
unfolding run_taken
run_taken-sound live s ws fits = read_bind _ _ _ (ended-sound ws) (λ _ e. read_ok _ _ (run_made live s ws fits e))

step_made : (s : State) (k : StepWord) (ws : List (List ℕ)) (step : Step) → s.stage ≡ stages.Steps → Fits false stages.Steps s → (length s.steps == 50000) ≡ false → IsStepLine (config_of s) (length s.txs) k ws step
    → Adds false stages.Steps s (step_text k ∷ ws) (record s { steps = s.steps ++ step ∷ [] })
unfolding HeadFits BodyFits lines_at
step_made s k ws step at fits room line =
    let steps = fits.body.2 in
    let t : State = record s { steps = s.steps ++ step ∷ [] } in
    let fit = each_more (FitsStep (config_of s) (length s.txs)) s.steps step steps.fit line.fits in
    let after : Fits false stages.Steps t = record { head = fits.head; body = (fits.body.0, record { some = fits.body.1.some; fit = fits.body.1.fit; few = fits.body.1.few; live_few = fits.body.1.live_few }, record { fit = fit; few = rw length-append (grind (arith, nat_tests, steps.few)); live_none = λ h. absurd cc }) } in
    let lines : lines_at stages.Steps t ≡ lines_at stages.Steps s ++ (step_text k ∷ ws) ∷ [] =
    rw (map-append, line.spelled) (sym (append_assoc (declared_lines s ++ (codes "run" ∷ []) ∷ []) (map step_words s.steps) (step_words step ∷ []))) in
    record {
      fits = subst (λ (stage : Stage). Fits false stage t) (sym at) after;
      lines = subst (λ (stage : Stage). lines_at stage t ≡ lines_at stages.Steps s ++ (step_text k ∷ ws) ∷ []) (sym at) lines;
    }

step_taken-sound : (live : Bool) (s : State) (k : StepWord) (ws : List (List ℕ)) → s.stage ≡ stages.Steps → Fits live stages.Steps s → IfRead (step_taken live s k ws) (Adds live stages.Steps s (step_text k ∷ ws))
unfolding step_taken
step_taken-sound true s k ws at fits = read_err _ _
step_taken-sound false s k ws at fits =
    read_cond (length s.steps == 50000) _ _ _ (λ t. read_err _ _) (λ room.
    read_bind _ _ _ (step_at-sound (config_of s) (length s.txs) k ws) (λ step p. read_ok _ _ (step_made s k ws step at fits room p)))

-- ---- which line it is

-- the lines from here on begin with a word that says what they are
abbrev IsBody : Stage → Type 0
IsBody stages.Version = ⊥
IsBody stages.Nodes = ⊥
IsBody stages.Slots = ⊥
IsBody stages.Directory = ⊥
IsBody stages.Degree = Unit {0}
IsBody stages.Objects = Unit {0}
IsBody stages.Txs = Unit {0}
IsBody stages.Steps = Unit {0}

tx_line_taken-sound : (live : Bool) (s : State) (w : List ℕ) (ws : List (List ℕ)) → Fits live stages.Txs s → IfRead (tx_line_taken live s w ws) (Adds live stages.Txs s (w ∷ ws))
unfolding tx_line_taken
tx_line_taken-sound live s w ws fits =
    read_cond (bytes_eq w (codes "tx")) _ _ _
    (λ t. rw (bytes_eq-true w (codes "tx") t) (tx_taken-sound live s ws fits))
    (λ f. read_cond (bytes_eq w (codes "run")) _ _ _
    (λ t. rw (bytes_eq-true w (codes "run") t) (run_taken-sound live s ws fits))
    (λ g. read_err _ _))

-- the lines of two stages that differ by no line
from_txs : (live : Bool) (s : State) (ws : List (List ℕ)) (t : State) → Adds live stages.Txs s ws t → Adds live stages.Objects s ws t
unfolding lines_at
from_txs live s ws t adds = record { fits = adds.fits; lines = adds.lines }

from_objects : (live : Bool) (s : State) (ws : List (List ℕ)) (t : State) → Adds live stages.Objects s ws t → Adds live stages.Degree s ws t
unfolding lines_at
from_objects live s ws t adds = record { fits = adds.fits; lines = adds.lines }

object_line_taken-sound : (live : Bool) (s : State) (w : List ℕ) (ws : List (List ℕ)) → Fits live stages.Objects s → IfRead (object_line_taken live s w ws) (Adds live stages.Objects s (w ∷ ws))
unfolding object_line_taken
object_line_taken-sound live s w ws fits =
    read_cond (bytes_eq w (codes "object")) _ _ _
    (λ t. rw (bytes_eq-true w (codes "object") t) (object_taken-sound live s ws fits))
    (λ f. read_cond (length s.objects == 0) _ _ _ (λ t. read_err _ _)
    (λ g. let some : 1 ≤ length s.objects = grind (arith, nat_tests) in
    read_weaken _ _ (from_txs live s (w ∷ ws)) (tx_line_taken-sound live s w ws (to_txs live s fits some))))

degree_line_taken-sound : (live : Bool) (s : State) (w : List ℕ) (ws : List (List ℕ)) → Fits live stages.Degree s → IfRead (degree_line_taken live s w ws) (Adds live stages.Degree s (w ∷ ws))
unfolding degree_line_taken
degree_line_taken-sound live s w ws fits =
    read_cond (bytes_eq w (codes "degree")) (degree_taken s ws) (object_line_taken live s w ws) (Adds live stages.Degree s (w ∷ ws))
    (λ t. rw (bytes_eq-true w (codes "degree") t) (degree_taken-sound live s ws fits))
    (λ f. read_weaken _ _ (from_objects live s (w ∷ ws)) (object_line_taken-sound live s w ws (to_objects live s fits)))

-- what a line does: it adds itself, or it is `end`
abbrev pub Goes : Bool → Stage → State → List (List ℕ) → Bool × State → Type 0
Goes live stage s ws (false, t) = Adds live stage s ws t
Goes live stage s ws (true, t) = (t ≡ s) × (stage ≡ stages.Steps) × (ws ≡ (codes "end") ∷ [])

more-sound : (live : Bool) (stage : Stage) (s : State) (ws : List (List ℕ)) (r : Result State Kind) → IfRead r (Adds live stage s ws) → IfRead (more r) (Goes live stage s ws)
unfolding more
more-sound live stage s ws (Ok t) h = read_ok _ _ h.holds
more-sound live stage s ws (Err k) h = read_err _ _

step_line_taken-sound : (live : Bool) (s : State) (w : List ℕ) (ws : List (List ℕ)) → s.stage ≡ stages.Steps → Fits live stages.Steps s → IfRead (step_line_taken live s w ws) (Goes live stages.Steps s (w ∷ ws))
unfolding step_line_taken
step_line_taken-sound live s w ws at fits =
    read_cond (bytes_eq w (codes "end")) _ _ _
    (λ t. read_bind _ _ _ (ended-sound ws) (λ _ e. read_ok _ _ (refl, refl, rw (bytes_eq-true w (codes "end") t, e) refl)))
    (λ f. read_bind _ _ _ (read_or _ _ _ (step_word_of-sound w)) (λ k p.
    more-sound live stages.Steps s (w ∷ ws) (step_taken live s k ws) (rw p (step_taken-sound live s k ws at fits))))

body_taken-sound : (live : Bool) (stage : Stage) (s : State) (w : List ℕ) (ws : List (List ℕ)) → s.stage ≡ stage → IsBody stage → Fits live stage s → IfRead (body_taken live s stage w ws) (Goes live stage s (w ∷ ws))
unfolding body_taken
body_taken-sound live stages.Version s w ws at body fits = absurd body
body_taken-sound live stages.Nodes s w ws at body fits = absurd body
body_taken-sound live stages.Slots s w ws at body fits = absurd body
body_taken-sound live stages.Directory s w ws at body fits = absurd body
body_taken-sound live stages.Degree s w ws at body fits = more-sound live stages.Degree s (w ∷ ws) _ (degree_line_taken-sound live s w ws fits)
body_taken-sound live stages.Objects s w ws at body fits = more-sound live stages.Objects s (w ∷ ws) _ (object_line_taken-sound live s w ws fits)
body_taken-sound live stages.Txs s w ws at body fits = more-sound live stages.Txs s (w ∷ ws) _ (tx_line_taken-sound live s w ws fits)
body_taken-sound live stages.Steps s w ws at body fits = step_line_taken-sound live s w ws at fits

body_line : (live : Bool) (stage : Stage) (s : State) (ws : List (List ℕ)) → s.stage ≡ stage → IsBody stage → Fits live stage s → IfRead (word_at ws >>= λ w. body_taken live s stage w.0 w.1) (Goes live stage s ws)
body_line live stage s ws at body fits =
    read_bind _ _ _ (word_at-sound ws) (λ w p. rw p (body_taken-sound live stage s w.0 w.1 at body fits))

-- if a state fits its stage and a line is read, then the line adds itself or is `end`
pub line_taken-sound : (live : Bool) (stage : Stage) (s : State) (ws : List (List ℕ)) → s.stage ≡ stage → Fits live stage s → IfRead (line_taken live s stage ws) (Goes live stage s ws)
unfolding line_taken
line_taken-sound live stages.Version s ws at fits = more-sound live stages.Version s ws _ (version_taken-sound live s ws fits)
line_taken-sound live stages.Nodes s ws at fits = more-sound live stages.Nodes s ws _ (nodes_taken-sound live s ws fits)
line_taken-sound live stages.Slots s ws at fits = more-sound live stages.Slots s ws _ (slots_taken-sound live s ws fits)
line_taken-sound live stages.Directory s ws at fits = more-sound live stages.Directory s ws _ (directory_taken-sound live s ws fits)
line_taken-sound live stages.Degree s ws at fits = body_line live stages.Degree s ws at tt fits
line_taken-sound live stages.Objects s ws at fits = body_line live stages.Objects s ws at tt fits
line_taken-sound live stages.Txs s ws at fits = body_line live stages.Txs s ws at tt fits
line_taken-sound live stages.Steps s ws at fits = body_line live stages.Steps s ws at tt fits
