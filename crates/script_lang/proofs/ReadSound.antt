-- What is read is spelled so.
use Rattle.std.proofs.Common.{◌≡◌, ℕ, suc, ◌≤◌, Bool, true, false, cond, List, [], ◌∷◌, ◌++◌, length, Result, Ok, Err, refl, sym, ap, ◌∙◌, arith, append_assoc, subst}
use Rattle.std.specs.Prelude.{codes, map, nat_lt, IfOk}
use Rattle.std.proofs.lemmas.Bool.{ltb-false}
use Rattle.std.proofs.lemmas.List.Elements.{All-from_recursion}
use Rattle.zeus_base.specs.Limits.{KeepsLimits, KeepsDeclaration}
use Rattle.zeus_model.specs.declared.fault.Kind.{Kind}
use Rattle.zeus_model.specs.declared.fault.Kind.TheVariants as kinds
use Rattle.zeus_model.specs.declared.fault.ScriptFault.{ScriptFault}
use Rattle.zeus_model.specs.declared.script.Script.{Script}
use Rattle.zeus_model.specs.Scripts.{FitsValue, FitsStep, FitsScript, IsSpelled}
use Rattle.zeus_model.specs.Spelling.{words_text, lines_text, script_lines, spelling}
use Rattle.script_lang.specs.declared.stage.Stage.{Stage}
use Rattle.script_lang.specs.declared.stage.Stage.TheVariants as stages
use Rattle.script_lang.specs.declared.reading.ReadScript.{ReadScript}
use Rattle.script_lang.specs.Cut.{cut}
use Rattle.script_lang.specs.Drafts.{State, line_taken}
use Rattle.script_lang.specs.Live.{FitsLive}
use Rattle.script_lang.specs.Reading.{start, fault_at, is_last, line_done, lines_taken, script_of, scripted, script_read, ReadsScript, config_of}
use Rattle.script_lang.proofs.BodySound.{Goes, line_taken-sound}
use Rattle.script_lang.proofs.DraftFits.{HeadFits, BodyFits, Fits, lines_at, Adds}
use Rattle.script_lang.proofs.Sound.{read_is}
use Rattle.script_lang.proofs.laws.TextLaws.{words_text-cut, lines_of_parts}

-- the lines from a state on that lead to a whole script
pub record Reached (live : Bool) (s : State) (parts : List (List ℕ)) (t : State) : Type 0 where
  pub ls : List (List (List ℕ))
  pub texts : parts ≡ map words_text ls ++ [] ∷ []
  pub fits : Fits live stages.Steps t
  pub lines : lines_at stages.Steps t ++ (codes "end" ∷ []) ∷ [] ≡ lines_at s.stage s ++ ls

-- if nothing stands behind the last line, then only an empty part is left
pub last_is : (rest : List (List ℕ)) → is_last rest ≡ true → rest ≡ [] ∷ []
unfolding is_last
last_is [] h = absurd cc
last_is ([] ∷ []) h = refl
last_is ([] ∷ q ∷ ps) h = absurd cc
last_is ((b ∷ bs) ∷ ps) h = absurd cc

reached_end : (live : Bool) (s : State) (stage : Stage) (p : List ℕ) (rest : List (List ℕ)) → s.stage ≡ stage → Fits live stage s → stage ≡ stages.Steps → cut 32 p ≡ (codes "end") ∷ [] → rest ≡ [] ∷ [] → Reached live s (p ∷ rest) s
reached_end live s stage p rest at fits is words last = record {
  ls = (codes "end" ∷ []) ∷ [];
  texts = rw last (ap (λ (q : List ℕ). q ∷ [] ∷ []) (sym (words_text-cut p) ∙ ap words_text words));
  fits = subst (λ (k : Stage). Fits live k s) is fits;
  lines = ap (λ (k : Stage). lines_at k s ++ (codes "end" ∷ []) ∷ []) (sym (at ∙ is));
}

reached_more : (live : Bool) (s u t : State) (p : List ℕ) (rest : List (List ℕ)) → Adds live s.stage s (cut 32 p) u → Reached live u rest t → Reached live s (p ∷ rest) t
reached_more live s u t p rest adds reached = record {
  ls = cut 32 p ∷ reached.ls;
  texts = rw (words_text-cut, ← reached.texts) refl;
  fits = reached.fits;
  lines = reached.lines ∙ ap (λ (front : List (List (List ℕ))). front ++ reached.ls) adds.lines ∙ append_assoc (lines_at s.stage s) (cut 32 p ∷ []) reached.ls;
}

failed : (n : ℕ) (k : Kind) (rest : List (List ℕ)) (go_on : State → Result State ScriptFault) (t : State) → line_done (Err k) n rest go_on ≡ Ok t → ⊥
unfolding line_done
failed n k rest go_on t h = cc

stopped : (n : ℕ) (u t : State) (rest : List (List ℕ)) (go_on : State → Result State ScriptFault) → line_done (Ok (true, u)) n rest go_on ≡ Ok t → (u ≡ t) × (is_last rest ≡ true)
unfolding line_done
stopped n u t rest go_on h = choose (is_last rest) refl h
  where
    choose : (b : Bool) → is_last rest ≡ b → cond b (Ok u) (Err (fault_at (suc n) kinds.Extra)) ≡ Ok t → (u ≡ t) × (is_last rest ≡ true)
    choose true e f = (cc, e)
    choose false e f = absurd cc

went_on : (n : ℕ) (u t : State) (rest : List (List ℕ)) (go_on : State → Result State ScriptFault) → line_done (Ok (false, u)) n rest go_on ≡ Ok t → go_on u ≡ Ok t
unfolding line_done
went_on n u t rest go_on h = h

-- if lines are read from a state that fits, then they lead to a whole script, of which they are the last lines
pub lines_taken-sound : (live : Bool) (s t : State) (n : ℕ) (parts : List (List ℕ)) → Fits live s.stage s → lines_taken live s n parts ≡ Ok t → Reached live s parts t
unfolding lines_taken
lines_taken-sound live s t n [] fits h = absurd cc
lines_taken-sound live s t n (p ∷ []) fits h = absurd cc
lines_taken-sound live s t n (p ∷ q ∷ ps) fits h =
    go (line_taken live s s.stage (cut 32 p)) refl h (λ u after g. lines_taken-sound live u t (suc n) (q ∷ ps) after g)
  where
    go : (r : Result (Bool × State) Kind) → line_taken live s s.stage (cut 32 p) ≡ r → line_done r n (q ∷ ps) (λ u. lines_taken live u (suc n) (q ∷ ps)) ≡ Ok t
        → ((u : State) → Fits live u.stage u → lines_taken live u (suc n) (q ∷ ps) ≡ Ok t → Reached live u (q ∷ ps) t) → Reached live s (p ∷ q ∷ ps) t
    go (Err k) e f rest = absurd (failed n k (q ∷ ps) (λ u. lines_taken live u (suc n) (q ∷ ps)) t f)
    go (Ok (true, u)) e f rest =
        let goes = read_is (line_taken live s s.stage (cut 32 p)) (true, u) (Goes live s.stage s (cut 32 p)) e (line_taken-sound live s.stage s (cut 32 p) refl fits) in
        let last = stopped n u t (q ∷ ps) (λ v. lines_taken live v (suc n) (q ∷ ps)) f in
        subst (λ (v : State). Reached live s (p ∷ q ∷ ps) v) (sym goes.0 ∙ last.0) (reached_end live s s.stage p (q ∷ ps) refl fits goes.1 goes.2 (last_is (q ∷ ps) last.1))
    go (Ok (false, u)) e f rest =
        let adds = read_is (line_taken live s s.stage (cut 32 p)) (false, u) (Goes live s.stage s (cut 32 p)) e (line_taken-sound live s.stage s (cut 32 p) refl fits) in
        reached_more live s u t p (q ∷ ps) adds (rest u adds.fits (went_on n u t (q ∷ ps) (λ v. lines_taken live v (suc n) (q ∷ ps)) f))

-- ---- the whole script

-- the state before the first line fits
pub start_fits : (live : Bool) → Fits live start.stage start
unfolding start HeadFits BodyFits
start_fits live = record { head = refl; body = record { names = refl; objects = refl; txs = refl; steps = refl } }

-- if a state fits behind the steps, then its script fits
pub script_fits : (live : Bool) (t : State) → Fits live stages.Steps t → FitsScript (script_of t)
unfolding HeadFits BodyFits script_of
script_fits live t fits =
    let are = fits.body.0 in
    let config : KeepsLimits (config_of t) = record {
      version = (fits.head.0.0, omega (arith, fits.head.0.1));
      nodes = fits.head.1;
      slots = fits.head.2;
      directory = fits.head.3.0;
      rising = fits.head.3.1;
      directory_nodes = fits.head.3.2;
      degree = fits.head.4;
      objects = (fits.body.1.some, omega (arith, are.count, are.few));
      declared = All-from_recursion (KeepsDeclaration t.head.version t.head.nodes) t.objects are.declared;
    } in
    record {
      config = config;
      values = All-from_recursion (λ o. FitsValue t.head.version o.value) t.objects are.values;
      names = record { count = are.count; each = are.each; distinct = are.distinct };
      txs = record { few = fits.body.1.few; each = fits.body.1.fit };
      steps = All-from_recursion (FitsStep (config_of t) (length t.txs)) t.steps fits.body.2.fit;
    }

-- if a state fits behind the steps, then its script keeps the bounds of a live run, where it is one
pub script_live : (live : Bool) (t : State) → Fits live stages.Steps t → FitsLive live (script_of t)
unfolding BodyFits script_of
script_live live t fits = record { txs = fits.body.1.live_few; steps = fits.body.2.live_none }

-- if a state fits behind the steps, then its script has at most 50,000 steps
pub steps_fit : (live : Bool) (t : State) → Fits live stages.Steps t → length (script_of t).steps ≤ 50000
unfolding BodyFits script_of
steps_fit live t fits = fits.body.2.few

-- the lines of a state's script are the lines read so far and `end`
pub script_lines-lines : (t : State) → script_lines (script_of t) ≡ lines_at stages.Steps t ++ (codes "end" ∷ []) ∷ []
unfolding script_lines script_of lines_at
script_lines-lines t = refl

-- before the first line no line was read
pub no_lines : lines_at start.stage start ≡ []
unfolding start lines_at
no_lines = refl

script_reached : (live : Bool) (bytes : List ℕ) (t : State) → length bytes ≤ 4194304 → Reached live start (cut 10 bytes) t → IsSpelled bytes (script_of t) × FitsLive live (script_of t)
unfolding spelling
script_reached live bytes t few reached =
    let text : bytes ≡ lines_text reached.ls = lines_of_parts bytes reached.ls reached.texts in
    let lines : script_lines (script_of t) ≡ reached.ls = script_lines-lines t ∙ reached.lines ∙ ap (λ (front : List (List (List ℕ))). front ++ reached.ls) no_lines in
    let spelled : bytes ≡ spelling (script_of t) = text ∙ ap lines_text (sym lines) in
    (record { script = record { fits = script_fits live t reached.fits; few_steps = steps_fit live t reached.fits; few_bytes = rw (← spelled) few }; spelled = spelled }, script_live live t reached.fits)

-- what is read is spelled so
pub script_read-sound : (live : Bool) (bytes : List ℕ) (s : Script) → script_read live bytes ≡ Ok s → IsSpelled bytes s × FitsLive live s
unfolding script_read scripted
script_read-sound live bytes s h = go (nat_lt 4194304 (length bytes)) refl h
  where
    go : (b : Bool) → nat_lt 4194304 (length bytes) ≡ b → cond b (Err (fault_at 0 kinds.Size)) (scripted (lines_taken live start 1 (cut 10 bytes))) ≡ Ok s → IsSpelled bytes s × FitsLive live s
    go true e f = absurd cc
    go false e f = read (lines_taken live start 1 (cut 10 bytes)) refl f
      where
        read : (r : Result State ScriptFault) → lines_taken live start 1 (cut 10 bytes) ≡ r → scripted r ≡ Ok s → IsSpelled bytes s × FitsLive live s
        read (Err k) g i = absurd cc
        read (Ok t) g i =
            let reached = lines_taken-sound live start t 1 (cut 10 bytes) (start_fits live) g in
            let all = script_reached live bytes t (ltb-false 4194304 (length bytes) e) reached in
            let same : script_of t ≡ s = cc in
            subst (λ (x : Script). IsSpelled bytes x × FitsLive live x) same all

-- so of what was returned
pub read_found : (live : Bool) (bytes : List ℕ) (r : Result Script ReadScript) → ReadsScript r (script_read live bytes) → IfOk r (λ s. IsSpelled bytes s × FitsLive live s)
read_found live bytes (Ok s) h = script_read-sound live bytes s h
read_found live bytes (Err e) h = tt
