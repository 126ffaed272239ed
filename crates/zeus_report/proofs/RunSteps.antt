-- Steps of a world, one after another, and what they leave alone.
use Rattle.std.proofs.Common.{ℕ, suc, ◌≡◌, ◌<◌, ◌≤◌, ◌+◌, Bool, true, false, List, [], ◌∷◌, ◌++◌, length, get_or, drop, Option, Some, None, append_assoc, arith, refl, ◌∙◌}
use Rattle.std.specs.Prelude.{if◌then◌else◌, nat_lt}
use Rattle.std.proofs.Math.ListN.{drop_of_length-le}
use Rattle.std.proofs.lemmas.List.{drop_more, append-nil}
use Rattle.zeus_base.specs.declared.step.Step.{Step}
use Rattle.zeus_base.specs.declared.step.Step.TheVariants.{Begin, Try, Deliver, Tick, Stop, View, Install}
use Rattle.zeus_packet.specs.declared.letter.Letter.{Letter}
use Rattle.zeus_model.specs.declared.answer.Answer.{Answer}
use Rattle.zeus_model.specs.declared.answer.Made.{Made}
use Rattle.zeus_model.specs.ReportText.{event_text, steps_text}
use Rattle.zeus_model.specs.World.{World, Event, happens, stepped, run, step_begin, begin_or_not, begin_refused, tried_at, deliver_or_not, received_at, ticked_at, stopped_at, view_or_not, view_refused, step_install, installed_at, nth_letter, link}

-- an event leaves the configuration and the transactions
pub record KeepsScript (w : World) (e : Event) : Type 0 where
  pub config : e.world.config ≡ w.config
  pub txs : e.world.txs ≡ w.txs

begin_keeps : (w : World) (k : ℕ) (a : Option Answer) → KeepsScript w (begin_or_not w k a)
unfolding begin_or_not
begin_keeps w k None = record { config = refl; txs = refl }
begin_keeps w k (Some a) = record { config = refl; txs = refl }

deliver_keeps : (w : World) (from to : ℕ) (l : Option Letter) → KeepsScript w (deliver_or_not w from to l)
unfolding deliver_or_not received_at
deliver_keeps w from to None = record { config = refl; txs = refl }
deliver_keeps w from to (Some l) = record { config = refl; txs = refl }

view_keeps : (w : World) (set : List ℕ) (m : Option Made) → KeepsScript w (view_or_not w set m)
unfolding view_or_not
view_keeps w set None = record { config = refl; txs = refl }
view_keeps w set (Some m) = record { config = refl; txs = refl }

choice_keeps : (w : World) (a b : Event) (test : Bool) → KeepsScript w a → KeepsScript w b → KeepsScript w (if test then a else b)
choice_keeps w a b true ka kb = ka
choice_keeps w a b false ka kb = kb

-- a step leaves the configuration and the transactions
pub step_keeps : (w : World) (s : Step) → KeepsScript w (happens w s)
unfolding happens step_begin tried_at ticked_at stopped_at step_install installed_at
step_keeps w (Begin k) = begin_keeps w k (begin_refused w k)
step_keeps w (Try n s) = record { config = refl; txs = refl }
step_keeps w (Deliver from to i) = deliver_keeps w from to (nth_letter (link w.links from to) i)
step_keeps w (Tick n) = record { config = refl; txs = refl }
step_keeps w (Stop n) = record { config = refl; txs = refl }
step_keeps w (View set) = view_keeps w set (view_refused w set)
step_keeps w (Install n e) =
    choice_keeps w _ _ (nat_lt (length w.views) e) record { config = refl; txs = refl } record { config = refl; txs = refl }

-- a run leaves the configuration and the transactions
pub run-config : (w : World) (ss : List Step) → (run w ss).config ≡ w.config
unfolding run
run-config w [] = refl
run-config w (s ∷ ss) = run-config (stepped w s) ss ∙ (step_keeps w s).config

-- a run leaves the transactions
pub run-txs : (w : World) (ss : List Step) → (run w ss).txs ≡ w.txs
unfolding run
run-txs w [] = refl
run-txs w (s ∷ ss) = run-txs (stepped w s) ss ∙ (step_keeps w s).txs

-- one more step of those that are left
pub run_more : (w after end : World) (ss : List Step) (i : ℕ) (s : Step) → i < length ss → s ≡ get_or ss i s → after ≡ stepped w s → run w (drop i ss) ≡ end → run after (drop (i + 1) ss) ≡ end
unfolding run
run_more w after end ss i s h here taken kept =
    let e = drop_more ss i s h in
    let f : run w (s ∷ drop (i + 1) ss) ≡ run (stepped w s) (drop (i + 1) ss) = refl in
    cc (e, f)

-- if no step is left of a run, then the world is the one at its end
pub run_done : (w end : World) (ss : List Step) (i : ℕ) → length ss ≤ i → run w (drop i ss) ≡ end → w ≡ end
unfolding run
run_done w end ss i h kept =
    let e = drop_of_length-le ss h in
    let f : run w [] ≡ w = refl in
    cc (e, f)

-- the lines of one more step
pub text_more : (names : List (List ℕ)) (w after : World) (ss : List Step) (i : ℕ) (s : Step) (out written whole : List ℕ) → i < length ss → s ≡ get_or ss i s → after ≡ stepped w s → out ++ steps_text names w i (drop i ss) ≡ whole → written ≡ out ++ event_text names i s (happens w s) → written ++ steps_text names after (i + 1) (drop (i + 1) ss) ≡ whole
unfolding steps_text
text_more names w after ss i s out written whole h here taken kept added =
    let e = drop_more ss i s h in
    let n : i + 1 ≡ suc i = omega arith in
    let f : steps_text names w i (s ∷ drop (i + 1) ss) ≡ event_text names i s (happens w s) ++ steps_text names (stepped w s) (suc i) (drop (i + 1) ss) = refl in
    let a = append_assoc out (event_text names i s (happens w s)) (steps_text names (stepped w s) (suc i) (drop (i + 1) ss)) in
    let v : steps_text names after (i + 1) (drop (i + 1) ss) ≡ steps_text names (stepped w s) (suc i) (drop (i + 1) ss) = cc (n, taken) in
    cc (e, f, a, v)

-- if no step is left of a run, then the text printed is the whole one
pub text_done : (names : List (List ℕ)) (w : World) (ss : List Step) (i : ℕ) (out whole : List ℕ) → length ss ≤ i → out ++ steps_text names w i (drop i ss) ≡ whole → out ≡ whole
unfolding steps_text
text_done names w ss i out whole h kept =
    let e = drop_of_length-le ss h in
    let f : steps_text names w i [] ≡ [] = refl in
    let a = append-nil out in
    cc (e, f, a)
