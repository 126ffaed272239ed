-- A turn of a schedule, and its run.
use Rattle.std.proofs.Common.{ℕ, zero, suc, ◌≡◌, ◌<◌, ◌≤◌, ◌+◌, ◌-◌, Bool, true, false, List, [], ◌∷◌, ◌++◌, length, All, arith, refl, ap, sym, subst, ◌∙◌, length-append, inl, inr}
use Rattle.std.specs.Prelude.{is_some, if◌then◌else◌}
use Rattle.std.proofs.lemmas.Bool.{cases_Bool}
use Rattle.std.proofs.lemmas.List.Elements.{All-nil, All-push, All-weaker}
use Rattle.zeus_base.specs.Limits.{KeepsLimits}
use Rattle.zeus_base.specs.declared.config.Config.{Config}
use Rattle.zeus_base.specs.declared.step.Step.{Step}
use Rattle.zeus_txn.specs.declared.tx.TxDecl.{TxDecl}
use Rattle.zeus_model.specs.Book.{Book}
use Rattle.zeus_model.specs.Readers.{all_closed, is_acked, is_ended}
use Rattle.zeus_model.specs.Scripts.{FitsStep, FitsTxs}
use Rattle.zeus_model.specs.Tables.{nth}
use Rattle.zeus_model.specs.World.{World, node, no_tx, tx_decl, run, start, stepped}
use Rattle.rand_pcg.specs.Lcg.{Lcg}
use Rattle.reached_worlds.specs.Reached.{IsReached}
use Rattle.random_schedule.specs.Choices.{is_begun}
use Rattle.random_schedule.specs.Keeping.{KeepsUp, IsUnderWay, IsOfSame, progress_of, schedule_of}
use Rattle.random_schedule.specs.Ready.{AreBegun, AreAllBegun, AreQueues, AreSettled, is_settled}
use Rattle.random_schedule.specs.Schedule.{Schedule, schedule_start, scheduled, turned}
use Rattle.random_schedule.specs.Words.{next_word}
use Rattle.random_schedule.specs.declared.chooser.Chooser.{Chooser}
use Rattle.random_schedule.specs.declared.faults.Faults.{Faults}
use Rattle.random_schedule.specs.declared.queues.Queue.{Queue}
use Rattle.random_schedule.specs.declared.scheduler.Scheduler.{Scheduler}
use Rattle.random_schedule.proofs.Growing.{BookGrows, Grows}
use Rattle.random_schedule.proofs.Worlds.{WorldGrows, step-grows}

-- ---- what is kept goes along with the world

begun_on : (b c : Book) (txs : List ℕ) (n : ℕ) → BookGrows b c → AreBegun b txs n → AreBegun c txs n
unfolding is_begun
begun_on b c txs n g s = record {
  within = s.within;
  each = λ i h. let r = g.records (nth 0 txs i) in r.begun (s.each i h);
}

settled_on : (w v : World) (k : ℕ) → WorldGrows w v → is_settled w k ≡ true → is_settled v k ≡ true
unfolding is_settled
settled_on w v k g h =
    let b = g.book in
    let r = b.records k in
    let stopped = g.stopped (tx_decl w k).node in
    let same : tx_decl v k ≡ tx_decl w k = ap (λ ts. nth no_tx ts k) g.txs in
    let here : (node v (tx_decl v k).node).stopped ≡ (node v (tx_decl w k).node).stopped = ap (λ (t : TxDecl). (node v t.node).stopped) same in
    grind (arith, r.acked, r.refused, stopped, here)

-- if a world grows, then the transactions that are settled stay so
pub are_settled_on : (w v : World) (n : ℕ) → WorldGrows w v → AreSettled w n → AreSettled v n
are_settled_on w v n g s = record {
  within = rw (ap length g.txs) s.within;
  each = λ k h. settled_on w v k g (s.each k h);
}

-- if a world grows, then what a chooser keeps is still that of the world
pub keeps_on : (w v : World) (c : Chooser) → WorldGrows w v → KeepsUp w c → KeepsUp v c
keeps_on w v c g s =
    let q = s.queues in
    let b = s.begun in
    record {
      slots = rw g.config s.slots;
      queues = record { slots = rw g.config q.slots; each = rw g.txs q.each };
      begun = record { count = b.count; each = λ i p is. begun_on w.book v.book p.txs.items (nth 0 c.begun.items i) g.book (b.each i p is) };
      fresh = rw g.config s.fresh;
    }

-- ---- a schedule under way

-- the world of a schedule that is under way is reached
pub is_reached : (s : Scheduler) → IsUnderWay s → IsReached s.world
is_reached s h =
    record {
      config = s.world.config;
      txs = s.world.txs;
      steps = s.steps.items;
      limits = h.limits;
      fit_txs = h.txs;
      fit_steps = h.fits;
      leads = h.leads;
      same_config = refl;
      same_txs = refl;
    }

-- a step more
pub run_push : (w : World) (ss : List Step) (s : Step) → run w (ss ++ s ∷ []) ≡ stepped (run w ss) s
unfolding run
run_push w [] s = refl
run_push w (t ∷ ts) s = run_push (stepped w t) ts s

same_run : (c d : Config) (txs others : List TxDecl) (ss ts : List Step) → d ≡ c → others ≡ txs → ts ≡ ss → run (start c txs) ss ≡ run (start d others) ts
same_run c d txs others ss ts config same steps =
    ap (λ (l : List Step). run (start c txs) l) (sym steps)
    ∙ (ap (λ (x : Config). run (start x txs) ts) (sym config) ∙ ap (λ (x : List TxDecl). run (start d x) ts) (sym same))

-- if a schedule under way takes one more step that fits, then it is under way still
pub goes_on : (s t : Scheduler) (step : Step) → IsUnderWay s → t.world ≡ stepped s.world step → t.steps.items ≡ s.steps.items ++ step ∷ [] → FitsStep s.world.config (length s.world.txs) step
    → KeepsUp s.world t.chooser → t.settled ≡ s.settled → IsUnderWay t
goes_on s t step h world steps fits keeps settled =
    let g : WorldGrows s.world t.world = rw world (step-grows s.world step) in
    record {
      limits = rw g.config h.limits;
      txs = rw (g.config, g.txs) h.txs;
      leads = world ∙ (ap (λ (w : World). stepped w step) h.leads ∙ (sym (run_push (start s.world.config s.world.txs) s.steps.items step)
          ∙ same_run s.world.config t.world.config s.world.txs t.world.txs (s.steps.items ++ step ∷ []) t.steps.items g.config g.txs steps));
      fits = rw (steps, g.config, g.txs) (All-push (FitsStep s.world.config (length s.world.txs)) s.steps.items step h.fits fits);
      keeps = keeps_on s.world t.world t.chooser g keeps;
      settled = rw settled (are_settled_on s.world t.world s.settled g h.settled);
    }

-- a step leaves the configuration and the transactions
pub same_script : (s t : Scheduler) (step : Step) → t.world ≡ stepped s.world step → IsOfSame s t
same_script s t step world =
    let g : WorldGrows s.world t.world = rw world (step-grows s.world step) in
    record { config = g.config; txs = g.txs }

-- ---- the run of turns

-- if all transactions are closed, then the schedule has ended
pub over : (f : Faults) (n : ℕ) (s : Schedule) (words : Lcg) → all_closed s.world ≡ true → scheduled f n s words ≡ (s, words)
unfolding scheduled
over f zero s words h = refl
over f (suc n) s words h = rw h refl

-- if turns are left and a transaction is open, then the schedule goes on from the turn of the next word
pub turn_on : (f : Faults) (n i : ℕ) (s : Schedule) (words : Lcg) → i < n → all_closed s.world ≡ false → scheduled f (n - (i + 1)) (turned f s (next_word words).0) (next_word words).1 ≡ scheduled f (n - i) s words
unfolding scheduled
turn_on f n i s words less h =
    let m : n - i ≡ suc (n - (i + 1)) = omega arith in
    rw (m, h) refl

-- if no turns are left, then the schedule has ended
pub no_turn : (f : Faults) (n i : ℕ) (s : Schedule) (words : Lcg) → n ≤ i → (s, words) ≡ scheduled f (n - i) s words
unfolding scheduled
no_turn f n i s words h = let m : n - i ≡ 0 = omega arith in rw m refl

-- no more steps than turns
pub few_steps : (f : Faults) (n : ℕ) (s : Schedule) (words : Lcg) → length (scheduled f n s words).0.steps ≤ n + length s.steps
unfolding scheduled
few_steps f zero s words = omega arith
few_steps f (suc n) s words = elim (cases_Bool (all_closed s.world)) [
  | inl closed ↦ rw closed (omega arith)
  | inr open_ ↦
      let t = turned f s (next_word words).0 in
      let rest = few_steps f n t (next_word words).1 in
      let more : length t.steps ≡ length s.steps + 1 = length-append s.steps _ in
      rw open_ (omega arith)
]

-- ---- the start

-- a scheduler at the start of a run, with no step taken, is under way
pub started : (s : Scheduler) (c : Config) (txs : List TxDecl) → KeepsLimits c → FitsTxs c txs → s.world ≡ start c txs → s.steps.items ≡ [] → KeepsUp (start c txs) s.chooser → s.settled ≡ 0 → IsUnderWay s
unfolding start run
started s c txs limits fits world steps keeps settled =
    let config : s.world.config ≡ c = ap (λ w. w.config) world in
    let same : s.world.txs ≡ txs = ap (λ w. w.txs) world in
    let none_run : start c txs ≡ run (start c txs) [] = refl in
    let none : AreSettled s.world 0 = record { within = omega arith; each = λ k h. absurd (omega (arith, h)) } in
    record {
      limits = rw config limits;
      txs = rw (config, same) fits;
      leads = world ∙ (none_run ∙ same_run c s.world.config txs s.world.txs [] s.steps.items config same steps);
      fits = rw steps (All-nil (FitsStep s.world.config (length s.world.txs)));
      keeps = rw world keeps;
      settled = rw settled none;
    }

-- ---- what a run of turns leaves

-- two schedulers with one schedule have the same configuration and transactions
pub same_schedule : (s t : Scheduler) → schedule_of t ≡ schedule_of s → IsOfSame s t
same_schedule s t same = record { config = ap (λ (x : Schedule). x.world.config) same; txs = ap (λ (x : Schedule). x.world.txs) same }

-- if the configuration and the transactions stay twice in a row, then they stay over both
pub same_on : (s t u : Scheduler) → IsOfSame s t → IsOfSame t u → IsOfSame s u
same_on s t u h g = record { config = g.config ∙ h.config; txs = g.txs ∙ h.txs }

-- if a turn is the schedule's next one, then what is left of it leads to the same end
pub turn_leads : (f : Faults) (n i : ℕ) (s mid after : Schedule) (words left : Lcg) (whole : Schedule × Lcg) → i < n → all_closed s.world ≡ false → mid ≡ s → after ≡ turned f mid (next_word words).0 → left ≡ (next_word words).1
    → scheduled f (n - i) s words ≡ whole → scheduled f (n - (i + 1)) after left ≡ whole
turn_leads f n i s mid after words left whole less open_ same turn rest kept =
    let on = turn_on f n i s words less open_ in
    let from : after ≡ turned f s (next_word words).0 = turn ∙ ap (λ (m : Schedule). turned f m (next_word words).0) same in
    ap (λ (m : Schedule). scheduled f (n - (i + 1)) m left) from ∙ (ap (λ (l : Lcg). scheduled f (n - (i + 1)) (turned f s (next_word words).0) l) rest ∙ (on ∙ kept))

-- the schedule is of this configuration and these transactions
of_start : (s t : Scheduler) (c : Config) (txs : List TxDecl) → schedule_of s ≡ schedule_start c txs → IsOfSame s t → (t.world.config ≡ c) × (t.world.txs ≡ txs)
unfolding start
of_start s t c txs begun same = (same.config ∙ ap (λ (x : Schedule). x.world.config) begun, same.txs ∙ ap (λ (x : Schedule). x.world.txs) begun)

-- a scheduler under way that began at the start of a run has the world to which its steps lead
pub run_of : (s t : Scheduler) (c : Config) (txs : List TxDecl) → schedule_of s ≡ schedule_start c txs → IsOfSame s t → IsUnderWay t → t.world ≡ run (start c txs) t.steps.items
run_of s t c txs begun same h =
    let of = of_start s t c txs begun same in
    h.leads ∙ (ap (λ (x : Config). run (start x t.world.txs) t.steps.items) of.0 ∙ ap (λ (x : List TxDecl). run (start c x) t.steps.items) of.1)

-- the steps of a scheduler under way that began at the start of a run fit its configuration
pub fits_of : (s t : Scheduler) (c : Config) (txs : List TxDecl) → schedule_of s ≡ schedule_start c txs → IsOfSame s t → IsUnderWay t → All (FitsStep c (length txs)) t.steps.items
fits_of s t c txs begun same h =
    let of = of_start s t c txs begun same in
    let P : Config → Type 0 = λ x. All (FitsStep x (length t.world.txs)) t.steps.items in
    let Q : List TxDecl → Type 0 = λ x. All (FitsStep c (length x)) t.steps.items in
    subst Q of.1 (subst P of.0 h.fits)

-- a schedule of n turns takes at most n steps
pub few_of : (f : Faults) (n : ℕ) (s t : Schedule) (words left : Lcg) (c : Config) (txs : List TxDecl) → s ≡ schedule_start c txs → ◌≡◌ {A = Schedule × Lcg} (t, left) (scheduled f n s words) → length t.steps ≤ n
few_of f n s t words left c txs begun is =
    let few = few_steps f n s words in
    let none : length s.steps ≡ 0 = ap (λ (x : Schedule). length x.steps) begun in
    let same : length t.steps ≡ length (scheduled f n s words).0.steps = ap (λ (p : Schedule × Lcg). length p.0.steps) is in
    omega (arith, few, none, same)
