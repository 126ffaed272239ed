-- What is known of the world that a run holds, and that each step keeps it.
use Rattle.std.proofs.Common.{ℕ, zero, suc, ◌≡◌, ◌<◌, ◌++◌, List, [], ◌∷◌, length, take, refl, sym, ap, ◌∙◌, subst, arith}
use Rattle.std.specs.List.{All}
use Rattle.std.proofs.lemmas.List.Elements.{All-append, All-cons, All-nil}
use Rattle.std.proofs.Math.Seq.{take-length}
use Rattle.zeus_base.specs.Limits.{KeepsLimits}
use Rattle.zeus_base.specs.declared.config.Config.{Config}
use Rattle.zeus_base.specs.declared.step.Step.{Step}
use Rattle.zeus_txn.specs.declared.tx.TxDecl.{TxDecl}
use Rattle.zeus_model.specs.Book.{Book}
use Rattle.zeus_model.specs.Scripts.{FitsStep, FitsTxs}
use Rattle.zeus_model.specs.Sound.{Sound}
use Rattle.soundness.specs.Promise.{HasPromise, KeepsPromise}
use Rattle.zeus_model.specs.World.{World, happens, run, start, stepped}
use Rattle.history_book.specs.Books.{BookState}
use Rattle.reached_worlds.specs.Reached.{IsReached}
use Rattle.reached_worlds.proofs.Reaching.{IsKnown, reached_known, reached_same}
use Rattle.std.specs.Prelude.{Result, Ok, Err, IfOk, OnErr}
use Rattle.zeus_base.specs.declared.step.NoMemory.{NoMemory}
use Rattle.zeus_world.specs.Shown.{IsKept}
use Rattle.zeus_world.specs.Taken.{IsTaken}
use Rattle.zeus_world.specs.declared.event.StepEvent.{StepEvent}

-- if some steps lead to the world and the book is of its configuration, then the world is known
pub known : (w : World) (b : BookState) → IsKept w b → IsKnown w
known w b k = reached_known w k.reached

run-append : (w : World) (ss : List Step) (s : Step) → run w (ss ++ s ∷ []) ≡ stepped (run w ss) s
unfolding run
run-append w [] s = refl
run-append w (x ∷ ss) s = run-append (stepped w x) ss s

-- no step leads to the start
pub reached_start : (c : Config) (txs : List TxDecl) → KeepsLimits c → FitsTxs c txs → IsReached (start c txs)
unfolding run start
reached_start c txs l f = record {
  config = c;
  txs = txs;
  steps = [];
  limits = l;
  fit_txs = f;
  fit_steps = All-nil (FitsStep c (length txs));
  leads = refl;
  same_config = refl;
  same_txs = refl;
}

-- one step more leads to the world after it
pub reached_step : (w : World) (s : Step) → IsReached w → FitsStep w.config (length w.txs) s → IsReached (stepped w s)
reached_step w s r f =
    let same = reached_same w s r f in
    let fits : FitsStep r.config (length r.txs) s = rw (r.same_config, r.same_txs) at f in
    record {
      config = r.config;
      txs = r.txs;
      steps = r.steps ++ s ∷ [];
      limits = r.limits;
      fit_txs = r.fit_txs;
      fit_steps = All-append (FitsStep r.config (length r.txs)) r.steps (s ∷ []) r.fit_steps (All-cons (FitsStep r.config (length r.txs)) s [] fits (All-nil (FitsStep r.config (length r.txs))));
      leads = ap (λ v. stepped v s) r.leads ∙ sym (run-append (start r.config r.txs) r.steps s);
      same_config = same.config ∙ r.same_config;
      same_txs = same.txs ∙ r.same_txs;
    }

-- the theorem that every run keeps its promise
abbrev pub EveryRunKeepsItsPromise : Type 0
EveryRunKeepsItsPromise = (c : Config) (txs : List TxDecl) (steps : List Step) → KeepsLimits c → FitsTxs c txs → All (FitsStep c (length txs)) steps → (k : ℕ) → KeepsPromise (start c txs) (take k steps)

-- a world that is reached has the promise, as every run keeps it
pub reached_promised : (w : World) → IsReached w → EveryRunKeepsItsPromise → HasPromise w
reached_promised w r promise =
    let all = promise r.config r.txs r.steps r.limits r.fit_txs r.fit_steps (length r.steps) in
    let those : KeepsPromise (start r.config r.txs) r.steps = (rw (take-length r.steps) at all) in
    let config : start w.config w.txs ≡ start r.config w.txs = ap (λ (c : Config). start c w.txs) r.same_config in
    let same : start w.config w.txs ≡ start r.config r.txs = config ∙ ap (λ (txs : List TxDecl). start r.config txs) r.same_txs in
    let Kept : World → Type 0 = λ v. KeepsPromise v r.steps in
    record {
      steps = r.steps;
      leads = r.leads ∙ ap (λ (v : World). run v r.steps) (sym same);
      kept = subst Kept (sym same) those;
    }

-- so it is sound
pub promised_sound : (w : World) → HasPromise w → Sound w
promised_sound w p = rw (p.leads) (p.kept.sound)

-- a step that fits keeps the world reached, and the book one of its configuration
pub kept_after : (w v : World) (s : Step) (b c : BookState) → IsKept w b → FitsStep w.config (length w.txs) s → v ≡ stepped w s → c.nodes ≡ b.nodes → c.slots ≡ b.slots → IsKept v c
kept_after w v s b c k f e nodes slots =
    let same = reached_same w s k.reached f in
    let config : v.config ≡ w.config = ap (λ (u : World). u.config) e ∙ same.config in
    record {
      reached = rw e (reached_step w s k.reached f);
      nodes = nodes ∙ k.nodes ∙ sym (ap (λ (x : Config). x.nodes) config);
      slots = slots ∙ k.slots ∙ sym (ap (λ (x : Config). x.slots) config);
    }

-- ---- what a step ensures

-- if every run keeps its promise, then so does the world after a step that fits
pub promised_stepped : (w v : World) (s t : Step) → IsReached w → FitsStep w.config (length w.txs) s → EveryRunKeepsItsPromise → s ≡ t → v ≡ (happens w t).world → HasPromise v
promised_stepped w v s t r f promise is e =
    let after : v ≡ stepped w s = e ∙ ap (λ (u : Step). stepped w u) (sym is) in
    rw after (reached_promised (stepped w s) (reached_step w s r f) promise)

-- a call took the step of the world w and told of it, or memory was wanting and the world stayed
pub record TakesOrStays (w v : World) (s : Step) (told : StepEvent) (r : Result (Unit {0}) NoMemory) : Type 0 where
  pub ok : IfOk r (λ u. IsTaken told v (happens w s))
  pub err : OnErr r (v ≡ w)

-- if every run keeps its promise, then so does the world after a call, whether the step was taken or memory was wanting
pub promised_after : (w v : World) (s t : Step) (told : StepEvent) (r : Result (Unit {0}) NoMemory) → IsReached w → FitsStep w.config (length w.txs) s → EveryRunKeepsItsPromise → s ≡ t → TakesOrStays w v t told r → HasPromise v
promised_after w v s t told (Ok u) r f promise is call = promised_stepped w v s t r f promise is call.ok.becomes
promised_after w v s t told (Err e) r f promise is call = rw call.err (reached_promised w r promise)

-- the world at the start is kept
pub kept_start : (c : Config) (txs : List TxDecl) (w : World) (b : BookState) → KeepsLimits c → FitsTxs c txs → w ≡ start c txs → (book : Book) → b ≡ record { book = book; nodes = c.nodes; slots = c.slots } → IsKept w b
unfolding start
kept_start c txs w b limits fit e book k =
    let config : w.config ≡ c = ap (λ (v : World). v.config) e in
    record {
      reached = rw e (reached_start c txs limits fit);
      nodes = ap (λ (d : BookState). d.nodes) k ∙ sym (ap (λ (d : Config). d.nodes) config);
      slots = ap (λ (d : BookState). d.slots) k ∙ sym (ap (λ (d : Config). d.slots) config);
    }
