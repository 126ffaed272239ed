-- What one step of a run does, by the world before it.
use Rattle.std.proofs.Common.{ℕ, zero, suc, ◌≡◌, List, [], ◌∷◌, length, take, Some, refl}
use Rattle.std.specs.Prelude.{All, slice_get}
use Rattle.zeus_base.specs.Limits.{KeepsLimits}
use Rattle.zeus_base.specs.declared.config.Config.{Config}
use Rattle.zeus_base.specs.declared.step.Step.{Step}
use Rattle.zeus_txn.specs.declared.tx.TxDecl.{TxDecl}
use Rattle.zeus_model.specs.Scripts.{FitsStep}
use Rattle.zeus_model.specs.World.{World, Event, events, happens, run, start}
use Rattle.soundness.specs.Promise.{IsNoRefusal}
use Rattle.soundness.specs.Telling.{Does}
use Rattle.soundness.proofs.Fitting.{fits-steps}
use Rattle.soundness.proofs.NeverAnswers.{never-own_stream, never-window, never-not_arbiter, never-not_collector, never-own_place}
use Rattle.soundness.proofs.NeverReceive.{run_never_refused}
use Rattle.soundness.proofs.Runs.{All-take}

-- step k does what happens by some step in the world that the steps before it lead to
step_of : (w : World) (steps : List Step) (k : ℕ) (e : Event) → slice_get (events w steps) k ≡ Some e → (s : Step) × (happens (run w (take k steps)) s ≡ e)
unfolding events run
step_of w [] k e h = absurd cc
step_of w (s ∷ ss) zero e h = (s, cc)
step_of w (s ∷ ss) (suc k) e h = step_of (happens w s).world ss k e h

-- no step of a run answers a refusal that never comes
pub never-refused : (c : Config) (txs : List TxDecl) (steps : List Step) → KeepsLimits c → All (FitsStep c (length txs)) steps
    → (k : ℕ) (e : Event) → Does (start c txs) steps k e → IsNoRefusal e.answer
never-refused c txs steps keeps fits k e does =
    let found = step_of (start c txs) steps k e does in
    let before = take k steps in
    let those = fits-steps c txs before (All-take (FitsStep c (length txs)) k steps fits) in
    let never = run_never_refused c txs before found.0 keeps those in
    rw (← found.1) (record {
      own_stream = λ a. never (never-own_stream _ a);
      window = λ a. never (never-window _ a);
      arbiter = λ a. never (never-not_arbiter _ a);
      collector = λ a. never (never-not_collector _ a);
      own_place = λ a. never (never-own_place _ a);
    })
