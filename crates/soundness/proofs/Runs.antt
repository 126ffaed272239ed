-- Every run is sound.
use Rattle.std.specs.Prelude.{ℕ, zero, suc, ◌≡◌, List, [], ◌∷◌, length, take, All}
use Rattle.std.proofs.Common.{◌∙◌}
use Rattle.std.proofs.lemmas.List.Elements.{All-nil, All-cons, All-head, All-tail}
use Rattle.zeus_base.specs.Limits.{KeepsLimits}
use Rattle.zeus_base.specs.declared.config.Config.{Config}
use Rattle.zeus_base.specs.declared.step.Step.{Step}
use Rattle.zeus_txn.specs.declared.tx.TxDecl.{TxDecl}
use Rattle.zeus_model.specs.Scripts.{FitTxs, FitsTxs, FitsStep}
use Rattle.zeus_model.specs.Sound.{Sound}
use Rattle.zeus_model.specs.World.{World, start, stepped, run}
use Rattle.machine_moves.specs.Fits.{StepFits}
use Rattle.machine_moves.proofs.Runs.{usual_after, reached_usual}
use Rattle.machine_moves.proofs.Start.{start_usual, start-config}
use Rattle.machine_moves.proofs.Steps.{IsStep, IsUsual, step_is_moves}
use Rattle.data_safety.specs.RunState.{Witness, run_state}
use Rattle.data_safety.specs.DataInvariant.{DataInvariant}
use Rattle.data_safety.proofs.Beginning.{untold, start-invariant}
use Rattle.data_safety.proofs.ownership.OwnershipPlain.{HasDataInvariant}
use Rattle.data_safety.proofs.steps.StepRuns.{moves_txs, start-txs}
use Rattle.data_safety.proofs.steps.StepMoves.{step_is_run_moves}
use Rattle.data_safety.proofs.RunKeeps.{moves-invariant}
use Rattle.soundness.proofs.DataSound.{invariant-sound}
use Rattle.soundness.proofs.Fitting.{fits-steps}
use Rattle.soundness.proofs.Limits.{names-declared, start-counts, step-counts}

-- what is kept by each step is kept by each run
pub record IsReached (w : World) : Type 0 where
  pub usual : IsUsual w
  pub counts : length w.nodes ≡ w.config.nodes
  pub witness : Witness
  pub data_invariant : DataInvariant (run_state w) witness

-- a reached world is sound
pub reached-sound : (w : World) → IsReached w → Sound w
reached-sound w r = invariant-sound w r.witness r.data_invariant r.counts

-- if a configuration keeps the limits and its transactions fit, then its start is reached
pub start-reached : (c : Config) (txs : List TxDecl) → KeepsLimits c → FitTxs c 0 txs → IsReached (start c txs)
start-reached c txs keeps fits = record {
  usual = start_usual c txs keeps;
  counts = start-counts c txs;
  witness = untold;
  data_invariant = start-invariant c txs keeps (names-declared c txs fits);
}

-- ---- steps

-- a reached world goes on to a reached world
pub step-reached : (c : Config) (txs : List TxDecl) (w : World) (s : Step) → w.config ≡ c → w.txs ≡ txs → IsReached w → StepFits c txs s → IsReached (stepped w s)
step-reached c txs w s config same r fits =
    let here : StepFits w.config w.txs s = rw (config, same) fits in
    let next : HasDataInvariant (run_state (stepped w s)) = moves-invariant (run_state w) (run_state (stepped w s)) r.witness r.data_invariant (step_is_run_moves w s r.usual here) in
    record {
      usual = usual_after w (stepped w s) r.usual (step_is_moves w s w.txs r.usual here);
      counts = step-counts w w.txs s r.counts here;
      witness = next.0;
      data_invariant = next.1;
    }

-- if a world is reached and steps fit, then the world after them is reached
pub run-reached : (c : Config) (txs : List TxDecl) (steps : List Step) (w : World) → w.config ≡ c → w.txs ≡ txs → IsReached w → All (StepFits c txs) steps → IsReached (run w steps)
unfolding run
run-reached c txs [] w config same r fits = r
run-reached c txs (s ∷ ss) w config same r fits =
    let first : StepFits c txs s = All-head (StepFits c txs) s ss fits in
    let moved : IsStep w (stepped w s) = step_is_moves w s txs r.usual (rw config first) in
    let kept : (stepped w s).txs ≡ w.txs = moves_txs (run_state w) (run_state (stepped w s)) (step_is_run_moves w s r.usual (rw (config, same) first)) in
    run-reached c txs ss (stepped w s) (moved.config ∙ config) (kept ∙ same) (step-reached c txs w s config same r first) (All-tail (StepFits c txs) s ss fits)

-- every run is sound
pub run-sound : (c : Config) (txs : List TxDecl) (steps : List Step) → KeepsLimits c → FitsTxs c txs → All (FitsStep c (length txs)) steps → Sound (run (start c txs) steps)
run-sound c txs steps keeps fit fits =
    reached-sound (run (start c txs) steps)
    (run-reached c txs steps (start c txs) (start-config c txs) (start-txs c txs) (start-reached c txs keeps fit.each) (fits-steps c txs steps fits))

-- a run keeps its configuration
pub run-config : (c : Config) (txs : List TxDecl) (steps : List Step) → KeepsLimits c → All (FitsStep c (length txs)) steps → (run (start c txs) steps).config ≡ c
run-config c txs steps keeps fits = (reached_usual c txs steps keeps (fits-steps c txs steps fits)).1

-- so is every run of its first steps
pub All-take : {A : Type 0} (P : A → Type 0) (k : ℕ) (xs : List A) → All P xs → All P (take k xs)
All-take P zero xs h = All-nil P
All-take P (suc k) [] h = All-nil P
All-take P (suc k) (x ∷ xs) h = All-cons P x (take k xs) (All-head P x xs h) (All-take P k xs (All-tail P x xs h))

-- if a configuration, its transactions and steps keep the limits, then the world after each number of steps is sound
pub prefix-sound : (c : Config) (txs : List TxDecl) (steps : List Step) (k : ℕ) → KeepsLimits c → FitsTxs c txs → All (FitsStep c (length txs)) steps
    → Sound (run (start c txs) (take k steps))
prefix-sound c txs steps k keeps fit fits = run-sound c txs (take k steps) keeps fit (All-take (FitsStep c (length txs)) k steps fits)
