-- A world that steps lead to is in its ranges, and its book can note each try.
use Rattle.std.specs.Prelude.{ℕ, ◌≡◌, List, [], ◌∷◌, length, All}
use Rattle.std.proofs.Common.{◌∙◌, refl, sym, ap, subst}
use Rattle.std.proofs.lemmas.List.Elements.{All-head, All-tail}
use Rattle.zeus_base.specs.Limits.{KeepsLimits}
use Rattle.zeus_base.specs.declared.config.Config.{Config}
use Rattle.zeus_base.specs.declared.step.Step.{Step}
use Rattle.zeus_txn.specs.declared.tx.TxDecl.{TxDecl}
use Rattle.zeus_model.specs.Scripts.{FitsStep, FitsTxs}
use Rattle.zeus_model.specs.World.{World, run, start, stepped}
use Rattle.machine_moves.specs.Fits.{StepFits}
use Rattle.machine_moves.proofs.Runs.{usual_after}
use Rattle.machine_moves.proofs.Start.{start-config}
use Rattle.machine_moves.proofs.Steps.{IsStep, step_is_moves}
use Rattle.data_safety.specs.RunState.{run_state}
use Rattle.data_safety.proofs.ownership.OwnershipPlain.{HasDataInvariant}
use Rattle.data_safety.proofs.steps.StepRuns.{moves_txs, start-txs}
use Rattle.data_safety.proofs.steps.StepMoves.{step_is_run_moves}
use Rattle.data_safety.proofs.RunKeeps.{moves-invariant}
use Rattle.soundness.proofs.Fitting.{fits-step}
use Rattle.soundness.proofs.Limits.{step-counts}
use Rattle.soundness.proofs.Runs.{IsReached as IsFaithfully, start-reached}
use Rattle.reached_worlds.specs.Ranged.{IsRanged}
use Rattle.reached_worlds.specs.Reached.{IsReached}
use Rattle.reached_worlds.proofs.Ranging.{ranged_start, ranged_step}
use Rattle.reached_worlds.proofs.Telling.{try_of_below}

-- what is known of a world that steps lead to
pub record IsKnown (w : World) : Type 0 where
  pub data_invariant : IsFaithfully w
  pub ranged : IsRanged w

-- a step leaves the configuration and the transactions
pub record IsSame (w v : World) : Type 0 where
  pub config : v.config ≡ w.config
  pub txs : v.txs ≡ w.txs

step_known : (w : World) (s : Step) → IsKnown w → FitsStep w.config (length w.txs) s → IsKnown (stepped w s)
step_known w s k fits =
    let here : StepFits w.config w.txs s = fits-step w.config w.txs s fits in
    let next : HasDataInvariant (run_state (stepped w s)) = moves-invariant (run_state w) (run_state (stepped w s)) k.data_invariant.witness k.data_invariant.data_invariant (step_is_run_moves w s k.data_invariant.usual here) in
    record {
      data_invariant = record {
        usual = usual_after w (stepped w s) k.data_invariant.usual (step_is_moves w s w.txs k.data_invariant.usual here);
        counts = step-counts w w.txs s k.data_invariant.counts here;
        witness = next.0;
        data_invariant = next.1;
      };
      ranged = ranged_step w s k.ranged fits (λ n slot. try_of_below w k.data_invariant.witness n slot k.data_invariant.data_invariant);
    }

step_same : (w : World) (s : Step) → IsKnown w → FitsStep w.config (length w.txs) s → IsSame w (stepped w s)
step_same w s k fits =
    let here : StepFits w.config w.txs s = fits-step w.config w.txs s fits in
    let moved : IsStep w (stepped w s) = step_is_moves w s w.txs k.data_invariant.usual here in
    let kept : (stepped w s).txs ≡ w.txs = moves_txs (run_state w) (run_state (stepped w s)) (step_is_run_moves w s k.data_invariant.usual here) in
    record { config = moved.config; txs = kept }

run_known : (c : Config) (txs : List TxDecl) (steps : List Step) (w : World) → w.config ≡ c → w.txs ≡ txs → IsKnown w → All (FitsStep c (length txs)) steps → IsKnown (run w steps)
unfolding run
run_known c txs [] w config same k fits = k
run_known c txs (s ∷ ss) w config same k fits =
    let here : FitsStep w.config (length w.txs) s = rw (config, same) (All-head (FitsStep c (length txs)) s ss fits) in
    let stays = step_same w s k here in
    run_known c txs ss (stepped w s) (stays.config ∙ config) (stays.txs ∙ same) (step_known w s k here) (All-tail (FitsStep c (length txs)) s ss fits)

start_known : (c : Config) (txs : List TxDecl) → KeepsLimits c → FitsTxs c txs → IsKnown (start c txs)
start_known c txs limits fit = record { data_invariant = start-reached c txs limits fit.each; ranged = ranged_start c txs limits fit }

-- what is known of each reached world
pub reached_known : (w : World) → IsReached w → IsKnown w
reached_known w r =
    subst IsKnown (sym r.leads)
    (run_known r.config r.txs r.steps (start r.config r.txs) (start-config r.config r.txs) (start-txs r.config r.txs) (start_known r.config r.txs r.limits r.fit_txs) r.fit_steps)

-- a step that fits leaves the configuration and the transactions
pub reached_same : (w : World) (s : Step) → IsReached w → FitsStep w.config (length w.txs) s → IsSame w (stepped w s)
reached_same w s r fits = step_same w s (reached_known w r) fits
