-- Steps within the limits fit their configuration.
use Rattle.std.specs.Prelude.{List, [], ◌∷◌, length, All}
use Rattle.std.proofs.lemmas.List.Elements.{All-nil, All-cons, All-head, All-tail}
use Rattle.zeus_base.specs.declared.config.Config.{Config}
use Rattle.zeus_base.specs.declared.step.Step.{Step}
use Rattle.zeus_base.specs.declared.step.Step.TheVariants.{Begin, Try, Deliver, Tick, Stop, View, Install}
use Rattle.zeus_txn.specs.declared.tx.TxDecl.{TxDecl}
use Rattle.zeus_model.specs.Scripts.{FitsStep}
use Rattle.machine_moves.specs.Fits.{StepFits}

-- a step within the limits is one that fits
pub fits-step : (c : Config) (txs : List TxDecl) (s : Step) → FitsStep c (length txs) s → StepFits c txs s
unfolding FitsStep StepFits
fits-step c txs (Begin k) h = h
fits-step c txs (Try n s) h = (h.0, h.1)
fits-step c txs (Deliver from to i) h = (h.0, h.1)
fits-step c txs (Tick n) h = h
fits-step c txs (Stop n) h = h
fits-step c txs (View set) h = (h.0, h.1)
fits-step c txs (Install n e) h = (h.0, h.1)

-- if steps keep the limits, then they fit their configuration
pub fits-steps : (c : Config) (txs : List TxDecl) (steps : List Step) → All (FitsStep c (length txs)) steps → All (StepFits c txs) steps
fits-steps c txs [] h = All-nil (StepFits c txs)
fits-steps c txs (s ∷ ss) h =
    All-cons (StepFits c txs) s ss (fits-step c txs s (All-head (FitsStep c (length txs)) s ss h)) (fits-steps c txs ss (All-tail (FitsStep c (length txs)) s ss h))
