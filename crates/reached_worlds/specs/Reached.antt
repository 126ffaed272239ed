-- The worlds that steps of a run lead to.
use Rattle.std.specs.Prelude.{◌≡◌, List, length, All}
use Rattle.zeus_base.specs.Limits.{KeepsLimits}
use Rattle.zeus_base.specs.declared.config.Config.{Config}
use Rattle.zeus_base.specs.declared.step.Step.{Step}
use Rattle.zeus_txn.specs.declared.tx.TxDecl.{TxDecl}
use Rattle.zeus_model.specs.Scripts.{FitsStep, FitsTxs}
use Rattle.zeus_model.specs.World.{World, run, start}

-- some steps that fit lead to the world from the start of a run within the limits
pub record IsReached (w : World) : Type 0 where
  pub config : Config
  pub txs : List TxDecl
  pub steps : List Step
  pub limits : KeepsLimits config
  pub fit_txs : FitsTxs config txs
  pub fit_steps : All (FitsStep config (length txs)) steps
  pub leads : w ≡ run (start config txs) steps
  pub same_config : w.config ≡ config
  pub same_txs : w.txs ≡ txs
