-- Which steps fit a configuration and its transactions.
use Rattle.std.specs.Prelude.{◌<◌, ◌≤◌, List, length}
use Rattle.zeus_base.specs.NodeLaws.{IsRising, IsBelow}
use Rattle.zeus_base.specs.declared.config.Config.{Config}
use Rattle.zeus_base.specs.declared.step.Step.{Step}
use Rattle.zeus_base.specs.declared.step.Step.TheVariants.{Begin, Try, Deliver, Tick, Stop, View, Install}
use Rattle.zeus_txn.specs.declared.tx.TxDecl.{TxDecl}

-- nodes, slots and transactions are those that there are, a view is a set of nodes, and an epoch is at least 1
unfoldable pub StepFits : Config → List TxDecl → Step → Type 0
StepFits c txs (Begin k) = k < length txs
StepFits c txs (Try n s) = (n < c.nodes) × (s < c.slots)
StepFits c txs (Deliver from to i) = (from < c.nodes) × (to < c.nodes)
StepFits c txs (Tick n) = n < c.nodes
StepFits c txs (Stop n) = n < c.nodes
StepFits c txs (View set) = IsRising set × IsBelow c.nodes set
StepFits c txs (Install n e) = (n < c.nodes) × (1 ≤ e)
