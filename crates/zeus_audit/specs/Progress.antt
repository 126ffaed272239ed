-- What the lines of a report so far tell.
use Rattle.std.specs.Prelude.{ℕ, List, [], length, replicate}
use Rattle.zeus_base.specs.Tables.{nth}
use Rattle.zeus_txn.specs.Map.{start_map}
use Rattle.zeus_txn.specs.declared.map.Versioned.{Versioned}
use Rattle.zeus_txn.specs.declared.ops.Op.{Op}
use Rattle.zeus_model.specs.declared.script.Script.{Script}
use Rattle.zeus_model.specs.World.{no_tx}
use Rattle.zeus_audit.specs.declared.progress.Progress.{Progress}
use Rattle.zeus_audit.specs.declared.stage.Mark.{Mark}
use Rattle.zeus_audit.specs.declared.stage.Mark.TheVariants as marks
use Rattle.zeus_audit.specs.declared.stage.Stage.{Stage}
use Rattle.zeus_audit.specs.declared.stage.Stage.TheVariants as stages

-- which line may come next; how far each transaction has come; the transactions that have a point, in order; and what
-- they leave when they run one after another
pub record State : Type 0 where
  pub stage : Stage
  pub marks : List Mark
  pub points : List ℕ
  pub map : List Versioned

-- what the lines so far tell, as the rules have it
abbrev pub state_of : Progress → State
state_of p = record { stage = p.stage; marks = p.marks.items; points = p.points.items; map = p.map }

-- before the first line
unfoldable pub start : Script → State
start s = record { stage = stages.Head; marks = replicate (length s.txs) marks.New; points = []; map = start_map s.config }

-- how far a transaction has come; one that the script has not was never begun
abbrev pub mark_of : State → ℕ → Mark
mark_of st k = nth marks.New st.marks k

-- the operations of a transaction
abbrev pub ops_of : Script → ℕ → List Op
ops_of s k = (nth no_tx s.txs k).tx

-- the same, with another line to come
abbrev pub next : State → Stage → State
next st stage = record st { stage = stage }
