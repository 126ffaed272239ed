-- What holds of the steps of a live run, of its cells and of its drive alike.
use Rattle.std.specs.Prelude.{ℕ, ◌≡◌, ◌+◌, ◌*◌, Bool, true, false, ◌||◌, List, [], ◌∷◌, All, Option}
use Rattle.zeus_base.specs.declared.config.Config.{Config}
use Rattle.zeus_base.specs.declared.step.Step.{Step}
use Rattle.zeus_base.specs.declared.step.Step.TheVariants.{Stop, View, Install}
use Rattle.zeus_txn.specs.declared.tx.TxDecl.{TxDecl}
use Rattle.zeus_model.specs.World.{World, happens, stepped, run, start}
use Rattle.machine_moves.specs.Fits.{StepFits}
use Rattle.live_model.specs.Cell.{Kill}
use Rattle.live_model.specs.Cluster.{Plan}
use Rattle.live_model.specs.Drive.{Going, is_due, counts_as, count_of, drive}
use Rattle.live_replay.specs.Replayed.{IsMissed}

-- each step finds there what it needs
unfoldable pub NoneMissed : World → List Step → Type 0
NoneMissed w [] = Unit {0}
NoneMissed w (s ∷ ss) = (IsMissed (happens w s).answer → ⊥) × NoneMissed (stepped w s) ss

-- whether a step is a stop
unfoldable pub is_stop : Step → Bool
is_stop (Stop n) = true
is_stop _ = false

-- views and installs come of stops
unfoldable pub needs_stop : Step → Bool
needs_stop (View set) = true
needs_stop (Install n e) = true
needs_stop _ = false

-- whether a stop is among the steps
unfoldable pub has_stop : List Step → Bool
has_stop [] = false
has_stop (s ∷ ss) = is_stop s || has_stop ss

-- after so many steps of the node to be killed: its step of the kill's number is its stop, no other step is a stop, and views and
-- installs stand behind a stop
unfoldable pub StopsAtKill : Option Kill → List TxDecl → ℕ → Bool → List Step → Type 0
StopsAtKill kill txs count stopped [] = Unit {0}
StopsAtKill kill txs count stopped (s ∷ ss) =
    (is_stop s ≡ is_due kill txs count s) × (needs_stop s ≡ true → stopped ≡ true)
    × StopsAtKill kill txs (counts_as kill txs s + count) (is_stop s || stopped) ss

-- steps that a live run can have
pub record IsLiveRun (p : Plan) (steps : List Step) : Type 0 where
  pub fit : All (StepFits p.config p.txs) steps
  pub found : NoneMissed (start p.config p.txs) steps
  pub stops : StopsAtKill p.kill p.txs 0 false steps

-- the drive behind the steps of a run
abbrev pub driven : Plan → List Step → ℕ → Going
driven p before rounds = drive (run (start p.config p.txs) before) rounds p.kill (count_of p.kill p.txs before)

-- how many steps a round of a drive has at most, begins aside
unfoldable pub per_round : Config → ℕ
per_round c = 1 + c.nodes + c.nodes * c.slots + c.nodes * (c.nodes * 16) + c.nodes
