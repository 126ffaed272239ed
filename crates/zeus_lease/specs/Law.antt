-- Why a view may leave a node out: from then on the node never acts.
use Rattle.std.specs.Prelude.{ℕ, ◌≡◌, ◌≢◌, false}
use Rattle.zeus_base.specs.Nodes.{has}
use Rattle.zeus_model.specs.World.{last_view}
use Rattle.zeus_lease.specs.declared.answer.LeaseAnswer.TheVariants.{Acted}
use Rattle.zeus_lease.specs.declared.step.LeaseStep.TheVariants.{Act}
use Rattle.zeus_lease.specs.Machine.{Machine, happens, may_act}

-- the last view leaves the node out
abbrev pub IsLeftOut : Machine → ℕ → Type 0
IsLeftOut m n = has n (last_view m.views) ≡ false

-- an act of the node is not acted
abbrev pub NeverActs : Machine → ℕ → Type 0
NeverActs m n = ((happens m (Act n)).answer ≢ Acted) × (may_act m n ≡ false)
