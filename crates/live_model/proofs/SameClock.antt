-- Two events at one clock: the one of the lesser node comes first, and the service behind all nodes.
use Rattle.std.specs.Prelude.{None, ℕ, zero, suc, ◌≡◌, List, [], ◌∷◌}
use Rattle.std.proofs.Common.{refl}
use Rattle.zeus_base.specs.declared.step.Step.TheVariants.{Tick, Stop, View}
use Rattle.worked_runs.proofs.Machine.{machine}
use Rattle.live_model.specs.Cell.{CellEvent, Ticked, Halted}
use Rattle.live_model.specs.Cluster.{Plan, Cluster}
use Rattle.live_model.specs.Client.{ClientView}
use Rattle.live_model.specs.Ends.{ClientId}
use Rattle.live_model.specs.Merge.{merged}
use Rattle.live_model.specs.Service.{ServiceEvent}
use Rattle.live_model.proofs.Opened.{live}
use Rattle.live_model.proofs.Whole.{cell_of, service_of}
use Rattle.live_model.proofs.WriteHereReadThere.{two_nodes, at_clock}

abbrev plan : Plan
plan = record { config = two_nodes; txs = []; kill = None }

unfoldable events_of : ℕ → List CellEvent
events_of zero = at_clock 1 Ticked ∷ at_clock 2 Ticked ∷ []
events_of (suc n) = at_clock 1 Ticked ∷ at_clock 2 Halted ∷ at_clock 3 Ticked ∷ []

abbrev views_asked : List ServiceEvent
views_asked = record { clock = 3; node = 1; halt = 2; members = 0 ∷ [] } ∷ []

unfoldable client_of : ClientId → ClientView
client_of id = record { next = 0; best = 0; jobs = []; answers = []; notes = λ n. [] }

abbrev cluster : Cluster
cluster = record { cells = λ n. cell_of plan n (events_of n); clients = client_of; service = service_of plan views_asked }

merge : merged two_nodes cluster ≡ Tick 0 ∷ Tick 1 ∷ Tick 0 ∷ Stop 1 ∷ Tick 1 ∷ View (0 ∷ []) ∷ []
unfolding machine live events_of
merge = refl
