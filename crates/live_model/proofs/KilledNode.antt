-- A node is killed before its first event: its stop, the view without it, and the install of that view.
use Rattle.std.specs.Prelude.{ℕ, zero, suc, ◌≡◌, List, [], ◌∷◌, Some}
use Rattle.std.proofs.Common.{refl, arith}
use Rattle.zeus_base.specs.declared.step.Step.TheVariants.{Stop, View, Install}
use Rattle.zeus_model.specs.declared.answer.Answer.TheVariants.{Install as InstallAnswer}
use Rattle.zeus_model.specs.declared.answer.Install.TheVariants.{Installed}
use Rattle.worked_runs.proofs.Machine.{machine}
use Rattle.live_model.specs.Cell.{CellEvent, Halted, Saw, does, core, sights_seen}
use Rattle.live_model.specs.Service.{ServiceEvent, sights}
use Rattle.live_model.specs.Cluster.{Plan, Cluster, IsCell, IsService}
use Rattle.live_model.specs.Client.{ClientView}
use Rattle.live_model.specs.Ends.{ClientId}
use Rattle.live_model.specs.Merge.{merged}
use Rattle.live_model.proofs.Opened.{live}
use Rattle.live_model.proofs.Whole.{cell_of, cell_of-keeps, service_of}
use Rattle.live_model.proofs.WriteHereReadThere.{two_nodes, at_clock}

abbrev plan : Plan
plan = record { config = two_nodes; txs = []; kill = Some record { node = 1; event = 0 } }

abbrev survivor : List CellEvent
survivor = at_clock 3 (Saw record { clock = 2; epoch = 2; members = 0 ∷ [] }) ∷ []

abbrev victim : List CellEvent
victim = at_clock 1 Halted ∷ []

unfoldable events_of : ℕ → List CellEvent
events_of zero = survivor
events_of (suc n) = victim

abbrev views_asked : List ServiceEvent
views_asked = record { clock = 2; node = 1; halt = 1; members = 0 ∷ [] } ∷ []

unfoldable client_of : ClientId → ClientView
client_of id = record { next = 0; best = 0; jobs = []; answers = []; notes = λ n. [] }

abbrev cluster : Cluster
cluster = record { cells = λ n. cell_of plan n (events_of n); clients = client_of; service = service_of plan views_asked }

survivor_keeps : IsCell plan 0 survivor (cell_of plan 0 survivor)
unfolding machine live
survivor_keeps = cell_of-keeps plan 0 survivor (omega arith) (refl, tt) (omega arith, tt) (tt, tt) (refl, λ h. absurd cc, tt)

victim_keeps : IsCell plan 1 victim (cell_of plan 1 victim)
unfolding machine live
victim_keeps = cell_of-keeps plan 1 victim (omega arith) (refl, tt) (tt, tt) (tt, tt) (refl, λ h. tt, tt)

service_keeps : IsService plan views_asked (service_of plan views_asked)
unfolding machine live
service_keeps = record { journal = refl; views = refl; clocks = (refl, tt); fit = (omega arith, tt); made = (refl, tt); halts = λ n. refl; sights = λ n. refl }

-- the survivor takes just the view that the service sends it
sent_and_taken : sights_seen survivor ≡ sights 0 two_nodes views_asked
unfolding machine live
sent_and_taken = refl

merge : merged two_nodes cluster ≡ Stop 1 ∷ View (0 ∷ []) ∷ Install 0 2 ∷ []
unfolding machine live events_of
merge = refl

-- the view is installed
install : (does [] (core 0 two_nodes [] []).node (Saw record { clock = 2; epoch = 2; members = 0 ∷ [] })).answer ≡ InstallAnswer Installed
unfolding machine live
install = refl
