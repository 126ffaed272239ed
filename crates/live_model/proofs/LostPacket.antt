-- A packet finds its ring full and is left out; the next one keeps its number, and the merge names that.
use Rattle.std.specs.Prelude.{ℕ, zero, suc, ◌≡◌, List, [], ◌∷◌, None}
use Rattle.std.proofs.Common.{refl}
use Rattle.zeus_base.specs.declared.step.Step.TheVariants.{Begin, Try, Tick, Deliver}
use Rattle.zeus_model.specs.declared.answer.Answer.TheVariants.{Receive}
use Rattle.zeus_model.specs.declared.answer.Outcome.TheVariants.{Taken}
use Rattle.worked_runs.proofs.Machine.{machine}
use Rattle.live_model.specs.Cell.{CellEvent, Began, Tried, Ticked, Took, core, does, sends, travelling}
use Rattle.live_model.specs.Client.{ClientView}
use Rattle.live_model.specs.Cluster.{Plan, Cluster, IsPart, none, left_out, kept}
use Rattle.live_model.specs.Ends.{ClientId}
use Rattle.live_model.specs.Merge.{merged}
use Rattle.live_model.proofs.Opened.{live}
use Rattle.live_model.proofs.Whole.{cell_of, service_of}
use Rattle.live_model.proofs.WriteHereReadThere.{two_nodes, write_and_read, at_clock, packet_of}

abbrev plan : Plan
plan = record { config = two_nodes; txs = write_and_read; kill = None }

abbrev sender : List CellEvent
sender = at_clock 1 (Began record { tx = 0; seen = 0 }) ∷ at_clock 2 (Tried 0) ∷ at_clock 3 Ticked ∷ []

abbrev receiver : List CellEvent
receiver = at_clock 4 (Took 0 (packet_of 0 1 sender 1)) ∷ []

unfoldable events_of : ℕ → List CellEvent
events_of zero = sender
events_of (suc n) = receiver

unfoldable client_of : ClientId → ClientView
client_of id = record { next = 1; best = 0; jobs = []; answers = []; notes = λ n. [] }

abbrev cluster : Cluster
cluster = record { cells = λ n. cell_of plan n (events_of n); clients = client_of; service = service_of plan [] }

-- the packet of number 0 was left out of the ring
left_out_one : IsPart (packet_of 0 1 sender 1 ∷ []) (travelling (sends 0 two_nodes write_and_read 1 sender))
unfolding machine live
left_out_one = left_out (packet_of 0 1 sender 0) _ _ (kept (packet_of 0 1 sender 1) [] [] none)

-- the merge names the packet that came
merge : merged two_nodes cluster ≡ Begin 0 ∷ Try 0 0 ∷ Tick 0 ∷ Deliver 0 1 1 ∷ []
unfolding machine live events_of
merge = refl

-- which is taken
answer : (does write_and_read (core 1 two_nodes write_and_read []).node (Took 0 (packet_of 0 1 sender 1))).answer ≡ Receive Taken
unfolding machine live
answer = refl
