-- A clock that has reached 2^62: the events go on, and nothing that they send travels.
use Rattle.std.specs.Prelude.{◌≡◌, ◌+◌, ◌-◌, ◌^◌, List, [], ◌∷◌, length}
use Rattle.std.proofs.Common.{refl}
use Rattle.worked_runs.proofs.Machine.{machine}
use Rattle.live_model.specs.Cell.{CellEvent, Began, Tried, AreClocks, sends, travelling}
use Rattle.live_model.proofs.Opened.{live}
use Rattle.live_model.proofs.WriteHereReadThere.{two_nodes, write_and_read, at_clock}

abbrev late : List CellEvent
late = at_clock (2 ^ 62) (Began record { tx = 0; seen = 2 ^ 62 - 1 }) ∷ at_clock (2 ^ 62 + 1) (Tried 0) ∷ []

clocks : AreClocks 0 late
unfolding machine live
clocks = (refl, (refl, tt))

-- the entry is sent to its follower
sent : length (sends 0 two_nodes write_and_read 1 late) ≡ 1
unfolding machine live
sent = refl

-- but gets into no ring
travels : travelling (sends 0 two_nodes write_and_read 1 late) ≡ []
unfolding machine live
travels = refl
