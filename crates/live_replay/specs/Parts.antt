-- The parts of a list of events: those of each node, and those of the service.
use Rattle.std.specs.Prelude.{ℕ, ◌==◌, List, [], ◌∷◌, ◌++◌, if◌then◌else◌}
use Rattle.live_model.specs.Cell.{CellEvent}
use Rattle.live_model.specs.Service.{ServiceEvent}
use Rattle.live_model.specs.Merge.{Turn, cell_turn, service_turn}

-- what a function finds in a list, in order
unfoldable pub part : {A B : Type 0} → (A → List B) → List A → List B
part f [] = []
part f (x ∷ xs) = f x ++ part f xs

-- the event, where it is this node's
unfoldable pub of_cell : ℕ → Turn → List CellEvent
of_cell n (cell_turn m e) = if m == n then e ∷ [] else []
of_cell n (service_turn e) = []

-- the event, where it is the service's
unfoldable pub of_service : Turn → List ServiceEvent
of_service (cell_turn m e) = []
of_service (service_turn e) = e ∷ []

-- the events of a node
abbrev pub cell_part : ℕ → List Turn → List CellEvent
cell_part n ts = part (of_cell n) ts

-- the events of the service
abbrev pub service_part : List Turn → List ServiceEvent
service_part ts = part of_service ts
