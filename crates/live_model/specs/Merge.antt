-- The merge of journals: by clock, then place; and the run that it is.
use Rattle.std.specs.Prelude.{ℕ, zero, suc, ◌+◌, nat_lt, List, [], ◌∷◌, ◌++◌, length, map, Option, Some, None, if◌then◌else◌}
use Rattle.zeus_base.specs.declared.config.Config.{Config}
use Rattle.zeus_base.specs.declared.step.Step.{Step}
use Rattle.zeus_model.specs.Tables.{below}
use Rattle.live_model.specs.Cell.{CellEvent, Entry, entry}
use Rattle.live_model.specs.Service.{ServiceEvent, service_entry}
use Rattle.live_model.specs.Cluster.{Cluster, Events}

-- the first element of one of some lists, and the lists without it
pub record Pick (A : Type 0) : Type 0 where
  pub first : A
  pub rest : List (List A)

-- what is picked of lists behind an empty one
unfoldable pub behind_empty : {A : Type 0} → Option (Pick A) → Option (Pick A)
behind_empty None = None
behind_empty (Some p) = Some record { first = p.first; rest = [] ∷ p.rest }

-- the head x, or where its clock is less, the one picked of the lists behind
unfoldable pub earlier : {A : Type 0} → (A → ℕ) → A → List A → List (List A) → Option (Pick A) → Option (Pick A)
earlier clock x xs ls None = Some record { first = x; rest = xs ∷ ls }
earlier clock x xs ls (Some p) =
    if nat_lt (clock p.first) (clock x)
    then Some record { first = p.first; rest = (x ∷ xs) ∷ p.rest }
    else Some record { first = x; rest = xs ∷ ls }

-- the head with the least clock; of those with the same clock, that of the first list
unfoldable pub pick : {A : Type 0} → (A → ℕ) → List (List A) → Option (Pick A)
pick clock [] = None
pick clock ([] ∷ ls) = behind_empty (pick clock ls)
pick clock ((x ∷ xs) ∷ ls) = earlier clock x xs ls (pick clock ls)

-- the element that was picked, if any
unfoldable pub first_in : {A : Type 0} → Option (Pick A) → List A
first_in None = []
first_in (Some p) = p.first ∷ []

-- the lists without it
unfoldable pub rest_in : {A : Type 0} → Option (Pick A) → List (List A)
rest_in None = []
rest_in (Some p) = p.rest

-- so many elements of the lists, by clock, then list
unfoldable pub merge_of : {A : Type 0} → (A → ℕ) → ℕ → List (List A) → List A
merge_of clock zero ls = []
merge_of clock (suc count) ls = first_in (pick clock ls) ++ merge_of clock count (rest_in (pick clock ls))

-- how many elements the lists have together
unfoldable pub count_all : {A : Type 0} → List (List A) → ℕ
count_all [] = 0
count_all (l ∷ ls) = length l + count_all ls

-- all elements of the lists, by clock, then list
abbrev pub merge : {A : Type 0} → (A → ℕ) → List (List A) → List A
merge clock ls = merge_of clock (count_all ls) ls

-- the clock of an entry
unfoldable pub clock_in : Entry → ℕ
clock_in e = e.clock

-- the step of an entry
unfoldable pub step_in : Entry → Step
step_in e = e.step

-- the journals of the cells, by node, and then that of the service
unfoldable pub cell_journals : Cluster → List ℕ → List (List Entry)
cell_journals k [] = []
cell_journals k (n ∷ ns) = (k.cells n).journal ∷ cell_journals k ns

-- all journals, that of the service last
unfoldable pub journals : Config → Cluster → List (List Entry)
journals c k = cell_journals k (below c.nodes) ++ k.service.journal ∷ []

-- the steps of a cluster: its journals by clock, then node, the service behind all nodes
unfoldable pub merged : Config → Cluster → List Step
merged c k = map step_in (merge clock_in (journals c k))

-- ---- the same with the events that the entries stand for

-- an event of a node, or of the service
pub data Turn : Type 0 where
  cell_turn : ℕ → CellEvent → Turn
  service_turn : ServiceEvent → Turn

-- the journal's entry of an event
unfoldable pub entry_of : Turn → Entry
entry_of (cell_turn n e) = entry n e
entry_of (service_turn e) = service_entry e

-- its clock
abbrev pub turn_clock : Turn → ℕ
turn_clock t = (entry_of t).clock

-- its step
abbrev pub turn_step : Turn → Step
turn_step t = (entry_of t).step

-- the events of some nodes, by node
unfoldable pub cell_turns : Events → List ℕ → List (List Turn)
cell_turns es [] = []
cell_turns es (n ∷ ns) = map (cell_turn n) (es.cells n) ∷ cell_turns es ns

-- the events of all nodes, and then those of the service
unfoldable pub all_turns : Config → Events → List (List Turn)
all_turns c es = cell_turns es (below c.nodes) ++ map service_turn es.service ∷ []

-- the events in the order of the merge
unfoldable pub turns : Config → Events → List Turn
turns c es = merge turn_clock (all_turns c es)
