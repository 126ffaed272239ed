-- The membership service of a live run: it takes stops, makes views, and sends them to their members.
use Rattle.std.specs.Prelude.{ℕ, ◌≡◌, ◌+◌, ◌<◌, max, ◌&&◌, ◌==◌, List, [], ◌∷◌, ◌++◌, length, if◌then◌else◌}
use Rattle.zeus_base.specs.Nodes.{has, without}
use Rattle.zeus_base.specs.declared.config.Config.{Config}
use Rattle.zeus_base.specs.declared.step.Step.TheVariants.{View}
use Rattle.zeus_model.specs.declared.answer.Made.{Made}
use Rattle.zeus_model.specs.declared.answer.Made.TheVariants.{Installed, Empty}
use Rattle.zeus_model.specs.Tables.{below}
use Rattle.zeus_model.specs.World.{is_empty, last_view}
use Rattle.live_model.specs.Items.{Sight, travels}
use Rattle.live_model.specs.Cell.{Entry}

-- an event of the service: it took the stop of a node, with the stop's clock, and asks for a view of these members
pub record ServiceEvent : Type 0 where
  pub clock : ℕ
  pub node : ℕ
  pub halt : ℕ
  pub members : List ℕ

-- the journal's entry of an event
abbrev pub service_entry : ServiceEvent → Entry
service_entry e = record { clock = e.clock; step = View e.members }

-- the service's answer: a view has members
unfoldable pub made : List (List ℕ) → List ℕ → Made
made views members = if is_empty members then Empty else Installed (length views + 1)

-- the views after an event
unfoldable pub viewed : List (List ℕ) → List ℕ → List (List ℕ)
viewed views members = if is_empty members then views else views ++ members ∷ []

-- the views after events, from some views on
unfoldable pub views_from : List (List ℕ) → List ServiceEvent → List (List ℕ)
views_from views [] = views
views_from views (e ∷ es) = views_from (viewed views e.members) es

-- the run begins with the view of all nodes
abbrev pub start_views : Config → List (List ℕ)
start_views c = below c.nodes ∷ []

-- the views that the service has after its events, from the start of the run on
abbrev pub views_made : Config → List ServiceEvent → List (List ℕ)
views_made c es = views_from (start_views c) es

-- ---- what the service keeps by its own doing

-- each clock is 1 plus the greatest of the clock before it and that of the stop
unfoldable pub AreServiceClocks : ℕ → List ServiceEvent → Type 0
AreServiceClocks before [] = Unit {0}
AreServiceClocks before (e ∷ es) = (e.clock ≡ max before e.halt + 1) × AreServiceClocks e.clock es

-- each view that is asked for has the last members but for the node that stopped
unfoldable pub AreViews : List (List ℕ) → List ServiceEvent → Type 0
AreViews views [] = Unit {0}
AreViews views (e ∷ es) = (e.members ≡ without e.node (last_view views)) × AreViews (viewed views e.members) es

-- the stops are those of nodes that there are
unfoldable pub HaltsFit : Config → List ServiceEvent → Type 0
HaltsFit c [] = Unit {0}
HaltsFit c (e ∷ es) = (e.node < c.nodes) × HaltsFit c es

-- the clocks of the stops that it took from a node
unfoldable pub halts_taken : ℕ → List ServiceEvent → List ℕ
halts_taken n [] = []
halts_taken n (e ∷ es) = if e.node == n then e.halt ∷ halts_taken n es else halts_taken n es

-- an event sends the view to each of its members, where its clock travels
unfoldable pub sight_at : ℕ → List (List ℕ) → ServiceEvent → List Sight
sight_at m views e =
    if has m e.members && travels e.clock then record { clock = e.clock; epoch = length views + 1; members = e.members } ∷ [] else []

-- the views that events send to a node, from some views on
unfoldable pub sights_from : ℕ → List (List ℕ) → List ServiceEvent → List Sight
sights_from m views [] = []
sights_from m views (e ∷ es) = sight_at m views e ++ sights_from m (viewed views e.members) es

-- the views that the service sends to a node
abbrev pub sights : ℕ → Config → List ServiceEvent → List Sight
sights m c es = sights_from m (start_views c) es
