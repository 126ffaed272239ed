-- Leases by clocks: what each step answers, and what it leaves. A node may act only while its own clock is below the end of
-- its lease; the service leaves a node out only where its own clock has come to the end that it keeps for the node.
use Rattle.std.specs.Prelude.{ℕ, suc, ◌+◌, ◌*◌, ◌/◌, max, Bool, false, ◌&&◌, not, nat_lt, nat_le, List, [], ◌∷◌, ◌++◌, length, map, replicate, slice_get, Option, Some, None, if◌then◌else◌}
use Rattle.zeus_base.specs.Nodes.{has, with_node}
use Rattle.zeus_base.specs.declared.step.Step.TheVariants.{View as ViewStep}
use Rattle.zeus_model.specs.State.{Node as WorldNode}
use Rattle.zeus_model.specs.Tables.{nth, put, below, first_of, where_true}
use Rattle.zeus_model.specs.World.{World, Event, happens as world_does, last_view, no_node as no_world_node, start as start_world}
use Rattle.zeus_model.specs.declared.answer.Answer.{Answer as WorldAnswer}
use Rattle.zeus_model.specs.declared.answer.Answer.TheVariants.{View as ViewAnswer}
use Rattle.zeus_model.specs.declared.answer.Made.{Made}
use Rattle.zeus_model.specs.declared.answer.Made.TheVariants.{Empty as NoMember}
use Rattle.zeus_lease.specs.declared.answer.LeaseAnswer.{LeaseAnswer}
use Rattle.zeus_lease.specs.declared.answer.LeaseAnswer.TheVariants as answers
use Rattle.zeus_lease.specs.declared.state.Ask.{Ask}
use Rattle.zeus_lease.specs.declared.state.Node.{Node}
use Rattle.zeus_lease.specs.declared.step.LeaseStep.{LeaseStep}
use Rattle.zeus_lease.specs.declared.step.LeaseStep.TheVariants as steps

pub record Machine : Type 0 where
  -- the length of a lease by the clock of its node
  pub length : ℕ
  -- by how many percent one clock may go faster than another
  pub percent : ℕ
  -- how many steps were taken
  pub steps : ℕ
  -- by number
  pub nodes : List Node
  -- the service's clock
  pub service : ℕ
  -- the nodes that found out that their lease has ended, which is for good
  pub ended : List ℕ
  pub asks : List Ask
  -- by number: the ask that each grant answers
  pub grants : List ℕ
  -- by epoch, from 1
  pub views : List (List ℕ)

-- past the last node stands one without a lease, whose clock never goes on
abbrev pub no_node : Node
no_node = record { clock = 0; end = None; expiry = 0 }

abbrev pub no_ask : Ask
no_ask = record { node = 0; clock = 0 }

abbrev pub node : Machine → ℕ → Node
node m n = nth no_node m.nodes n

abbrev pub with_node_at : Machine → ℕ → Node → Machine
with_node_at m n changed = record m { nodes = put no_node m.nodes n changed }

-- so many nodes, with all clocks at 0
unfoldable pub start : ℕ → ℕ → ℕ → Machine
start nodes term percent = record {
  length = term;
  percent = percent;
  steps = 0;
  nodes = replicate nodes no_node;
  service = 0;
  ended = [];
  asks = [];
  grants = [];
  views = below nodes ∷ [];
}

-- what a step does: the machine after it, and its answer
pub record Did : Type 0 where
  pub machine : Machine
  pub answer : LeaseAnswer

-- just this answer
abbrev pub just : Machine → LeaseAnswer → Did
just m a = record { machine = m; answer = a }

-- ---- time passes

-- whether a clock that goes on by `fast` goes too fast beside one that goes on by `slow`
unfoldable pub is_skewed : ℕ → ℕ → ℕ → Bool
is_skewed percent fast slow = nat_lt ((100 + percent) * slow) (100 * fast)

-- the first clock beside which this one goes too fast
unfoldable pub skewed_beside : ℕ → List ℕ → ℕ → ℕ → Option LeaseAnswer
skewed_beside percent ticks clocks fast =
    first_of (λ slow. where_true (is_skewed percent (nth 0 ticks fast) (nth 0 ticks slow)) (answers.Skewed fast slow)) (below clocks)

-- the first clock that goes too fast, with the first beside which it does; the service's clock is the last
unfoldable pub skew : ℕ → List ℕ → ℕ → Option LeaseAnswer
skew percent ticks clocks = first_of (skewed_beside percent ticks clocks) (below clocks)

-- each node's clock goes on by its number
unfoldable pub went_on : List Node → List ℕ → List Node
went_on [] ticks = []
went_on (n ∷ ns) [] = n ∷ ns
went_on (n ∷ ns) (t ∷ ts) = record n { clock = n.clock + t } ∷ went_on ns ts

-- pass: nothing moves where a clock goes too fast
unfoldable pub pass_or_not : Machine → List ℕ → Option LeaseAnswer → Did
pass_or_not m ticks (Some skewed) = just m skewed
pass_or_not m ticks None =
    just (record m { nodes = went_on m.nodes ticks; service = m.service + nth 0 ticks (length m.nodes) }) answers.Passed

-- ---- a lease is asked for, granted and taken

-- ask: the ask keeps the node and its clock
unfoldable pub ask : Machine → ℕ → Did
ask m n =
    if has n m.ended then just m answers.Ended
    else just (record m { asks = m.asks ++ record { node = n; clock = (node m n).clock } ∷ [] }) (answers.Asked (length m.asks))

-- how long the service waits for a lease by its own clock: as long as the fastest clock may need for the length, rounded up
abbrev pub wait : Machine → ℕ
wait m = (m.length * (100 + m.percent) + 99) / 100

-- the service grants an ask
abbrev pub granted : Machine → ℕ → ℕ → Did
granted m i n =
    just (record (with_node_at m n (record (node m n) { expiry = max (node m n).expiry (m.service + wait m) })) { grants = m.grants ++ i ∷ [] })
    (answers.Granted (length m.grants))

-- hear: the service grants an ask of a member of the last view
unfoldable pub hear : Machine → ℕ → Option Ask → Did
hear m i None = just m (answers.NoAsk (length m.asks))
hear m i (Some a) = if has a.node (last_view m.views) then granted m i a.node else just m answers.Dropped

-- the later of an end, if there is one, and another
unfoldable pub later : Option ℕ → ℕ → ℕ
later None end = end
later (Some other) end = max other end

-- a node takes a lease of its ask: its end is counted from the clock at which it asked
unfoldable pub take_by : Machine → Ask → Did
take_by m a =
    if has a.node m.ended then just m answers.Ended
    else just (with_node_at m a.node (record (node m a.node) { end = Some (later (node m a.node).end (a.clock + m.length)) }))
    (answers.Held (later (node m a.node).end (a.clock + m.length)))

-- take: the grant of this number
unfoldable pub take : Machine → Option ℕ → Did
take m None = just m (answers.NoGrant (length m.grants))
take m (Some i) = take_by m (nth no_ask m.asks i)

-- ---- a node acts

unfoldable pub act_by : Machine → ℕ → Option ℕ → Did
act_by m n None = just m answers.NoLease
act_by m n (Some end) =
    if nat_lt (node m n).clock end then just m answers.Acted
    else just (record m { ended = with_node n m.ended }) answers.Ended

-- act: under a lease whose end the node's clock has not come to; else it is ended for good
unfoldable pub act : Machine → ℕ → Did
act m n = if has n m.ended then just m answers.Ended else act_by m n (node m n).end

unfoldable pub is_below_end : ℕ → Option ℕ → Bool
is_below_end clock None = false
is_below_end clock (Some end) = nat_lt clock end

-- whether a node may act
unfoldable pub may_act : Machine → ℕ → Bool
may_act m n = not (has n m.ended) && is_below_end (node m n).clock (node m n).end

-- ---- the service makes a view

-- for the service a node counts as stopped where its own clock is not below the expiry of the node's leases
abbrev pub counts_as_stopped : ℕ → Node → Bool
counts_as_stopped service n = nat_le n.expiry service

abbrev pub world_node : ℕ → Node → WorldNode
world_node service n = record no_world_node { stopped = counts_as_stopped service n }

-- the world of the membership service: these views, and nodes that are stopped where they count as such
unfoldable pub seen : Machine → World
seen m =
    record (start_world record { version = 1; nodes = 0; slots = 0; directory = []; degree = None; objects = [] } []) {
      nodes = map (world_node m.service) m.nodes;
      views = m.views;
    }

-- what the membership service answers to a view
unfoldable pub made_in : WorldAnswer → Made
made_in (ViewAnswer made) = made
made_in _ = NoMember

-- view: what the membership service makes of it, as in the world that it sees
unfoldable pub view : Machine → Event → Did
view m e = just (record m { views = e.world.views }) (answers.View (made_in e.answer))

-- ---- steps

unfoldable pub happens : Machine → LeaseStep → Did
happens m (steps.Pass ticks) = pass_or_not m ticks (skew m.percent ticks (suc (length m.nodes)))
happens m (steps.Ask n) = ask m n
happens m (steps.Hear i) = hear m i (slice_get m.asks i)
happens m (steps.Take i) = take m (slice_get m.grants i)
happens m (steps.Act n) = act m n
happens m (steps.View set) = view m (world_does (seen m) (ViewStep set))

-- the machine after a step, which counts it
unfoldable pub stepped : Machine → LeaseStep → Machine
stepped m s = let after = (happens m s).machine in record after { steps = suc m.steps }

-- the machine after the steps, in order
unfoldable pub run : Machine → List LeaseStep → Machine
run m [] = m
run m (s ∷ ss) = run (stepped m s) ss
