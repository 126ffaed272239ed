-- The machine that leases hold, and what each step keeps of it.
use Rattle.std.specs.Prelude.{ℕ, false, ◌≡◌, ◌<◌, ◌≤◌, ◌+◌, ◌*◌, ◌^◌, Some, length}
use Rattle.zeus_base.specs.Nodes.{has}
use Rattle.zeus_base.specs.NodeLaws.{IsBelow}
use Rattle.zeus_model.specs.Tables.{nth}
use Rattle.zeus_model.specs.World.{last_view}
use Rattle.zeus_lease.specs.declared.state.Ask.{Ask}
use Rattle.zeus_lease.specs.declared.state.State.{State}
use Rattle.zeus_lease.specs.Machine.{Machine, no_ask, node, wait}
use Rattle.zeus_lease.specs.Scripts.{FitsNumbers}

abbrev pub shown : State → Machine
shown s = record {
  length = s.length;
  percent = s.percent;
  steps = s.steps;
  nodes = s.nodes.items;
  service = s.service;
  ended = s.ended;
  asks = s.asks.items;
  grants = s.grants.items;
  views = s.views;
}

abbrev pub ask_of : Machine → ℕ → Ask
ask_of m i = nth no_ask m.asks i

-- ---- ranges: each step passes less than 2^32 by each clock, and makes one ask, grant or view at most

pub record HasRanges (m : Machine) : Type 0 where
  pub numbers : FitsNumbers (length m.nodes) m.length m.percent
  pub clocks : (k : ℕ) → (node m k).clock ≤ m.steps * 2 ^ 32
  pub service : m.service ≤ m.steps * 2 ^ 32
  pub asks : (i : ℕ) → i < length m.asks → ((ask_of m i).node < length m.nodes) × ((ask_of m i).clock ≤ m.steps * 2 ^ 32)
  pub few_asks : length m.asks ≤ m.steps
  pub few_grants : length m.grants ≤ m.steps
  pub few_views : length m.views ≤ m.steps + 1
  pub few_steps : m.steps ≤ 50000

-- ---- why a node that was left out does not act

-- A lease of node n that ends at `end`: the service's clock S, the node's clock c and the service's expiry x for the node keep
-- 100 * S + 100 * wait + (100 + percent) * end ≤ (100 + percent) * (c + length) + 100 * x. So where S has come to x, c has come
-- to the end, since 100 * wait is at least length * (100 + percent). A pass keeps it, because the service's clock goes on by
-- at most (100 + percent) / 100 of what the node's does.
pub record IsCovered (m : Machine) (n end : ℕ) : Type 0 where
  pub there : n < length m.nodes
  pub clocks : 100 * m.service + 100 * wait m + (100 + m.percent) * end ≤ (100 + m.percent) * ((node m n).clock + m.length) + 100 * (node m n).expiry

pub record IsSafe (m : Machine) : Type 0 where
  -- no ask is later than its node's clock
  pub asks : (i : ℕ) → i < length m.asks → (ask_of m i).clock ≤ (node m (ask_of m i).node).clock
  pub grants : (g : ℕ) → g < length m.grants → IsCovered m (ask_of m (nth 0 m.grants g)).node ((ask_of m (nth 0 m.grants g)).clock + m.length)
  pub answered : (g : ℕ) → g < length m.grants → nth 0 m.grants g < length m.asks
  pub leases : (n end : ℕ) → (node m n).end ≡ Some end → IsCovered m n end
  -- members are nodes, and the service has come to the expiry of the others
  pub members : IsBelow (length m.nodes) (last_view m.views)
  pub others : (n : ℕ) → has n (last_view m.views) ≡ false → (node m n).expiry ≤ m.service

pub record IsKept (m : Machine) : Type 0 where
  pub ranges : HasRanges m
  pub safe : IsSafe m
