-- What is kept from step to step, so that what a word chooses from need not be searched for.
use Rattle.std.specs.Prelude.{ℕ, ◌≡◌, ◌<◌, ◌≤◌, ◌+◌, ◌^◌, Bool, true, ◌||◌, List, length, map, All, slice_get, Some}
use Rattle.zeus_base.specs.declared.config.Config.{Config}
use Rattle.zeus_base.specs.declared.order.Stream.{Stream}
use Rattle.zeus_txn.specs.declared.tx.TxDecl.{TxDecl}
use Rattle.zeus_model.specs.Book.{Book}
use Rattle.zeus_model.specs.Tables.{nth}
use Rattle.zeus_model.specs.Readers.{is_acked, is_ended}
use Rattle.zeus_model.specs.World.{World}
use Rattle.random_schedule.specs.Choices.{is_begun, own_txs, streams}
use Rattle.random_schedule.specs.declared.fresh.FreshPacket.{FreshPacket}
use Rattle.random_schedule.specs.declared.queues.Queue.{Queue}

-- there is such a slot
pub record IsSlot (c : Config) (s : Stream) : Type 0 where
  pub node : s.node < c.nodes
  pub slot : s.slot < c.slots

-- each slot of a list is one of the configuration
abbrev pub AreSlots : Config → List Stream → Type 0
AreSlots c slots = All (IsSlot c) slots

-- there is such a link
pub record IsLink (c : Config) (p : FreshPacket) : Type 0 where
  pub from : p.from < c.nodes
  pub to : p.to < c.nodes

-- each link of a list is one of the configuration
abbrev pub AreLinks : Config → List FreshPacket → Type 0
AreLinks c links = All (IsLink c) links

-- the packet behind this one on its link has a number too
abbrev pub HasNext : FreshPacket → Type 0
HasNext p = p.number + 1 < 2 ^ 32

-- the queue of a slot has its transactions
abbrev pub IsQueue : List TxDecl → Queue → Type 0
IsQueue txs q = q.txs.items ≡ own_txs q.slot txs

-- there is a queue for each slot
pub record AreQueues (w : World) (queues : List Queue) : Type 0 where
  pub slots : map (λ q. q.slot) queues ≡ streams w.config
  pub each : All (IsQueue w.txs) queues

-- so many of the transactions are begun, from the first on
pub record AreBegun (b : Book) (txs : List ℕ) (count : ℕ) : Type 0 where
  pub within : count ≤ length txs
  pub each : (i : ℕ) → i < count → is_begun b (nth 0 txs i) ≡ true

-- of each queue so many transactions are begun
pub record AreAllBegun (b : Book) (queues : List Queue) (begun : List ℕ) : Type 0 where
  pub count : length begun ≡ length queues
  pub each : (i : ℕ) (q : Queue) → slice_get queues i ≡ Some q → AreBegun b q.txs.items (nth 0 begun i)

-- a transaction is acknowledged or refused, or its node has stopped; it stays so
unfoldable pub is_settled : World → ℕ → Bool
is_settled w k = is_acked w k || is_ended w k

-- so many transactions are settled, from the first on
pub record AreSettled (w : World) (count : ℕ) : Type 0 where
  pub within : count ≤ length w.txs
  pub each : (k : ℕ) → k < count → is_settled w k ≡ true
