-- The lists that a word chooses from, each in rising order, and what it chooses.
use Rattle.std.specs.Prelude.{ℕ, suc, ◌%◌, Bool, ◌&&◌, not, nat_lt, List, [], ◌∷◌, ◌++◌, length, map, filter, filter_map, Option, Some, None, is_some, slice_get, if◌then◌else◌}
use Rattle.zeus_base.specs.Order.{same_stream}
use Rattle.zeus_base.specs.declared.config.Config.{Config}
use Rattle.zeus_base.specs.declared.order.Stream.{Stream}
use Rattle.zeus_txn.specs.declared.tx.TxDecl.{TxDecl}
use Rattle.zeus_model.specs.Tables.{below}
use Rattle.zeus_model.specs.Book.{Book, record_of}
use Rattle.zeus_model.specs.Readers.{is_live, live_among}
use Rattle.zeus_model.specs.State.{slot}
use Rattle.zeus_model.specs.World.{World, node, link}
use Rattle.random_schedule.specs.declared.fresh.FreshPacket.{FreshPacket}

-- the element of the list at place u modulo its length; of no element none
abbrev pub chosen : {A : Type 0} → ℕ → List A → Option A
chosen u xs = slice_get xs (u % length xs)

-- for each number of the first list and each of the second what they make, in order
unfoldable pub pairs : {A : Type 0} → (ℕ → ℕ → A) → List ℕ → List ℕ → List A
pairs f [] ns = []
pairs f (m ∷ ms) ns = map (f m) ns ++ pairs f ms ns

-- the live nodes
abbrev pub live_nodes : World → List ℕ
live_nodes w = live_among w (below w.config.nodes)

-- ---- slots

-- the slot of a node
abbrev pub stream : ℕ → ℕ → Stream
stream n s = record { node = n; slot = s }

-- each slot of each node
abbrev pub streams : Config → List Stream
streams c = pairs stream (below c.nodes) (below c.slots)

-- the transactions of a slot, numbered from k on
unfoldable pub txs_from : ℕ → Stream → List TxDecl → List ℕ
txs_from k s [] = []
txs_from k s (t ∷ ts) = if same_stream (stream t.node t.slot) s then k ∷ txs_from (suc k) s ts else txs_from (suc k) s ts

-- the transactions of a slot
abbrev pub own_txs : Stream → List TxDecl → List ℕ
own_txs s txs = txs_from 0 s txs

-- a transaction is begun
unfoldable pub is_begun : Book → ℕ → Bool
is_begun b k = is_some (record_of b k).begun

-- the first of the transactions that is not begun
unfoldable pub first_new : Book → List ℕ → Option ℕ
first_new b [] = None
first_new b (k ∷ ks) = if is_begun b k then first_new b ks else Some k

-- a slot has a current transaction
unfoldable pub has_current : World → Stream → Bool
has_current w s = is_some (slot (node w s.node) s.slot).current

-- the transaction that can begin at a slot: the least that is not begun, if its node is live and it has no current transaction
unfoldable pub ready_tx : World → Stream → Option ℕ
ready_tx w s = if is_live w s.node && not (has_current w s) then first_new w.book (own_txs s w.txs) else None

-- the transactions that can begin, by slot
abbrev pub ready_txs : World → List ℕ
ready_txs w = filter_map (ready_tx w) (streams w.config)

-- a slot can try if its node is live and it has a current transaction
unfoldable pub can_try : World → Stream → Bool
can_try w s = is_live w s.node && has_current w s

-- ---- links

-- how many packets were sent on the link
abbrev pub count_sent : World → FreshPacket → ℕ
count_sent w p = length (link w.links p.from p.to)

-- the link leads to a live node, and its next fresh packet was sent
unfoldable pub can_arrive : World → FreshPacket → Bool
can_arrive w p = is_live w p.to && nat_lt p.number (count_sent w p)

-- the link leads to a live node, and has a packet
unfoldable pub can_repeat : World → FreshPacket → Bool
can_repeat w p = is_live w p.to && nat_lt 0 (count_sent w p)
