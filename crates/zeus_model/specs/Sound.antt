-- Soundness of a world: one owner, one history, the replies of a serial run, and no copy that is older than it leaves.
use Rattle.std.specs.Prelude.{ℕ, suc, ◌≡◌, ◌<◌, ◌≤◌, true, false, ◌==◌, List, [], ◌∷◌, length, Some, is_some, if◌then◌else◌}
use Rattle.zeus_base.specs.Nodes.{has}
use Rattle.zeus_base.specs.Order.{is_below}
use Rattle.zeus_packet.specs.declared.letter.State.TheVariants.{Valid}
use Rattle.zeus_packet.specs.declared.place.Place.{Place}
use Rattle.zeus_txn.specs.declared.map.Versioned.{Versioned}
use Rattle.zeus_txn.specs.declared.ops.Op.{Op}
use Rattle.zeus_txn.specs.declared.reply.Reply.{Reply}
use Rattle.zeus_model.specs.declared.state.Copy.{Copy}
use Rattle.zeus_model.specs.declared.state.Entry.{Entry}
use Rattle.zeus_model.specs.State.{Node, entry, copy, owns}
use Rattle.zeus_model.specs.Book.{Point, record_of}
use Rattle.zeus_model.specs.Serial.{content, start_map, serial_map, serial_replies}
use Rattle.zeus_model.specs.World.{World, node, tx_decl}

-- a node is live where it is not stopped
abbrev pub IsLive : World → ℕ → Type 0
IsLive w n = (node w n).stopped ≡ false

-- a live node owns an object where its settled placement names it and it holds no proposal for the object
pub record IsLiveOwner (w : World) (x n : ℕ) : Type 0 where
  pub live : IsLive w n
  pub owns : owns (node w n) x ≡ true

-- the entry of the node that is settled at the greater stamp
unfoldable pub newer : Entry → Entry → Entry
newer a b = if is_below a.stamp b.stamp then b else a

unfoldable pub newest : ℕ → Entry → List Node → Entry
newest x e [] = e
newest x e (n ∷ ns) = newest x (newer e (entry n x)) ns

-- the entry with the greatest settled stamp over all nodes, stopped ones too
unfoldable pub latest_entry : World → ℕ → Entry
latest_entry w x = newest x (entry (node w 0) x) w.nodes

-- the latest placement of an object
abbrev pub latest_place : World → ℕ → Place
latest_place w x = (latest_entry w x).place

-- the transactions of the history, in order
unfoldable pub history_txs : World → List Point → List (List Op)
history_txs w [] = []
history_txs w (p ∷ ps) = (tx_decl w p.id).tx ∷ history_txs w ps

unfoldable pub replies_of : List Point → List Reply
replies_of [] = []
replies_of (p ∷ ps) = p.reply ∷ replies_of ps

-- what the history leaves of an object
abbrev pub left : World → ℕ → Versioned
left w x = content (serial_map (start_map w.config) (history_txs w w.book.points)) x

-- how often a transaction stands in the history
unfoldable pub times : ℕ → List Point → ℕ
times id [] = 0
times id (p ∷ ps) = if p.id == id then suc (times id ps) else times id ps

-- a transaction of the history stands there once, was begun, and has its point between its begin and its acknowledgement
pub record HasItsPlace (w : World) (id : ℕ) : Type 0 where
  pub once : times id w.book.points ≡ 1
  pub begun : (step : ℕ) × (begin : ℕ) × ((record_of w.book id).point ≡ Some step) × ((record_of w.book id).begun ≡ Some begin) × (begin ≤ step)
  pub acked : (step ack : ℕ) → (record_of w.book id).point ≡ Some step → (record_of w.book id).acked ≡ Some ack → step ≤ ack

-- each transaction of the history has its place, and each acknowledged transaction is in the history
pub record IsOneHistory (w : World) : Type 0 where
  pub placed : (id : ℕ) → 1 ≤ times id w.book.points → HasItsPlace w id
  pub complete : (id : ℕ) → is_some (record_of w.book id).acked ≡ true → 1 ≤ times id w.book.points

-- a copy is not older than what the history leaves, and where it is valid or of that version it is just that
pub record IsUpToDate (c : Copy) (left : Versioned) : Type 0 where
  pub not_older : left.ver ≤ c.ver
  pub valid : c.state ≡ Valid → (c.ver ≡ left.ver) × (c.value ≡ left.value)
  pub same : c.ver ≡ left.ver → c.value ≡ left.value

-- a node has a copy of the object, which is up to date
abbrev pub HasUpToDateCopy : World → ℕ → ℕ → Type 0
HasUpToDateCopy w n x = (c : Copy) × (copy (node w n) x ≡ Some c) × IsUpToDate c (left w x)

-- a world is sound where
pub record Sound (w : World) : Type 0 where
  -- no object has two live owners;
  pub one_owner : (x a b : ℕ) → x < length w.config.objects → IsLiveOwner w x a → IsLiveOwner w x b → a ≡ b
  -- the history has each acknowledged transaction, and each of its transactions once, between begin and acknowledgement;
  pub one_history : IsOneHistory w
  -- the replies of the history are those of its transactions run one after another;
  pub serial : replies_of w.book.points ≡ serial_replies (start_map w.config) (history_txs w w.book.points)
  -- and each live node of an object's latest placement has a copy that is up to date
  pub copies : (x n : ℕ) → x < length w.config.objects → IsLive w n → has n (latest_place w x).replicas ≡ true → HasUpToDateCopy w n x
