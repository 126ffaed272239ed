-- What holds of copies, contents and the book at every moment.
use Rattle.std.specs.Prelude.{ℕ, ◌≡◌, ◌≢◌, ◌+◌, ◌-◌, ◌<◌, ◌≤◌, true, false, List, [], ◌∷◌, length, Some, None, is_some, ◌⊎◌, ◌↔◌}
use Rattle.zeus_base.specs.Limits.{KeepsLimits}
use Rattle.zeus_base.specs.Nodes.{has}
use Rattle.zeus_base.specs.declared.order.Stream.{Stream}
use Rattle.zeus_base.specs.declared.value.Value.{Value}
use Rattle.zeus_packet.specs.declared.letter.State.TheVariants.{Valid}
use Rattle.zeus_packet.specs.declared.place.Proposal.{Proposal}
use Rattle.zeus_packet.specs.declared.write.Content.{Content}
use Rattle.zeus_packet.specs.declared.write.Write.{Write}
use Rattle.zeus_txn.specs.Ops.{mentions, named, is_write}
use Rattle.zeus_txn.specs.Run.{run}
use Rattle.zeus_model.specs.In.{In}
use Rattle.zeus_model.specs.Tables.{nth}
use Rattle.zeus_model.specs.State.{copy, owns, slot}
use Rattle.zeus_model.specs.Commit.{no_pending}
use Rattle.zeus_model.specs.Book.{EntryId, record_of}
use Rattle.zeus_model.specs.Serial.{content, start_map, serial_map, serial_replies}
use Rattle.zeus_model.specs.Sound.{replies_of, times}
use Rattle.zeus_model.specs.World.{no_tx}
use Rattle.zeus_model.specs.declared.state.Copy.{Copy}
use Rattle.zeus_model.specs.declared.state.Current.{Current}
use Rattle.machine_moves.specs.SystemState.{IsLive, view}
use Rattle.machine_moves.proofs.Steady.{IsSteady}
use Rattle.ownership_safety.specs.Object.{HasGiven}
use Rattle.ownership_safety.specs.OwnershipInvariant.{OwnershipInvariant}
use Rattle.replication_safety.specs.StreamState.{Has, Entry, Stores, end, kept_at}
use Rattle.replication_safety.specs.ReplicationInvariant.{ReplicationInvariant}
use Rattle.invariants.specs.Streams.{stream_state}
use Rattle.invariants.specs.Objects.{object}
use Rattle.data_safety.specs.RunState.{RunState, Witness, tx_ops, txs_of, place_now, pending_at, Lives, running}

-- what the history leaves of an object
unfoldable pub left : RunState → ℕ → Content
left y x =
    record {
      ver = (content (serial_map (start_map y.system.config) (txs_of y y.book.points)) x).ver;
      value = (content (serial_map (start_map y.system.config) (txs_of y y.book.points)) x).value;
    }

-- no entry that can still pass names the object
unfoldable pub IsClean : RunState → Witness → ℕ → Type 0
IsClean y u x = (t : Stream) (k : ℕ) → Lives y u t k → mentions x (pending_at y t k).named ≡ true → ⊥

-- the contents that an entry of a stream finds
unfoldable pub found_at : RunState → Witness → Stream → ℕ → ℕ → Content
found_at y u t k = running (left y) (λ j. (pending_at y t (u.passed t + j)).writes) (k - u.passed t)

-- writes with versions one above those that they find
unfoldable pub raised : (ℕ → Content) → List (ℕ × Value) → List Write
raised found [] = []
raised found (w ∷ ws) = record { obj = w.0; ver = (found w.0).ver + 1; value = w.1 } ∷ raised found ws

-- an entry is what its transaction makes of what it finds
pub record IsRun (y : RunState) (u : Witness) (t : Stream) (k : ℕ) : Type 0 where
  pub reply : (run (λ x. (found_at y u t k x).value) (tx_ops y (pending_at y t k).id)).reply ≡ (pending_at y t k).reply
  pub writes : raised (found_at y u t k) (run (λ x. (found_at y u t k x).value) (tx_ops y (pending_at y t k).id)).writes ≡ (pending_at y t k).writes

-- an unpassed entry that the node keeps writes this content of the object
abbrev pub IsWritten : RunState → Witness → ℕ → ℕ → Content → Type 0
IsWritten y u n x c = (t : Stream) × (k : ℕ) × (u.passed t ≤ k) × Has (stream_state y.system t) n k × In record { obj = x; ver = c.ver; value = c.value } (kept_at (stream_state y.system t) n k).writes

-- the version and the value of a copy
abbrev pub content_of : Copy → Content
content_of c = record { ver = c.ver; value = c.value }

-- a copy is what the history leaves, or a newer write that has not passed, and then it is not valid
pub record IsNewer (y : RunState) (u : Witness) (n x : ℕ) (c : Copy) : Type 0 where
  pub above : (left y x).ver < c.ver
  pub not_valid : c.state ≢ Valid
  pub written : IsWritten y u n x (content_of c)

-- copies
pub record IsCopied (y : RunState) (u : Witness) : Type 0 where
  -- a live node has a copy exactly where it is in the latest placement
  pub placed : (n x : ℕ) → x < length y.system.config.objects → IsLive y.system n → (is_some (copy (y.system.node n) x) ≡ true) ↔ (has n (place_now y u x).replicas ≡ true)
  pub content : (n x : ℕ) (c : Copy) → x < length y.system.config.objects → IsLive y.system n → copy (y.system.node n) x ≡ Some c → (content_of c ≡ left y x) ⊎ IsNewer y u n x c
  pub taken : (n : ℕ) (t : Stream) (k : ℕ) (w : Write) (c : Copy) → w.obj < length y.system.config.objects → IsLive y.system n → Has (stream_state y.system t) n k → u.passed t ≤ k
      → In w (kept_at (stream_state y.system t) n k).writes → copy (y.system.node n) w.obj ≡ Some c → w.ver ≤ c.ver

-- entries
pub record IsEntered (y : RunState) (u : Witness) : Type 0 where
  -- who has pending entries was a member of the first view
  pub home : (t : Stream) (i : ℕ) → i < length (slot (y.system.node t.node) t.slot).pending → has t.node (view y.system 1) ≡ true
  -- what can still pass belongs to the owner of the latest placement, and its writes go to all of its replicas
  pub owner : (t : Stream) (k x : ℕ) → Lives y u t k → mentions x (pending_at y t k).named ≡ true → t.node ≡ (place_now y u x).owner
  pub followed : (t : Stream) (k f : ℕ) (w : Write) → Lives y u t k → In w (pending_at y t k).writes → has f (place_now y u w.obj).replicas ≡ true
      → (has f (pending_at y t k).followers ≡ true) ⊎ (f ≡ t.node)
  pub serial : (t : Stream) (k : ℕ) → Lives y u t k → IsRun y u t k
  -- no object is named by pending entries of two slots
  pub apart : (n s r i j x : ℕ) → s ≢ r → i < length (slot (y.system.node n) s).pending → j < length (slot (y.system.node n) r).pending
      → mentions x (nth no_pending (slot (y.system.node n) s).pending i).named ≡ true
      → mentions x (nth no_pending (slot (y.system.node n) r).pending j).named ≡ true → ⊥
  -- a live node owns what its pending entries name
  pub owned : (n s i x : ℕ) → IsLive y.system n → i < length (slot (y.system.node n) s).pending
      → mentions x (nth no_pending (slot (y.system.node n) s).pending i).named ≡ true → owns (y.system.node n) x ≡ true
  -- a content that a source gave for a change of the latest placement is what the history leaves, and nothing can change it
  pub given : (n x e : ℕ) (p : Proposal) (c : Content) → x < length y.system.config.objects → HasGiven (object y.system x) n p c e
      → p.base.ver ≡ length (u.chain x) → IsClean y u x × (c ≡ left y x)
  -- entries that have passed are not above the history
  pub low : (t : Stream) (from to e k d : ℕ) (i : Entry) (w : Write) → In (Stores from to e k d i) (stream_state y.system t).letters → k < u.passed t
      → In w i.writes → w.ver ≤ (left y w.obj).ver

-- the book and the pipelines
pub record IsBooked (y : RunState) (u : Witness) : Type 0 where
  -- objects of transactions are those of the configuration
  pub objects : (id x : ℕ) → mentions x (named (tx_ops y id)) ≡ true → x < length y.system.config.objects
  -- each entry of a stream is that of one write transaction of its slot
  pub entry : (t : Stream) (k : ℕ) → k < end (stream_state y.system t)
      → (id : ℕ) × ((record_of y.book id).entry ≡ Some record { stream = t; number = k }) × (is_write (tx_ops y id) ≡ true)
      × ((nth no_tx y.txs id).node ≡ t.node) × ((nth no_tx y.txs id).slot ≡ t.slot)
  pub one_entry : (i j : ℕ) (e : EntryId) → (record_of y.book i).entry ≡ Some e → (record_of y.book j).entry ≡ Some e → i ≡ j
  pub below_end : (id : ℕ) (e : EntryId) → (record_of y.book id).entry ≡ Some e → e.number < end (stream_state y.system e.stream)
  -- a pending entry is that of its transaction, with its reply and its objects, and writes only what it names
  pub pending : (t : Stream) (i : ℕ) → i < length (slot (y.system.node t.node) t.slot).pending
      → let p = nth no_pending (slot (y.system.node t.node) t.slot).pending i in
      ((record_of y.book p.id).entry ≡ Some record { stream = t; number = (slot (y.system.node t.node) t.slot).done + i })
      × ((record_of y.book p.id).reply ≡ Some p.reply) × (p.named ≡ named (tx_ops y p.id))
  -- the current transaction of a slot belongs to it, is begun, and has not ended
  pub current : (n s : ℕ) (c : Current) → (slot (y.system.node n) s).current ≡ Some c
      → (c.tx ≡ tx_ops y c.id) × (is_some (record_of y.book c.id).begun ≡ true) × ((record_of y.book c.id).entry ≡ None) × ((record_of y.book c.id).point ≡ None)
      × ((record_of y.book c.id).refused ≡ false) × ((nth no_tx y.txs c.id).node ≡ n) × ((nth no_tx y.txs c.id).slot ≡ s)
  -- what ended in any way was begun, and no step of the book is past the count of steps
  pub begun : (id : ℕ) → (is_some (record_of y.book id).entry ≡ true) ⊎ ((is_some (record_of y.book id).point ≡ true) ⊎ ((record_of y.book id).refused ≡ true))
      → is_some (record_of y.book id).begun ≡ true
  pub begun_before : (id step : ℕ) → (record_of y.book id).begun ≡ Some step → step ≤ y.book.steps
  pub point_after : (id begin step : ℕ) → (record_of y.book id).begun ≡ Some begin → (record_of y.book id).point ≡ Some step → (begin ≤ step) × (step ≤ y.book.steps)
  pub acked_at : (id step : ℕ) → (record_of y.book id).acked ≡ Some step → (record_of y.book id).point ≡ Some step
  -- the history has each transaction with a point once, and no other
  pub once : (id : ℕ) → times id y.book.points ≤ 1
  pub in_history : (id : ℕ) → (is_some (record_of y.book id).point ≡ true) ↔ (1 ≤ times id y.book.points)
  -- a write transaction has its point exactly where its entry has passed, and is acknowledged exactly where its own node has passed it
  pub passed : (id : ℕ) (e : EntryId) → (record_of y.book id).entry ≡ Some e → (is_some (record_of y.book id).point ≡ true) ↔ (e.number < u.passed e.stream)
  pub acked : (id : ℕ) (e : EntryId) → (record_of y.book id).entry ≡ Some e
      → (is_some (record_of y.book id).acked ≡ true) ↔ (e.number < (slot (y.system.node e.stream.node) e.stream.slot).done)
  -- the replies of the history are those of a serial run
  pub replies : replies_of y.book.points ≡ serial_replies (start_map y.system.config) (txs_of y y.book.points)

-- what holds of a run at every moment: of its objects, its streams, its copies, its entries and its book
pub record DataInvariant (y : RunState) (u : Witness) : Type 0 where
  pub limits : KeepsLimits y.system.config
  pub steady : IsSteady y.system
  pub ownership : (x : ℕ) → x < length y.system.config.objects → OwnershipInvariant (object y.system x) (u.chain x)
  pub replication : (t : Stream) → ReplicationInvariant (stream_state y.system t) (u.passed t)
  pub copied : IsCopied y u
  pub entered : IsEntered y u
  pub booked : IsBooked y u
