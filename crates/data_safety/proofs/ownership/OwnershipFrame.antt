-- What a move leaves that neither commits nor stores nor passes, and what then still holds of copies, entries and the book.
use Rattle.std.specs.Prelude.{ℕ, zero, suc, ◌≡◌, ◌+◌, ◌-◌, ◌<◌, ◌≤◌, true, List, [], ◌∷◌, length, Some, is_some, ◌⊎◌, ◌↔◌}
use Rattle.std.proofs.Common.{refl, sym, ap, ◌∙◌, inl, inr}
use Rattle.zeus_base.specs.Nodes.{has}
use Rattle.zeus_base.specs.declared.config.Config.{Config}
use Rattle.zeus_base.specs.declared.order.Stream.{Stream}
use Rattle.zeus_packet.specs.declared.place.Proposal.{Proposal}
use Rattle.zeus_packet.specs.declared.write.Content.{Content}
use Rattle.zeus_packet.specs.declared.write.Write.{Write}
use Rattle.zeus_txn.specs.Ops.{mentions}
use Rattle.zeus_txn.specs.declared.ops.Op.{Op}
use Rattle.zeus_txn.specs.declared.tx.TxDecl.{TxDecl}
use Rattle.zeus_txn.specs.declared.map.Versioned.{Versioned}
use Rattle.zeus_model.specs.In.{In}
use Rattle.zeus_model.specs.Tables.{nth}
use Rattle.zeus_model.specs.State.{copy, slot}
use Rattle.zeus_model.specs.Book.{Book, Point}
use Rattle.zeus_model.specs.Serial.{content, start_map, serial_map}
use Rattle.zeus_model.specs.World.{no_tx}
use Rattle.zeus_model.specs.declared.state.Copy.{Copy}
use Rattle.machine_moves.specs.SystemState.{IsLive, view}
use Rattle.replication_safety.specs.StreamState.{Entry, Has, end, kept_at}
use Rattle.replication_safety.specs.ReplicationInvariant.{ReplicationInvariant}
use Rattle.invariants.specs.Streams.{stream_state}
use Rattle.invariants.proofs.StreamSeen.{Seen}
use Rattle.data_safety.specs.RunState.{RunState, Witness, tx_ops, txs_of, place_now, pending_at, Lives, running, overwritten}
use Rattle.data_safety.specs.DataInvariant.{DataInvariant, IsCopied, IsClean, IsNewer, left, found_at, content_of}
use Rattle.data_safety.proofs.Consequences.{lives-named, written-named, kept-lives, kept-writes}
use Rattle.data_safety.proofs.ownership.StreamsUnchanged.{SameRows, SameSlots, IsSamePending, still-replication, still-alive, rows-had, rows-has, rows-entry}

-- ---- what the history leaves

txs_in : List TxDecl → List Point → List (List Op)
txs_in txs [] = []
txs_in txs (p ∷ ps) = (nth no_tx txs p.id).tx ∷ txs_in txs ps

txs_of-in : (y : RunState) (ps : List Point) → txs_of y ps ≡ txs_in y.txs ps
unfolding txs_of txs_in
txs_of-in y [] = refl
txs_of-in y (p ∷ ps) = ap (λ (z : List (List Op)). tx_ops y p.id ∷ z) (txs_of-in y ps)

map_content : List Versioned → ℕ → Content
map_content m x = record { ver = (content m x).ver; value = (content m x).value }

left-map : (y : RunState) → left y ≡ map_content (serial_map (start_map y.system.config) (txs_of y y.book.points))
unfolding left map_content
left-map y = refl

-- if the transactions and the book stay, then so do the transactions of the points
pub txs-same : (y z : RunState) → z.txs ≡ y.txs → z.book ≡ y.book → txs_of z z.book.points ≡ txs_of y y.book.points
txs-same y z txs book =
    txs_of-in z z.book.points ∙ ap (λ (t : List TxDecl). txs_in t z.book.points) txs
    ∙ ap (λ (b : Book). txs_in y.txs b.points) book ∙ sym (txs_of-in y y.book.points)

-- if the configuration, the transactions and the book stay, then so do the contents that the history leaves
pub left-same : (y z : RunState) → z.system.config ≡ y.system.config → z.txs ≡ y.txs → z.book ≡ y.book → left z ≡ left y
left-same y z config txs book =
    left-map z ∙ ap (λ (c : Config). map_content (serial_map (start_map c) (txs_of z z.book.points))) config
    ∙ ap (λ (t : List (List Op)). map_content (serial_map (start_map y.system.config) t)) (txs-same y z txs book) ∙ sym (left-map y)

running-same : (found : ℕ → Content) (one two : ℕ → List Write) (j : ℕ) → ((i : ℕ) → one i ≡ two i) → running found one j ≡ running found two j
unfolding running
running-same found one two zero same = refl
running-same found one two (suc j) same =
    ap (λ (g : ℕ → Content). overwritten g (one j)) (running-same found one two j same) ∙ ap (λ (w : List Write). overwritten (running found two j) w) (same j)

-- ---- what the move leaves

-- a move that neither commits nor stores nor passes: the book, the ends of streams and what has passed stay
pub record IsFramed (y z : RunState) (u : Witness) : Type 0 where
  pub config : z.system.config ≡ y.system.config
  pub txs : z.txs ≡ y.txs
  pub book : z.book ≡ y.book
  pub live : (n : ℕ) → IsLive z.system n → IsLive y.system n
  pub slots : (n : ℕ) → SameSlots (y.system.node n) (z.system.node n)
  pub dones : (t : Stream) (m : ℕ) → (stream_state z.system t).done m ≡ (stream_state y.system t).done m
  pub ends : (t : Stream) → end (stream_state z.system t) ≡ end (stream_state y.system t)
  pub seen : (t : Stream) → Seen (stream_state y.system t) (stream_state z.system t) (u.passed t)
  pub first : (n : ℕ) → has n (view y.system 1) ≡ true → has n (view z.system 1) ≡ true

-- the witness with these chains
abbrev pub with_chains : Witness → (ℕ → List Proposal) → Witness
with_chains u chain = record { chain = chain; passed = u.passed }

-- the placement and the copies of an object stay
pub record IsSameObject (y z : RunState) (u v : Witness) (x : ℕ) : Type 0 where
  pub place : place_now z v x ≡ place_now y u x
  pub copies : (n : ℕ) → IsLive z.system n → copy (z.system.node n) x ≡ copy (y.system.node n) x

-- the placement of a clean object is another, and its copies are what the history leaves
pub record IsRenewed (y z : RunState) (u v : Witness) (x : ℕ) : Type 0 where
  pub clean : IsClean y u x
  pub placed : (n : ℕ) → IsLive z.system n → (is_some (copy (z.system.node n) x) ≡ true) ↔ (has n (place_now z v x).replicas ≡ true)
  pub content : (n : ℕ) (c : Copy) → IsLive z.system n → copy (z.system.node n) x ≡ Some c → content_of c ≡ left y x

module _ (y z : RunState) (u : Witness) (chain : ℕ → List Proposal) (f : DataInvariant y u) (s : IsFramed y z u) where
  -- after a framed move the invariant holds of each stream
  pub framed-replication : (t : Stream) → ReplicationInvariant (stream_state z.system t) (u.passed t)
  framed-replication t = still-replication (stream_state y.system t) (stream_state z.system t) (u.passed t) (f.replication t) (s.dones t) (s.seen t)

  -- an entry that can still pass after a framed move could pass before
  pub framed-lives : (t : Stream) (k : ℕ) → Lives z u t k → Lives y u t k
  framed-lives t k alive = still-alive (stream_state y.system t) (stream_state z.system t) (u.passed t) k (f.replication t) (s.dones t) (s.ends t) (s.seen t) alive

  -- a framed move changes a pending entry in its acknowledgements at most
  pub framed-pending : (t : Stream) (k : ℕ) → IsSamePending (pending_at y t k) (pending_at z t k)
  framed-pending t k = rw ((s.slots t.node).done t.slot) ((s.slots t.node).pending t.slot (k - (slot (y.system.node t.node) t.slot).done))

  -- a framed move leaves the contents that the history leaves
  pub framed-left : left z ≡ left y
  framed-left = left-same y z s.config s.txs s.book

  -- a framed move leaves the contents that an entry finds
  pub framed-found : (t : Stream) (k : ℕ) → found_at z u t k ≡ found_at y u t k
  unfolding found_at
  framed-found t k =
      ap (λ (g : ℕ → Content). running g (λ j. (pending_at z t (u.passed t + j)).writes) (k - u.passed t)) framed-left
      ∙ running-same (left y) (λ j. (pending_at z t (u.passed t + j)).writes) (λ j. (pending_at y t (u.passed t + j)).writes) (k - u.passed t)
      (λ j. (framed-pending t (u.passed t + j)).writes)

  -- an object that is clean stays clean over a framed move, whatever the chains
  pub framed-clean : (x : ℕ) → IsClean y u x → IsClean z (with_chains u chain) x
  unfolding IsClean
  framed-clean x clean t k alive m =
      let m' : mentions x (pending_at y t k).named ≡ true = rw (framed-pending t k).named at m in
      clean t k (framed-lives t k alive) m'

  -- a framed move leaves the operations of each transaction
  pub framed-ops : (id : ℕ) → tx_ops z id ≡ tx_ops y id
  framed-ops id = ap (λ (t : List TxDecl). (nth no_tx t id).tx) s.txs

  -- an object of the configuration after a framed move was one before
  pub framed-within : (x : ℕ) → x < length z.system.config.objects → x < length y.system.config.objects
  framed-within x h = rw s.config at h

  -- what an entry that can still pass names is an object of the configuration
  pub lives-within : (t : Stream) (k x : ℕ) → Lives y u t k → mentions x (pending_at y t k).named ≡ true → x < length y.system.config.objects
  lives-within t k x alive m = f.booked.objects (pending_at y t k).id x (rw (lives-named y u f t k alive) at m)

  -- ---- copies

  module _ (rows : (n : ℕ) → SameRows (y.system.node n) (z.system.node n))
      (objects : (x : ℕ) → x < length y.system.config.objects → IsSameObject y z u (with_chains u chain) x ⊎ IsRenewed y z u (with_chains u chain) x) where
    framed-kept : (t : Stream) (n k : ℕ) → (kept_at (stream_state z.system t) n k).writes ≡ (kept_at (stream_state y.system t) n k).writes
    framed-kept t n k = ap (λ (e : Entry). e.writes) (rows-entry y.system z.system rows t n k)

    framed-placed : (n x : ℕ) → x < length z.system.config.objects → IsLive z.system n
        → (is_some (copy (z.system.node n) x) ≡ true) ↔ (has n (place_now z (with_chains u chain) x).replicas ≡ true)
    framed-placed n x within live =
        elim (objects x (framed-within x within)) [
          | inr renewed ↦ renewed.placed n live
          | inl same ↦
              let before = f.copied.placed n x (framed-within x within) (s.live n live) in
              rw (same.copies n live, same.place) before
        ]

    newer-after : (n x : ℕ) (c : Copy) → IsNewer y u n x c → IsNewer z (with_chains u chain) n x c
    newer-after n x c newer =
        let w = newer.written in
        record {
          above = rw framed-left newer.above;
          not_valid = newer.not_valid;
          written = (w.0, w.1, w.2, rows-has y.system z.system rows w.0 n w.1 w.3, rw (framed-kept w.0 n w.1) w.4);
        }

    framed-content : (n x : ℕ) (c : Copy) → x < length z.system.config.objects → IsLive z.system n → copy (z.system.node n) x ≡ Some c
        → (content_of c ≡ left z x) ⊎ IsNewer z (with_chains u chain) n x c
    framed-content n x c within live is =
        elim (objects x (framed-within x within)) [
          | inr renewed ↦ inl (rw framed-left (renewed.content n c live is))
          | inl same ↦
              elim (f.copied.content n x c (framed-within x within) (s.live n live) (sym (same.copies n live) ∙ is)) [
                | inl at_left ↦ inl (rw framed-left at_left)
                | inr newer ↦ inr (newer-after n x c newer)
              ]
        ]

    clean-none : (t : Stream) (n k : ℕ) (w : Write) → IsClean y u w.obj → IsLive y.system n → Has (stream_state y.system t) n k → u.passed t ≤ k → In w (kept_at (stream_state y.system t) n k).writes → ⊥
    unfolding IsClean
    clean-none t n k w clean live had above i =
        let alive = kept-lives y u f t n k live had above in
        clean t k alive (written-named y u f t k w alive (rw (← kept-writes y u f t n k had above) i))

    framed-taken : (n : ℕ) (t : Stream) (k : ℕ) (w : Write) (c : Copy) → w.obj < length z.system.config.objects → IsLive z.system n → Has (stream_state z.system t) n k → u.passed t ≤ k
        → In w (kept_at (stream_state z.system t) n k).writes → copy (z.system.node n) w.obj ≡ Some c → w.ver ≤ c.ver
    framed-taken n t k w c within live h above i is =
        let had : Has (stream_state y.system t) n k = rows-had y.system z.system rows t n k h in
        let i' : In w (kept_at (stream_state y.system t) n k).writes = rw (framed-kept t n k) at i in
        elim (objects w.obj (framed-within w.obj within)) [
          | inl same ↦ f.copied.taken n t k w c (framed-within w.obj within) (s.live n live) had above i' (sym (same.copies n live) ∙ is)
          | inr renewed ↦ absurd (clean-none t n k w renewed.clean (s.live n live) had above i')
        ]

    -- if each object stays or is renewed while clean, then after a framed move what holds of copies still holds
    pub framed-copied : IsCopied z (with_chains u chain)
    framed-copied = record { placed = framed-placed; content = framed-content; taken = framed-taken }
