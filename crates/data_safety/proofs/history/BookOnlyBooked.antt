-- A slot turns, and one transaction that has no entry is noted in the book: what the book then says.
use Rattle.std.specs.Prelude.{ℕ, ◌≡◌, ◌≢◌, ◌+◌, ◌<◌, ◌≤◌, true, false, length, Option, Some, None, is_some, ◌⊎◌, ◌↔◌}
use Rattle.std.proofs.Common.{refl, sym, ap, ◌∙◌, inl, inr}
use Rattle.zeus_base.specs.declared.order.Stream.{Stream}
use Rattle.zeus_txn.specs.Ops.{named}
use Rattle.zeus_model.specs.Tables.{nth}
use Rattle.zeus_model.specs.State.{Node, Slot, slot}
use Rattle.zeus_model.specs.Commit.{no_pending}
use Rattle.zeus_model.specs.Book.{Book, EntryId, TxRecord, record_of}
use Rattle.zeus_model.specs.Local.{with_current}
use Rattle.zeus_model.specs.Serial.{start_map, serial_replies}
use Rattle.zeus_model.specs.Sound.{replies_of, times}
use Rattle.zeus_model.specs.World.{no_tx}
use Rattle.zeus_model.specs.declared.state.Current.{Current}
use Rattle.zeus_model.specs.declared.state.Pending.{Pending}
use Rattle.machine_moves.proofs.Within.{slot-with_slot_same, slot-with_slot_other}
use Rattle.replication_safety.specs.StreamState.{StreamState, end}
use Rattle.invariants.specs.Streams.{stream_state}
use Rattle.invariants.proofs.ObjectSeen.{same_or_not}
use Rattle.data_safety.specs.RunState.{RunState, Witness, tx_ops, txs_of}
use Rattle.data_safety.specs.DataInvariant.{IsBooked}
use Rattle.data_safety.proofs.history.CurrentOnly.{IsTurn, turned, turned-stream}

-- ---- one slot turns

-- one slot has another current transaction, or none
pub record TurnsSlot (y : RunState) (nodes : ℕ → Node) (n s : ℕ) (c : Option Current) : Type 0 where
  pub at : nodes n ≡ with_current (y.system.node n) s c
  pub others : (m : ℕ) → m ≢ n → nodes m ≡ y.system.node m

turn_here : (m : Node) (s : ℕ) (c : Option Current) → IsTurn m (with_current m s c)
turn_here m s c = record {
  me = refl;
  epoch = refl;
  reported = refl;
  stopped = refl;
  entries = refl;
  copies = refl;
  gathers = refl;
  logs = refl;
  done = λ r. elim (same_or_not r s) [
    | inl same ↦ rw (same, slot-with_slot_same m s record { current = c; done = (slot m s).done; pending = (slot m s).pending }) refl
    | inr other ↦ ap (λ (l : Slot). l.done) (slot-with_slot_other m s r record { current = c; done = (slot m s).done; pending = (slot m s).pending } other)
  ];
  pending = λ r. elim (same_or_not r s) [
    | inl same ↦ rw (same, slot-with_slot_same m s record { current = c; done = (slot m s).done; pending = (slot m s).pending }) refl
    | inr other ↦ ap (λ (l : Slot). l.pending) (slot-with_slot_other m s r record { current = c; done = (slot m s).done; pending = (slot m s).pending } other)
  ];
}

-- a node that stays as it is differs in current transactions at most
pub no_turn : (m : Node) → IsTurn m m
no_turn m =
    record { me = refl; epoch = refl; reported = refl; stopped = refl; entries = refl; copies = refl; gathers = refl; logs = refl; done = λ r. refl; pending = λ r. refl }

-- if one slot has another current transaction, then each node differs in current transactions at most
pub slot_turns : (y : RunState) (nodes : ℕ → Node) (n s : ℕ) (c : Option Current) → TurnsSlot y nodes n s c → (m : ℕ) → IsTurn (y.system.node m) (nodes m)
slot_turns y nodes n s c t m = elim (same_or_not m n) [
  | inl same ↦ rw (same, t.at) (turn_here (y.system.node n) s c)
  | inr other ↦ rw (t.others m other) (no_turn (y.system.node m))
]

-- a current transaction afterwards is the one of that slot, or was there before, at another
current_cases : (y : RunState) (nodes : ℕ → Node) (n s : ℕ) (o : Option Current) → TurnsSlot y nodes n s o → (m r : ℕ) (c : Current) → (slot (nodes m) r).current ≡ Some c
    → ((m ≡ n) × (r ≡ s) × (o ≡ Some c)) ⊎ (((slot (y.system.node m) r).current ≡ Some c) × ((m ≢ n) ⊎ (r ≢ s)))
current_cases y nodes n s o t m r c is = elim (same_or_not m n) [
  | inr other ↦ let was : (slot (y.system.node m) r).current ≡ Some c = rw (t.others m other) at is in inr (was, inl other)
  | inl same ↦ elim (same_or_not r s) [
    | inl at_slot ↦
        let turned_slot = slot-with_slot_same (y.system.node n) s record { current = o; done = (slot (y.system.node n) s).done; pending = (slot (y.system.node n) s).pending } in
        inl (same, at_slot, sym (ap (λ (l : Slot). l.current) turned_slot) ∙ ap (λ (k : Node). (slot k s).current) (sym t.at) ∙ (λ i. (slot (nodes (sym same i)) (sym at_slot i)).current) ∙ is)
    | inr other ↦
        let kept_slot = slot-with_slot_other (y.system.node n) s r record { current = o; done = (slot (y.system.node n) s).done; pending = (slot (y.system.node n) s).pending } other in
        inr (ap (λ (k : ℕ). (slot (y.system.node k) r).current) same ∙ sym (ap (λ (l : Slot). l.current) kept_slot) ∙ ap (λ (k : Node). (slot k r).current) (sym t.at) ∙ ap (λ (k : ℕ). (slot (nodes k) r).current) (sym same) ∙ is, inr other)
  ]
]

-- ---- the book

-- what holds of a current transaction
abbrev pub IsCurrent : RunState → ℕ → ℕ → Current → Type 0
IsCurrent z n s c =
    (c.tx ≡ tx_ops z c.id) × (is_some (record_of z.book c.id).begun ≡ true) × ((record_of z.book c.id).entry ≡ None) × ((record_of z.book c.id).point ≡ None)
    × ((record_of z.book c.id).refused ≡ false) × ((nth no_tx z.txs c.id).node ≡ n) × ((nth no_tx z.txs c.id).slot ≡ s)

-- one transaction of the slot, which has no entry, is noted
pub record IsNoted (y : RunState) (book : Book) (n s id : ℕ) : Type 0 where
  pub others : (j : ℕ) → j ≢ id → record_of book j ≡ record_of y.book j
  pub before : (record_of y.book id).entry ≡ None
  pub after : (record_of book id).entry ≡ None
  pub node : (nth no_tx y.txs id).node ≡ n
  pub slot : (nth no_tx y.txs id).slot ≡ s

-- what the book says of the history
pub record IsHistory (z : RunState) : Type 0 where
  pub begun : (id : ℕ) → (is_some (record_of z.book id).entry ≡ true) ⊎ ((is_some (record_of z.book id).point ≡ true) ⊎ ((record_of z.book id).refused ≡ true))
      → is_some (record_of z.book id).begun ≡ true
  pub begun_before : (id step : ℕ) → (record_of z.book id).begun ≡ Some step → step ≤ z.book.steps
  pub point_after : (id begin step : ℕ) → (record_of z.book id).begun ≡ Some begin → (record_of z.book id).point ≡ Some step → (begin ≤ step) × (step ≤ z.book.steps)
  pub acked_at : (id step : ℕ) → (record_of z.book id).acked ≡ Some step → (record_of z.book id).point ≡ Some step
  pub once : (id : ℕ) → times id z.book.points ≤ 1
  pub in_history : (id : ℕ) → (is_some (record_of z.book id).point ≡ true) ↔ (1 ≤ times id z.book.points)
  pub replies : replies_of z.book.points ≡ serial_replies (start_map z.system.config) (txs_of z z.book.points)

module _ (y : RunState) (u : Witness) (b : IsBooked y u) (nodes : ℕ → Node) (book : Book) (q : (m : ℕ) → IsTurn (y.system.node m) (nodes m))
    (entries : (j : ℕ) → (record_of book j).entry ≡ (record_of y.book j).entry)
    (fixed : (j : ℕ) (e : EntryId) → (record_of y.book j).entry ≡ Some e → record_of book j ≡ record_of y.book j)
    (current : (n s : ℕ) (c : Current) → (slot (nodes n) s).current ≡ Some c → IsCurrent (turned y nodes book) n s c)
    (h : IsHistory (turned y nodes book)) where
  same_end : (t : Stream) → end (stream_state (turned y nodes book).system t) ≡ end (stream_state y.system t)
  same_end t = ap (λ (l : StreamState). end l) (turned-stream y nodes book q t)

  had_entry : (j : ℕ) (e : EntryId) → (record_of book j).entry ≡ Some e → (record_of y.book j).entry ≡ Some e
  had_entry j e is = sym (entries j) ∙ is

  pending_booked : (t : Stream) (i : ℕ) → i < length (slot (nodes t.node) t.slot).pending
      → let p = nth no_pending (slot (nodes t.node) t.slot).pending i in
      ((record_of book p.id).entry ≡ Some record { stream = t; number = (slot (nodes t.node) t.slot).done + i })
      × ((record_of book p.id).reply ≡ Some p.reply) × (p.named ≡ named (tx_ops y p.id))
  pending_booked t i inside =
      let was = b.pending t i (rw ((q t.node).pending t.slot) at inside) in
      let p : Pending = nth no_pending (slot (y.system.node t.node) t.slot).pending i in
      let r : record_of book p.id ≡ record_of y.book p.id = fixed p.id _ was.0 in
      rw ((q t.node).pending t.slot, (q t.node).done t.slot) (ap (λ (x : TxRecord). x.entry) r ∙ was.0, ap (λ (x : TxRecord). x.reply) r ∙ was.1, was.2)

  -- if current transactions turn, records with an entry stay, and the book is a history, then what holds of the book still holds
  pub turned-booked : IsBooked (turned y nodes book) u
  turned-booked = record {
    objects = b.objects;
    entry = λ t k below.
        let was = b.entry t k (rw (same_end t) at below) in
        (was.0, entries was.0 ∙ was.1, was.2, was.3, was.4);
    one_entry = λ i j e one two. b.one_entry i j e (had_entry i e one) (had_entry j e two);
    below_end = λ id e is. rw (same_end e.stream) (b.below_end id e (had_entry id e is));
    pending = pending_booked;
    current = current;
    begun = h.begun;
    begun_before = h.begun_before;
    point_after = h.point_after;
    acked_at = h.acked_at;
    once = h.once;
    in_history = h.in_history;
    passed = λ id e is. rw (fixed id e (had_entry id e is)) (b.passed id e (had_entry id e is));
    acked = λ id e is. rw (fixed id e (had_entry id e is), (q e.stream.node).done e.stream.slot) (b.acked id e (had_entry id e is));
    replies = h.replies;
  }

-- ---- one transaction is noted

module _ (y : RunState) (u : Witness) (b : IsBooked y u) (nodes : ℕ → Node) (book : Book) (n s id : ℕ) (o : Option Current) (t : TurnsSlot y nodes n s o) (noted : IsNoted y book n s id)
    (now : (c : Current) → o ≡ Some c → IsCurrent (turned y nodes book) n s c) where
  noted_entries : (j : ℕ) → (record_of book j).entry ≡ (record_of y.book j).entry
  noted_entries j = elim (same_or_not j id) [
    | inl same ↦ rw same (noted.after ∙ sym noted.before)
    | inr other ↦ ap (λ (r : TxRecord). r.entry) (noted.others j other)
  ]

  noted_fixed : (j : ℕ) (e : EntryId) → (record_of y.book j).entry ≡ Some e → record_of book j ≡ record_of y.book j
  noted_fixed j e is = noted.others j (λ same. let none : (record_of y.book j).entry ≡ None = rw same noted.before in absurd (cc (none, is)))

  -- the transaction of another slot is another
  other_slot : (m r : ℕ) (c : Current) → (slot (y.system.node m) r).current ≡ Some c → (m ≢ n) ⊎ (r ≢ s) → c.id ≢ id
  other_slot m r c is (inl other) same = let was = b.current m r c is in other (sym was.5 ∙ ap (λ (j : ℕ). (nth no_tx y.txs j).node) same ∙ noted.node)
  other_slot m r c is (inr other) same = let was = b.current m r c is in other (sym was.6 ∙ ap (λ (j : ℕ). (nth no_tx y.txs j).slot) same ∙ noted.slot)

  noted_current : (m r : ℕ) (c : Current) → (slot (nodes m) r).current ≡ Some c → IsCurrent (turned y nodes book) m r c
  noted_current m r c is = elim (current_cases y nodes n s o t m r c is) [
    | inl here ↦ rw (here.0, here.1) (now c here.2)
    | inr there ↦ let was = b.current m r c there.0 in rw (noted.others c.id (other_slot m r c there.0 there.1)) was
  ]

  -- if a slot turns and the new book is a history, then what holds of the book still holds
  pub noted-booked : IsHistory (turned y nodes book) → IsBooked (turned y nodes book) u
  noted-booked h = turned-booked y u b nodes book (slot_turns y nodes n s o t) noted_entries noted_fixed noted_current h
