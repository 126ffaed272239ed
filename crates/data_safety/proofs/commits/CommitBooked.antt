-- The book after a commit.
use Rattle.std.specs.Prelude.{ℕ, ◌≡◌, ◌≢◌, ◌+◌, ◌<◌, ◌≤◌, ◌↔◌, true, false, List, length, Option, Some, None, is_some, ◌⊎◌}
use Rattle.std.proofs.Common.{arith, refl, sym, ap, subst, ◌∙◌, inl, inr}
use Rattle.std.proofs.lemmas.Bool.{cases_lt}
use Rattle.zeus_base.specs.declared.config.Config.{Config}
use Rattle.zeus_base.specs.declared.order.Stream.{Stream}
use Rattle.zeus_txn.specs.Ops.{named, is_write}
use Rattle.zeus_txn.specs.declared.ops.Op.{Op}
use Rattle.zeus_txn.specs.declared.tx.TxDecl.{TxDecl}
use Rattle.zeus_model.specs.Tables.{nth}
use Rattle.zeus_model.specs.State.{Slot, slot, next_number}
use Rattle.zeus_model.specs.Commit.{no_pending}
use Rattle.zeus_model.specs.Book.{Book, Point, TxRecord, EntryId, record_of}
use Rattle.zeus_model.specs.Serial.{start_map, serial_replies}
use Rattle.zeus_model.specs.Sound.{replies_of, times}
use Rattle.zeus_model.specs.World.{no_tx}
use Rattle.zeus_model.specs.declared.state.Current.{Current}
use Rattle.zeus_model.specs.declared.state.Pending.{Pending}
use Rattle.replication_safety.specs.StreamState.{end}
use Rattle.invariants.specs.Streams.{stream_state}
use Rattle.invariants.proofs.StreamSeen.{stream_cases}
use Rattle.invariants.proofs.ObjectSeen.{same_or_not}
use Rattle.data_safety.specs.RunState.{RunState, Witness, tx_ops, txs_of}
use Rattle.data_safety.specs.DataInvariant.{DataInvariant, IsBooked}
use Rattle.data_safety.proofs.Consequences.{home-end}
use Rattle.data_safety.proofs.history.SerialRun.{tx_ops-same, txs_of-same}
use Rattle.data_safety.proofs.commits.CommitSlots.{CommitsTx, commit-slot, commit-slots, commit-done, commit-was, commit-end, commit-end_here, commit-end_away, commit-record, commit-record_other}

acked_none : (a p : Option ℕ) → ((step : ℕ) → a ≡ Some step → p ≡ Some step) → p ≡ None → a ≡ None
acked_none None p same none = refl
acked_none (Some k) p same none = let at : p ≡ Some k = same k refl in absurd (cc (at, none))

some_entry : (a b : EntryId) → ◌≡◌ {A = Option EntryId} (Some a) (Some b) → a ≡ b
some_entry a b e = cc

module _ (y z : RunState) (u : Witness) (f : DataInvariant y u) (n s : ℕ) (c : Current) (h : CommitsTx y z n s c) where
  begun_one : (c.tx ≡ tx_ops y c.id) × (is_some (record_of y.book c.id).begun ≡ true) × ((record_of y.book c.id).entry ≡ None) × ((record_of y.book c.id).point ≡ None)
      × ((record_of y.book c.id).refused ≡ false) × ((nth no_tx y.txs c.id).node ≡ n) × ((nth no_tx y.txs c.id).slot ≡ s)
  begun_one = f.booked.current n s c h.current

  unacked : (record_of y.book c.id).acked ≡ None
  unacked = acked_none (record_of y.book c.id).acked (record_of y.book c.id).point (f.booked.acked_at c.id) begun_one.3

  last : next_number (slot (y.system.node n) s) ≡ end (stream_state y.system record { node = n; slot = s })
  last = sym (home-end y.system record { node = n; slot = s })

  same_begun : (j : ℕ) → (record_of z.book j).begun ≡ (record_of y.book j).begun
  same_begun j = elim (same_or_not j c.id) [
    | inl same ↦ rw same (ap (λ (r : TxRecord). r.begun) (commit-record y z n s c h))
    | inr other ↦ ap (λ (r : TxRecord). r.begun) (commit-record_other y z n s c h j other)
  ]

  same_point : (j : ℕ) → (record_of z.book j).point ≡ (record_of y.book j).point
  same_point j = elim (same_or_not j c.id) [
    | inl same ↦ rw same (ap (λ (r : TxRecord). r.point) (commit-record y z n s c h))
    | inr other ↦ ap (λ (r : TxRecord). r.point) (commit-record_other y z n s c h j other)
  ]

  same_acked : (j : ℕ) → (record_of z.book j).acked ≡ (record_of y.book j).acked
  same_acked j = elim (same_or_not j c.id) [
    | inl same ↦ rw same (ap (λ (r : TxRecord). r.acked) (commit-record y z n s c h))
    | inr other ↦ ap (λ (r : TxRecord). r.acked) (commit-record_other y z n s c h j other)
  ]

  same_refused : (j : ℕ) → (record_of z.book j).refused ≡ (record_of y.book j).refused
  same_refused j = elim (same_or_not j c.id) [
    | inl same ↦ rw same (ap (λ (r : TxRecord). r.refused) (commit-record y z n s c h))
    | inr other ↦ ap (λ (r : TxRecord). r.refused) (commit-record_other y z n s c h j other)
  ]

  new_entry : (record_of z.book c.id).entry ≡ Some record { stream = record { node = n; slot = s }; number = end (stream_state y.system record { node = n; slot = s }) }
  new_entry = ap (λ (r : TxRecord). r.entry) (commit-record y z n s c h) ∙ ap (λ (k : ℕ). some_named record { node = n; slot = s } k) last
    where
      some_named : Stream → ℕ → Option EntryId
      some_named t k = Some record { stream = t; number = k }

  -- an entry of the book is the new one or was there
  entry_cases : (j : ℕ) (e : EntryId) → (record_of z.book j).entry ≡ Some e
      → ((j ≡ c.id) × (e ≡ record { stream = record { node = n; slot = s }; number = end (stream_state y.system record { node = n; slot = s }) })) ⊎ ((j ≢ c.id) × ((record_of y.book j).entry ≡ Some e))
  entry_cases j e is = elim (same_or_not j c.id) [
    | inl same ↦ inl (
      same,
      some_entry e record { stream = record { node = n; slot = s }; number = end (stream_state y.system record { node = n; slot = s }) }
          (sym is ∙ ap (λ (i : ℕ). (record_of z.book i).entry) same ∙ new_entry),
    )
    | inr other ↦ inr (other, ap (λ (r : TxRecord). r.entry) (sym (commit-record_other y z n s c h j other)) ∙ is)
  ]

  entry_stays : (j : ℕ) (e : EntryId) → (record_of y.book j).entry ≡ Some e → record_of z.book j ≡ record_of y.book j
  entry_stays j e is =
      commit-record_other y z n s c h j (λ same. let gone : (record_of y.book j).entry ≡ None = ap (λ (i : ℕ). (record_of y.book i).entry) same ∙ begun_one.2 in absurd (cc (gone, is)))

  commit-old_entry : (t : Stream) (k : ℕ) → k < end (stream_state y.system t)
      → (id : ℕ) × ((record_of z.book id).entry ≡ Some record { stream = t; number = k }) × (is_write (tx_ops z id) ≡ true)
      × ((nth no_tx z.txs id).node ≡ t.node) × ((nth no_tx z.txs id).slot ≡ t.slot)
  commit-old_entry t k below =
      let b = f.booked.entry t k below in (
        b.0,
        ap (λ (r : TxRecord). r.entry) (entry_stays b.0 record { stream = t; number = k } b.1) ∙ b.1,
        ap (λ (ops : List Op). is_write ops) (tx_ops-same y z b.0 h.txs) ∙ b.2,
        ap (λ (l : List TxDecl). (nth no_tx l b.0).node) h.txs ∙ b.3,
        ap (λ (l : List TxDecl). (nth no_tx l b.0).slot) h.txs ∙ b.4,
      )

  commit-entry : (t : Stream) (k : ℕ) → k < end (stream_state z.system t)
      → (id : ℕ) × ((record_of z.book id).entry ≡ Some record { stream = t; number = k }) × (is_write (tx_ops z id) ≡ true)
      × ((nth no_tx z.txs id).node ≡ t.node) × ((nth no_tx z.txs id).slot ≡ t.slot)
  commit-entry t k below = elim (cases_lt k (end (stream_state y.system t))) [
    | inl old ↦ commit-old_entry t k old
    | inr past ↦ elim (stream_cases t record { node = n; slot = s }) [
      | inr other ↦ absurd (omega (arith, below, past, commit-end_away y z n s c h t other))
      | inl same ↦
          let own : Stream = record { node = n; slot = s } in
          let below_here : k < end (stream_state z.system own) = subst (λ (q : Stream). k < end (stream_state z.system q)) same below in
          let past_here : end (stream_state y.system own) ≤ k = subst (λ (q : Stream). end (stream_state y.system q) ≤ k) same past in
          let at : end (stream_state y.system own) ≡ k = omega (arith, below_here, past_here, commit-end_here y z n s c h) in (
            c.id,
            new_entry ∙ some_entry_at own t (end (stream_state y.system own)) k (sym same) at,
            ap (λ (ops : List Op). is_write ops) (tx_ops-same y z c.id h.txs ∙ sym begun_one.0) ∙ h.writes,
            ap (λ (l : List TxDecl). (nth no_tx l c.id).node) h.txs ∙ begun_one.5 ∙ ap (λ (q : Stream). q.node) (sym same),
            ap (λ (l : List TxDecl). (nth no_tx l c.id).slot) h.txs ∙ begun_one.6 ∙ ap (λ (q : Stream). q.slot) (sym same),
          )
    ]
  ]
    where
      some_entry_at : (t r : Stream) (j k : ℕ) → t ≡ r → j ≡ k → ◌≡◌ {A = Option EntryId} (Some record { stream = t; number = j }) (Some record { stream = r; number = k })
      some_entry_at t r j k a b = rw (a, b) refl

  new_alone : (j : ℕ) (e : EntryId) → (record_of y.book j).entry ≡ Some e → e ≡ record { stream = record { node = n; slot = s }; number = end (stream_state y.system record { node = n; slot = s }) } → ⊥
  new_alone j e is same =
      let low = f.booked.below_end j e is in
      let low_here : end (stream_state y.system record { node = n; slot = s }) < end (stream_state y.system record { node = n; slot = s }) =
      subst (λ (i : EntryId). i.number < end (stream_state y.system i.stream)) same low in
      omega (arith, low_here)

  commit-one_entry : (i j : ℕ) (e : EntryId) → (record_of z.book i).entry ≡ Some e → (record_of z.book j).entry ≡ Some e → i ≡ j
  commit-one_entry i j e one two = by (entry_cases i e one) (entry_cases j e two)
    where
      by : ((i ≡ c.id) × (e ≡ record { stream = record { node = n; slot = s }; number = end (stream_state y.system record { node = n; slot = s }) })) ⊎ ((i ≢ c.id) × ((record_of y.book i).entry ≡ Some e))
          → ((j ≡ c.id) × (e ≡ record { stream = record { node = n; slot = s }; number = end (stream_state y.system record { node = n; slot = s }) })) ⊎ ((j ≢ c.id) × ((record_of y.book j).entry ≡ Some e)) → i ≡ j
      by (inl a) (inl b) = a.0 ∙ sym b.0
      by (inl a) (inr b) = absurd (new_alone j e b.1 a.1)
      by (inr a) (inl b) = absurd (new_alone i e a.1 b.1)
      by (inr a) (inr b) = f.booked.one_entry i j e a.1 b.1

  commit-below_end : (j : ℕ) (e : EntryId) → (record_of z.book j).entry ≡ Some e → e.number < end (stream_state z.system e.stream)
  commit-below_end j e is = elim (entry_cases j e is) [
    | inl new_one ↦ subst (λ (i : EntryId). i.number < end (stream_state z.system i.stream)) (sym new_one.1) (omega (arith, commit-end_here y z n s c h))
    | inr old ↦ omega (arith, f.booked.below_end j e old.1, commit-end y z n s c h e.stream)
  ]

  commit-current : (m r : ℕ) (d : Current) → (slot (z.system.node m) r).current ≡ Some d
      → (d.tx ≡ tx_ops z d.id) × (is_some (record_of z.book d.id).begun ≡ true) × ((record_of z.book d.id).entry ≡ None) × ((record_of z.book d.id).point ≡ None)
      × ((record_of z.book d.id).refused ≡ false) × ((nth no_tx z.txs d.id).node ≡ m) × ((nth no_tx z.txs d.id).slot ≡ r)
  commit-current m r d is = elim (commit-slots y z n s c h m r) [
    | inl here ↦
        let none : (slot (z.system.node m) r).current ≡ None = rw (here.0, here.1) (ap (λ (l : Slot). l.current) (commit-slot y z n s c h)) in
        absurd (cc (none, is))
    | inr away ↦
        let b = f.booked.current m r d (ap (λ (l : Slot). l.current) (sym away.1) ∙ is) in
        let other : d.id ≢ c.id = λ same. away.0 (sym b.5 ∙ ap (λ (i : ℕ). (nth no_tx y.txs i).node) same ∙ begun_one.5) (sym b.6 ∙ ap (λ (i : ℕ). (nth no_tx y.txs i).slot) same ∙ begun_one.6) in
        rw (commit-record_other y z n s c h d.id other) (
          b.0 ∙ sym (tx_ops-same y z d.id h.txs),
          b.1,
          b.2,
          b.3,
          b.4,
          ap (λ (l : List TxDecl). (nth no_tx l d.id).node) h.txs ∙ b.5,
          ap (λ (l : List TxDecl). (nth no_tx l d.id).slot) h.txs ∙ b.6,
        )
  ]

  commit-pending : (t : Stream) (i : ℕ) → i < length (slot (z.system.node t.node) t.slot).pending
      → let p = nth no_pending (slot (z.system.node t.node) t.slot).pending i in
      ((record_of z.book p.id).entry ≡ Some record { stream = t; number = (slot (z.system.node t.node) t.slot).done + i })
      × ((record_of z.book p.id).reply ≡ Some p.reply) × (p.named ≡ named (tx_ops z p.id))
  commit-pending t i inside = elim (commit-was y z n s c h t.node t.slot i inside) [
    | inl old ↦
        let p : Pending = nth no_pending (slot (y.system.node t.node) t.slot).pending i in
        let b = f.booked.pending t i old.0 in
        let stays = entry_stays p.id record { stream = t; number = (slot (y.system.node t.node) t.slot).done + i } b.0 in
        rw old.1 (
          ap (λ (r : TxRecord). r.entry) stays ∙ b.0 ∙ ap (λ (k : ℕ). some_named t (k + i)) (sym (commit-done y z n s c h t.node t.slot)),
          ap (λ (r : TxRecord). r.reply) stays ∙ b.1,
          b.2 ∙ ap (λ (ops : List Op). named ops) (sym (tx_ops-same y z p.id h.txs)),
        )
    | inr new_one ↦
        let own : Stream = record { node = n; slot = s } in
        let number : end (stream_state y.system own) ≡ (slot (z.system.node t.node) t.slot).done + i =
        home-end y.system own ∙ ap (λ (k : ℕ). (slot (y.system.node n) s).done + k) (rw (← new_one.0, ← new_one.1) (sym new_one.2))
        ∙ ap (λ (k : ℕ). k + i) (rw (← new_one.0, ← new_one.1) (sym (commit-done y z n s c h t.node t.slot))) in
        rw new_one.3 (
          new_entry ∙ ap (λ (k : ℕ). some_named own k) number ∙ ap (λ (q : Stream). some_named q ((slot (z.system.node t.node) t.slot).done + i)) (own_is t new_one.0 new_one.1),
          ap (λ (r : TxRecord). r.reply) (commit-record y z n s c h),
          ap (λ (ops : List Op). named ops) (begun_one.0 ∙ sym (tx_ops-same y z c.id h.txs)),
        )
  ]
    where
      some_named : Stream → ℕ → Option EntryId
      some_named t k = Some record { stream = t; number = k }

      own_is : (t : Stream) → t.node ≡ n → t.slot ≡ s → record { node = n; slot = s } ≡ t
      own_is t a b = rw (← a, ← b) refl

  -- what has ended is as it was
  commit-begun : (j : ℕ) → (is_some (record_of z.book j).entry ≡ true) ⊎ ((is_some (record_of z.book j).point ≡ true) ⊎ ((record_of z.book j).refused ≡ true))
      → is_some (record_of z.book j).begun ≡ true
  commit-begun j ended = elim (same_or_not j c.id) [
    | inl same ↦ ap (λ (o : Option ℕ). is_some o) (same_begun j) ∙ ap (λ (i : ℕ). is_some (record_of y.book i).begun) same ∙ begun_one.1
    | inr other ↦ rw (commit-record_other y z n s c h j other) (f.booked.begun j (rw (commit-record_other y z n s c h j other) at ended))
  ]

  -- the new entry has not passed
  commit-passed : (j : ℕ) (e : EntryId) → (record_of z.book j).entry ≡ Some e → (is_some (record_of z.book j).point ≡ true) ↔ (e.number < u.passed e.stream)
  commit-passed j e is =
      let point = ap (λ (o : Option ℕ). is_some o) (same_point j) in
      elim (entry_cases j e is) [
        | inr old ↦ let b = f.booked.passed j e old.1 in (λ some. b.0 (sym point ∙ some), λ low. point ∙ b.1 low)
        | inl new_one ↦
            let own : Stream = record { node = n; slot = s } in
            let none : (record_of z.book j).point ≡ None = same_point j ∙ ap (λ (i : ℕ). (record_of y.book i).point) new_one.0 ∙ begun_one.3 in
            let committed : u.passed own ≤ end (stream_state y.system own) = (f.replication own).committed in (
              λ some. absurd (cc (ap (λ (o : Option ℕ). is_some o) none, some)),
              λ low. let low_here : end (stream_state y.system own) < u.passed own = subst (λ (i : EntryId). i.number < u.passed i.stream) new_one.1 low in absurd (omega (arith, low_here, committed)),
            )
      ]

  commit-acked : (j : ℕ) (e : EntryId) → (record_of z.book j).entry ≡ Some e → (is_some (record_of z.book j).acked ≡ true) ↔ (e.number < (slot (z.system.node e.stream.node) e.stream.slot).done)
  commit-acked j e is =
      let acked = ap (λ (o : Option ℕ). is_some o) (same_acked j) in
      let done = commit-done y z n s c h e.stream.node e.stream.slot in
      elim (entry_cases j e is) [
        | inr old ↦ let b = f.booked.acked j e old.1 in (λ some. omega (arith, done, b.0 (sym acked ∙ some)), λ low. acked ∙ b.1 (omega (arith, low, done)))
        | inl new_one ↦
            let own : Stream = record { node = n; slot = s } in
            let none : (record_of z.book j).acked ≡ None = same_acked j ∙ ap (λ (i : ℕ). (record_of y.book i).acked) new_one.0 ∙ unacked in (
              λ some. absurd (cc (ap (λ (o : Option ℕ). is_some o) none, some)),
              λ low.
                  let low_here : end (stream_state y.system own) < (slot (z.system.node n) s).done = subst (λ (i : EntryId). i.number < (slot (z.system.node i.stream.node) i.stream.slot).done) new_one.1 low in
                  absurd (omega (arith, low_here, commit-done y z n s c h n s, home-end y.system own)),
            )
      ]

  same_points : z.book.points ≡ y.book.points
  same_points = ap (λ (b : Book). b.points) h.book

  same_steps : z.book.steps ≡ y.book.steps
  same_steps = ap (λ (b : Book). b.steps) h.book

  -- after a commit, what holds of the book still holds
  pub commit-booked : IsBooked z u
  commit-booked = record {
    objects = λ j x m. rw h.change.config (f.booked.objects j x (rw (tx_ops-same y z j h.txs) at m));
    entry = commit-entry;
    one_entry = commit-one_entry;
    below_end = commit-below_end;
    pending = commit-pending;
    current = commit-current;
    begun = commit-begun;
    begun_before = λ j step is. omega (arith, f.booked.begun_before j step (sym (same_begun j) ∙ is), same_steps);
    point_after = λ j begin step started pointed.
        let b = f.booked.point_after j begin step (sym (same_begun j) ∙ started) (sym (same_point j) ∙ pointed) in
        (b.0, omega (arith, b.1, same_steps));
    acked_at = λ j step is. same_point j ∙ f.booked.acked_at j step (sym (same_acked j) ∙ is);
    once = λ j. omega (arith, f.booked.once j, ap (λ (ps : List Point). times j ps) same_points);
    in_history = λ j. rw (same_point j, same_points) (f.booked.in_history j);
    passed = commit-passed;
    acked = commit-acked;
    replies = ap (λ (ps : List Point). replies_of ps) same_points ∙ f.booked.replies
        ∙ ap (λ (l : List (List Op)). serial_replies (start_map y.system.config) l) (ap (λ (ps : List Point). txs_of y ps) (sym same_points) ∙ sym (txs_of-same y z z.book.points h.txs))
        ∙ ap (λ (k : Config). serial_replies (start_map k) (txs_of z z.book.points)) (sym h.change.config);
  }
