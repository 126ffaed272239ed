-- The book after a pass.
use Rattle.std.specs.Prelude.{ℕ, zero, suc, ◌≡◌, ◌≢◌, ◌==◌, ◌+◌, ◌<◌, ◌≤◌, ◌↔◌, Bool, true, false, List, length, Option, Some, None, is_some, if◌then◌else◌, ◌⊎◌}
use Rattle.std.proofs.Common.{arith, refl, sym, ap, subst, ◌∙◌, inl, inr}
use Rattle.std.proofs.lemmas.Bool.{cases_Bool, eq-eqb, ne_eqb}
use Rattle.zeus_base.specs.declared.config.Config.{Config}
use Rattle.zeus_base.specs.declared.order.Stream.{Stream}
use Rattle.zeus_txn.specs.Ops.{named, is_write}
use Rattle.zeus_txn.specs.declared.ops.Op.{Op}
use Rattle.zeus_txn.specs.declared.reply.Reply.{Reply}
use Rattle.zeus_txn.specs.declared.tx.TxDecl.{TxDecl}
use Rattle.zeus_model.specs.Tables.{nth}
use Rattle.zeus_model.specs.State.{slot}
use Rattle.zeus_model.specs.Commit.{no_pending}
use Rattle.zeus_model.specs.Book.{Book, Point, TxRecord, EntryId, record_of, reply_or}
use Rattle.zeus_model.specs.Serial.{start_map, serial_replies}
use Rattle.zeus_model.specs.Sound.{replies_of, times}
use Rattle.zeus_model.specs.World.{no_tx}
use Rattle.zeus_model.specs.declared.state.Current.{Current}
use Rattle.zeus_model.specs.declared.state.Pending.{Pending}
use Rattle.invariants.proofs.StreamSeen.{stream_cases}
use Rattle.invariants.proofs.ObjectSeen.{same_or_not}
use Rattle.data_safety.specs.RunState.{RunState, Witness, tx_ops, txs_of, pending_at}
use Rattle.data_safety.specs.DataInvariant.{DataInvariant, IsBooked, IsRun}
use Rattle.data_safety.proofs.history.SerialRun.{HasPointed, tx_ops-same, txs_of-same, times-append, first-replies}
use Rattle.data_safety.proofs.history.Booking.{HasPassed}
use Rattle.data_safety.proofs.stores.EntriesShrink.{EntriesShrink}

-- a pass that is a transaction's point
pub record IsPoint (y z : RunState) (u v : Witness) (p : Stream) (k id : ℕ) (own : Bool) : Type 0 where
  pub passed : HasPassed y.book z.book own id
  pub entry : (record_of y.book id).entry ≡ Some record { stream = p; number = k }
  pub reply : (record_of y.book id).reply ≡ Some (pending_at y p k).reply
  pub id_is : id ≡ (pending_at y p k).id
  pub first : u.passed p ≡ k
  pub rises : v.passed p ≡ suc k
  pub others : (t : Stream) → t ≢ p → v.passed t ≡ u.passed t
  pub done_others : (t : Stream) → t ≢ p → (slot (z.system.node t.node) t.slot).done ≡ (slot (y.system.node t.node) t.slot).done
  pub done_own : own ≡ true → ((slot (z.system.node p.node) p.slot).done ≡ suc k) × ((slot (y.system.node p.node) p.slot).done ≡ k)
  pub done_kept : own ≡ false → (slot (z.system.node p.node) p.slot).done ≡ (slot (y.system.node p.node) p.slot).done
  pub unacked : (record_of y.book id).acked ≡ None

some_entry : (a b : EntryId) → ◌≡◌ {A = Option EntryId} (Some a) (Some b) → a ≡ b
some_entry a b e = cc

some_step : (a b : ℕ) → ◌≡◌ {A = Option ℕ} (Some a) (Some b) → a ≡ b
some_step a b e = cc

module _ (y z : RunState) (u v : Witness) (f : DataInvariant y u) (s : EntriesShrink y z u v) where
  pending-booked : ((j : ℕ) → (record_of z.book j).entry ≡ (record_of y.book j).entry) → ((j : ℕ) → (record_of z.book j).reply ≡ (record_of y.book j).reply)
      → (t : Stream) (i : ℕ) → i < length (slot (z.system.node t.node) t.slot).pending
      → let p = nth no_pending (slot (z.system.node t.node) t.slot).pending i in
      ((record_of z.book p.id).entry ≡ Some record { stream = t; number = (slot (z.system.node t.node) t.slot).done + i })
      × ((record_of z.book p.id).reply ≡ Some p.reply) × (p.named ≡ named (tx_ops z p.id))
  pending-booked entries replies t i inside =
      let w = s.was t.node t.slot i inside in
      let old_pending : Pending = nth no_pending (slot (y.system.node t.node) t.slot).pending w.0 in
      let b = f.booked.pending t w.0 w.1 in
      let e : nth no_pending (slot (z.system.node t.node) t.slot).pending i ≡ old_pending = w.2 in
      rw e (
        entries old_pending.id ∙ b.0 ∙ ap (λ (n : ℕ). entry_at t n) (sym w.3),
        replies old_pending.id ∙ b.1,
        b.2 ∙ ap (λ (ops : List Op). named ops) (sym (tx_ops-same y z old_pending.id s.txs)),
      )
    where
      entry_at : Stream → ℕ → Option EntryId
      entry_at t n = Some record { stream = t; number = n }

  -- ---- a pass that the book says nothing of

  -- if the book, the counts and what has passed stay, then what holds of the book still holds
  pub again-booked : z.book ≡ y.book → ((t : Stream) → v.passed t ≡ u.passed t)
      → ((n r : ℕ) → (slot (z.system.node n) r).done ≡ (slot (y.system.node n) r).done) → IsBooked z v
  again-booked book passed dones =
      let records = λ (j : ℕ). ap (λ (b : Book). record_of b j) book in
      record {
        objects = λ id x m. rw s.config (f.booked.objects id x (rw (tx_ops-same y z id s.txs) at m));
        entry = λ t k below.
            let b = f.booked.entry t k (rw s.ends at below) in (
              b.0,
              ap (λ (r : TxRecord). r.entry) (records b.0) ∙ b.1,
              ap (λ (ops : List Op). is_write ops) (tx_ops-same y z b.0 s.txs) ∙ b.2,
              ap (λ (l : List TxDecl). (nth no_tx l b.0).node) s.txs ∙ b.3,
              ap (λ (l : List TxDecl). (nth no_tx l b.0).slot) s.txs ∙ b.4,
            );
        one_entry = λ i j e one two. f.booked.one_entry i j e (ap (λ (r : TxRecord). r.entry) (sym (records i)) ∙ one) (ap (λ (r : TxRecord). r.entry) (sym (records j)) ∙ two);
        below_end = λ id e is. rw s.ends (f.booked.below_end id e (ap (λ (r : TxRecord). r.entry) (sym (records id)) ∙ is));
        pending = pending-booked (λ j. ap (λ (r : TxRecord). r.entry) (records j)) (λ j. ap (λ (r : TxRecord). r.reply) (records j));
        current = λ n r c is.
            let b = f.booked.current n r c (sym (s.current n r) ∙ is) in
            rw (records c.id) (
              b.0 ∙ sym (tx_ops-same y z c.id s.txs),
              b.1,
              b.2,
              b.3,
              b.4,
              ap (λ (l : List TxDecl). (nth no_tx l c.id).node) s.txs ∙ b.5,
              ap (λ (l : List TxDecl). (nth no_tx l c.id).slot) s.txs ∙ b.6,
            );
        begun = rw book f.booked.begun;
        begun_before = rw book f.booked.begun_before;
        point_after = rw book f.booked.point_after;
        acked_at = rw book f.booked.acked_at;
        once = rw book f.booked.once;
        in_history = rw book f.booked.in_history;
        passed = λ id e is. rw (records id, passed e.stream) (f.booked.passed id e (ap (λ (r : TxRecord). r.entry) (sym (records id)) ∙ is));
        acked = λ id e is. rw (records id, dones e.stream.node e.stream.slot) (f.booked.acked id e (ap (λ (r : TxRecord). r.entry) (sym (records id)) ∙ is));
        replies = ap (λ (b : Book). replies_of b.points) book ∙ f.booked.replies
            ∙ ap (λ (l : List (List Op)). serial_replies (start_map y.system.config) l) (ap (λ (b : Book). txs_of y b.points) (sym book) ∙ sym (txs_of-same y z z.book.points s.txs))
            ∙ ap (λ (c : Config). serial_replies (start_map c) (txs_of z z.book.points)) (sym s.config);
      }

  -- ---- a pass that is a transaction's point

  module _ (p : Stream) (k id : ℕ) (own : Bool) (h : IsPoint y z u v p k id own) where
    unpointed : (record_of y.book id).point ≡ None
    unpointed = none_of (record_of y.book id).point (λ some. let low : k < u.passed p = (f.booked.passed id record { stream = p; number = k } h.entry).0 some in omega (arith, low, h.first))
      where
        none_of : (o : Option ℕ) → (is_some o ≡ true → ⊥) → o ≡ None
        none_of None no_one = refl
        none_of (Some a) no_one = absurd (no_one refl)

    -- of any record the pass leaves all but the point and the acknowledgement
    same_entries : (j : ℕ) → (record_of z.book j).entry ≡ (record_of y.book j).entry
    same_entries j = elim (same_or_not j id) [
      | inl same ↦ rw same (ap (λ (r : TxRecord). r.entry) h.passed.here)
      | inr other ↦ ap (λ (r : TxRecord). r.entry) (h.passed.others j other)
    ]

    same_replies : (j : ℕ) → (record_of z.book j).reply ≡ (record_of y.book j).reply
    same_replies j = elim (same_or_not j id) [
      | inl same ↦ rw same (ap (λ (r : TxRecord). r.reply) h.passed.here)
      | inr other ↦ ap (λ (r : TxRecord). r.reply) (h.passed.others j other)
    ]

    same_begun : (j : ℕ) → (record_of z.book j).begun ≡ (record_of y.book j).begun
    same_begun j = elim (same_or_not j id) [
      | inl same ↦ rw same (ap (λ (r : TxRecord). r.begun) h.passed.here)
      | inr other ↦ ap (λ (r : TxRecord). r.begun) (h.passed.others j other)
    ]

    has_entry : (j : ℕ) (e : EntryId) → (record_of z.book j).entry ≡ Some e → (record_of y.book j).entry ≡ Some e
    has_entry j e is = sym (same_entries j) ∙ is

    -- no other transaction has the entry
    other_number : (j : ℕ) (e : EntryId) → j ≢ id → (record_of y.book j).entry ≡ Some e → e.stream ≡ p → e.number ≢ k
    other_number j e other is at number =
        other (f.booked.one_entry j id e is (h.entry ∙ ap (λ (i : EntryId). Some i) (parts e p k at number)))
      where
        parts : (e : EntryId) (p : Stream) (k : ℕ) → e.stream ≡ p → e.number ≡ k → ◌≡◌ {A = EntryId} record { stream = p; number = k } e
        parts e p k a b = rw (← a, ← b) refl

    is_entry_of : (e : EntryId) → (record_of y.book id).entry ≡ Some e → (e.stream ≡ p) × (e.number ≡ k)
    is_entry_of e is =
        let same : e ≡ record { stream = p; number = k } = some_entry e record { stream = p; number = k } (sym is ∙ h.entry) in
        (ap (λ (i : EntryId). i.stream) same, ap (λ (i : EntryId). i.number) same)

    point-current : (n r : ℕ) (c : Current) → (slot (z.system.node n) r).current ≡ Some c
        → (c.tx ≡ tx_ops z c.id) × (is_some (record_of z.book c.id).begun ≡ true) × ((record_of z.book c.id).entry ≡ None) × ((record_of z.book c.id).point ≡ None)
        × ((record_of z.book c.id).refused ≡ false) × ((nth no_tx z.txs c.id).node ≡ n) × ((nth no_tx z.txs c.id).slot ≡ r)
    point-current n r c is =
        let b = f.booked.current n r c (sym (s.current n r) ∙ is) in
        let other : c.id ≢ id = λ same. let gone : (record_of y.book id).entry ≡ None = ap (λ (j : ℕ). (record_of y.book j).entry) (sym same) ∙ b.2 in absurd (cc (gone, h.entry)) in
        let here = h.passed.others c.id other in (
          b.0 ∙ sym (tx_ops-same y z c.id s.txs),
          ap (λ (o : Option ℕ). is_some o) (same_begun c.id) ∙ b.1,
          same_entries c.id ∙ b.2,
          ap (λ (q : TxRecord). q.point) here ∙ b.3,
          ap (λ (q : TxRecord). q.refused) here ∙ b.4,
          ap (λ (l : List TxDecl). (nth no_tx l c.id).node) s.txs ∙ b.5,
          ap (λ (l : List TxDecl). (nth no_tx l c.id).slot) s.txs ∙ b.6,
        )

    begun_here : is_some (record_of y.book id).begun ≡ true
    begun_here = f.booked.begun id (inl (ap (λ (o : Option EntryId). is_some o) h.entry))

    point-begun : (j : ℕ) → (is_some (record_of z.book j).entry ≡ true) ⊎ ((is_some (record_of z.book j).point ≡ true) ⊎ ((record_of z.book j).refused ≡ true))
        → is_some (record_of z.book j).begun ≡ true
    point-begun j ended = elim (same_or_not j id) [
      | inl same ↦ ap (λ (o : Option ℕ). is_some o) (same_begun j) ∙ ap (λ (i : ℕ). is_some (record_of y.book i).begun) same ∙ begun_here
      | inr other ↦ rw (h.passed.others j other) (f.booked.begun j (rw (h.passed.others j other) at ended))
    ]

    point-after : (j begin step : ℕ) → (record_of z.book j).begun ≡ Some begin → (record_of z.book j).point ≡ Some step → (begin ≤ step) × (step ≤ z.book.steps)
    point-after j begin step started pointed = elim (same_or_not j id) [
      | inl same ↦
          let at : Some z.book.steps ≡ Some step = ap (λ (n : ℕ). Some n) h.passed.steps ∙ sym (ap (λ (q : TxRecord). q.point) h.passed.here) ∙ ap (λ (i : ℕ). (record_of z.book i).point) (sym same) ∙ pointed in
          let now : z.book.steps ≡ step = some_step z.book.steps step at in
          let low : begin ≤ y.book.steps = f.booked.begun_before j begin (sym (same_begun j) ∙ started) in
          (omega (arith, now, low, h.passed.steps), omega (arith, now))
      | inr other ↦
          let b = f.booked.point_after j begin step (sym (same_begun j) ∙ started) (ap (λ (q : TxRecord). q.point) (sym (h.passed.others j other)) ∙ pointed) in
          (b.0, omega (arith, b.1, h.passed.steps))
    ]

    acked_by : (o : Bool) → own ≡ o → (record_of z.book id).acked ≡ (if o then Some y.book.steps else None)
    acked_by o is = ap (λ (q : TxRecord). q.acked) h.passed.here ∙ ap (λ (b : Bool). if b then Some y.book.steps else (record_of y.book id).acked) is ∙ ap (λ (a : Option ℕ). if o then Some y.book.steps else a) h.unacked

    point-acked_at : (j step : ℕ) → (record_of z.book j).acked ≡ Some step → (record_of z.book j).point ≡ Some step
    point-acked_at j step is = elim (same_or_not j id) [
      | inl same ↦
          let here : (record_of z.book id).acked ≡ Some step = ap (λ (i : ℕ). (record_of z.book i).acked) (sym same) ∙ is in
          let point : (record_of z.book id).point ≡ Some y.book.steps = ap (λ (q : TxRecord). q.point) h.passed.here in
          elim (cases_Bool own) [
            | inl mine ↦ ap (λ (i : ℕ). (record_of z.book i).point) same ∙ point ∙ sym (acked_by true mine) ∙ here
            | inr foreign ↦ let none : (record_of z.book id).acked ≡ None = acked_by false foreign in absurd (cc (none, here))
          ]
      | inr other ↦
          ap (λ (q : TxRecord). q.point) (h.passed.others j other) ∙ f.booked.acked_at j step (ap (λ (q : TxRecord). q.acked) (sym (h.passed.others j other)) ∙ is)
    ]

    -- ---- the history

    new_point : Point
    new_point = record { id = id; reply = reply_or (record_of y.book id).reply }

    times_after : (j : ℕ) → times j z.book.points ≡ times j y.book.points + (if id == j then suc zero else zero)
    unfolding times new_point
    times_after j = ap (λ (ps : List Point). times j ps) h.passed.points ∙ times-append j y.book.points new_point

    never_before : times id y.book.points ≡ 0
    never_before =
        let no_one : 1 ≤ times id y.book.points → ⊥ = λ some. let there_is = (f.booked.in_history id).1 some in absurd (cc (there_is, ap (λ (o : Option ℕ). is_some o) unpointed)) in
        zero_of (times id y.book.points) no_one
      where
        zero_of : (n : ℕ) → (1 ≤ n → ⊥) → n ≡ 0
        zero_of zero no_one = refl
        zero_of (suc n) no_one = absurd (no_one (omega arith))

    times_here : times id z.book.points ≡ 1
    times_here = times_after id ∙ rw (eq-eqb id id refl, never_before) (omega arith)

    times_other : (j : ℕ) → j ≢ id → times j z.book.points ≡ times j y.book.points
    times_other j other = times_after j ∙ rw (ne_eqb id j (λ e. other (sym e))) (omega arith)

    point-once : (j : ℕ) → times j z.book.points ≤ 1
    point-once j = elim (same_or_not j id) [
      | inl same ↦ rw same (omega (arith, times_here))
      | inr other ↦ omega (arith, times_other j other, f.booked.once j)
    ]

    pointed_some : is_some (record_of z.book id).point ≡ true
    pointed_some = ap (λ (q : TxRecord). is_some q.point) h.passed.here

    point-in_history : (j : ℕ) → (is_some (record_of z.book j).point ≡ true) ↔ (1 ≤ times j z.book.points)
    point-in_history j = elim (same_or_not j id) [
      | inl same ↦ rw same (λ some. omega (arith, times_here), λ low. pointed_some)
      | inr other ↦ rw (h.passed.others j other, times_other j other) (f.booked.in_history j)
    ]

    -- ---- what has passed, and what is acknowledged

    point-passed : (j : ℕ) (e : EntryId) → (record_of z.book j).entry ≡ Some e → (is_some (record_of z.book j).point ≡ true) ↔ (e.number < v.passed e.stream)
    point-passed j e is = elim (same_or_not j id) [
      | inl same ↦
          let at = is_entry_of e (ap (λ (i : ℕ). (record_of y.book i).entry) (sym same) ∙ has_entry j e is) in
          (λ some. omega (arith, at.1, ap v.passed at.0, h.rises), λ low. ap (λ (i : ℕ). is_some (record_of z.book i).point) same ∙ pointed_some)
      | inr other ↦
          let old_entry = has_entry j e is in
          let b = f.booked.passed j e old_entry in
          let point = ap (λ (q : TxRecord). is_some q.point) (h.passed.others j other) in
          elim (stream_cases e.stream p) [
            | inr away ↦ (λ some. omega (arith, b.0 (sym point ∙ some), h.others e.stream away), λ low. point ∙ b.1 (omega (arith, low, h.others e.stream away)))
            | inl here ↦
                let differs = other_number j e other old_entry here in
                let old_count : u.passed e.stream ≡ k = ap u.passed here ∙ h.first in
                let new_count : v.passed e.stream ≡ suc k = ap v.passed here ∙ h.rises in
                (λ some. omega (arith, b.0 (sym point ∙ some), old_count, new_count), λ low. point ∙ b.1 (omega (arith, low, old_count, new_count, differs)))
          ]
    ]

    acked-kept : own ≡ false → (j : ℕ) (e : EntryId) → (record_of z.book j).entry ≡ Some e → (is_some (record_of z.book j).acked ≡ true) ↔ (e.number < (slot (z.system.node e.stream.node) e.stream.slot).done)
    acked-kept foreign j e is =
        let b = f.booked.acked j e (has_entry j e is) in
        let done : (slot (z.system.node e.stream.node) e.stream.slot).done ≡ (slot (y.system.node e.stream.node) e.stream.slot).done = elim (stream_cases e.stream p) [
          | inr away ↦ h.done_others e.stream away
          | inl here ↦ subst (λ (t : Stream). (slot (z.system.node t.node) t.slot).done ≡ (slot (y.system.node t.node) t.slot).done) (sym here) (h.done_kept foreign)
        ] in
        let acked : is_some (record_of z.book j).acked ≡ is_some (record_of y.book j).acked = elim (same_or_not j id) [
          | inl same ↦ rw same (ap (λ (o : Option ℕ). is_some o) (acked_by false foreign) ∙ ap (λ (o : Option ℕ). is_some o) (sym h.unacked))
          | inr other ↦ ap (λ (q : TxRecord). is_some q.acked) (h.passed.others j other)
        ] in
        (λ some. omega (arith, done, b.0 (sym acked ∙ some)), λ low. acked ∙ b.1 (omega (arith, done, low)))

    acked-own : own ≡ true → (j : ℕ) (e : EntryId) → (record_of z.book j).entry ≡ Some e → (is_some (record_of z.book j).acked ≡ true) ↔ (e.number < (slot (z.system.node e.stream.node) e.stream.slot).done)
    acked-own mine j e is =
        let counts = h.done_own mine in
        let b = f.booked.acked j e (has_entry j e is) in
        elim (same_or_not j id) [
          | inl same ↦
              let at = is_entry_of e (ap (λ (i : ℕ). (record_of y.book i).entry) (sym same) ∙ has_entry j e is) in
              let now : (slot (z.system.node e.stream.node) e.stream.slot).done ≡ suc k = subst (λ (t : Stream). (slot (z.system.node t.node) t.slot).done ≡ suc k) (sym at.0) counts.0 in
              (λ some. omega (arith, now, at.1), λ low. ap (λ (i : ℕ). is_some (record_of z.book i).acked) same ∙ ap (λ (o : Option ℕ). is_some o) (acked_by true mine))
          | inr other ↦
              let acked = ap (λ (q : TxRecord). is_some q.acked) (h.passed.others j other) in
              elim (stream_cases e.stream p) [
                | inr away ↦ (λ some. omega (arith, h.done_others e.stream away, b.0 (sym acked ∙ some)), λ low. acked ∙ b.1 (omega (arith, h.done_others e.stream away, low)))
                | inl here ↦
                    let differs = other_number j e other (has_entry j e is) here in
                    let now : (slot (z.system.node e.stream.node) e.stream.slot).done ≡ suc k = subst (λ (t : Stream). (slot (z.system.node t.node) t.slot).done ≡ suc k) (sym here) counts.0 in
                    let before : (slot (y.system.node e.stream.node) e.stream.slot).done ≡ k = subst (λ (t : Stream). (slot (y.system.node t.node) t.slot).done ≡ k) (sym here) counts.1 in
                    (λ some. omega (arith, now, before, b.0 (sym acked ∙ some)), λ low. acked ∙ b.1 (omega (arith, now, before, low, differs)))
              ]
        ]

    reply_of : (o : Option Reply) (r : Reply) → o ≡ Some r → reply_or o ≡ r
    unfolding reply_or
    reply_of o r is = rw is refl

    -- the transaction of the pass has its point at the end of the history
    pub pointing : HasPointed y z record { id = id; reply = reply_or (record_of y.book id).reply }
    pointing = record { config = s.config; txs = s.txs; points = h.passed.points }

    -- if the entry is what its transaction makes of what it finds, then after its pass what holds of the book still holds
    pub point-booked : IsRun y u p k → IsBooked z v
    point-booked is_run = record {
      objects = λ j x m. rw s.config (f.booked.objects j x (rw (tx_ops-same y z j s.txs) at m));
      entry = λ t i below.
          let b = f.booked.entry t i (rw s.ends at below) in (
            b.0,
            same_entries b.0 ∙ b.1,
            ap (λ (ops : List Op). is_write ops) (tx_ops-same y z b.0 s.txs) ∙ b.2,
            ap (λ (l : List TxDecl). (nth no_tx l b.0).node) s.txs ∙ b.3,
            ap (λ (l : List TxDecl). (nth no_tx l b.0).slot) s.txs ∙ b.4,
          );
      one_entry = λ i j e one two. f.booked.one_entry i j e (has_entry i e one) (has_entry j e two);
      below_end = λ j e is. rw s.ends (f.booked.below_end j e (has_entry j e is));
      pending = pending-booked same_entries same_replies;
      current = point-current;
      begun = point-begun;
      begun_before = λ j step is. let low = f.booked.begun_before j step (sym (same_begun j) ∙ is) in omega (arith, low, h.passed.steps);
      point_after = point-after;
      acked_at = point-acked_at;
      once = point-once;
      in_history = point-in_history;
      passed = point-passed;
      acked = elim (cases_Bool own) [ inl mine ↦ acked-own mine | inr foreign ↦ acked-kept foreign ];
      replies = first-replies y z u p k record { id = id; reply = reply_or (record_of y.book id).reply } pointing (sym h.first) h.id_is
          (reply_of (record_of y.book id).reply (pending_at y p k).reply h.reply) is_run f.booked.replies;
    }
