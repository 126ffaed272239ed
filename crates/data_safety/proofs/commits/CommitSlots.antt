-- A write transaction is committed: what becomes of slots, streams and records.
use Rattle.std.specs.Prelude.{ℕ, suc, ◌≡◌, ◌≢◌, ◌+◌, ◌-◌, ◌<◌, ◌≤◌, true, List, [], ◌∷◌, ◌++◌, length, Some, None, ◌⊎◌}
use Rattle.std.proofs.Common.{arith, sym, ap, subst, ◌∙◌, inl, inr, length-append}
use Rattle.std.proofs.lemmas.Bool.{cases_lt}
use Rattle.zeus_base.specs.Nodes.{without}
use Rattle.zeus_base.specs.TableLaws.{nth-append, nth-last, nth-put_same, nth-put_other}
use Rattle.zeus_base.specs.declared.order.Stream.{Stream}
use Rattle.zeus_txn.specs.Ops.{named, is_write}
use Rattle.zeus_model.specs.Tables.{nth}
use Rattle.zeus_model.specs.State.{Node, Slot, slot, with_copies, next_number}
use Rattle.zeus_model.specs.Commit.{no_pending, each_write}
use Rattle.zeus_model.specs.Book.{Book, no_record, record_of, book_commit}
use Rattle.zeus_model.specs.Local.{write_cause, run_here, new_writes, replicas_of, rewritten_copy}
use Rattle.zeus_model.specs.declared.state.Current.{Current}
use Rattle.zeus_model.specs.declared.state.Pending.{Pending}
use Rattle.machine_moves.specs.SystemState.{Changes, nothing}
use Rattle.replication_safety.specs.StreamState.{end}
use Rattle.invariants.specs.Streams.{stream_state}
use Rattle.invariants.proofs.StreamEntries.{committing}
use Rattle.invariants.proofs.StreamFrames.{with_slot-same, with_slot-other}
use Rattle.invariants.proofs.StreamSeen.{stream_cases}
use Rattle.invariants.proofs.ObjectSeen.{same_or_not}
use Rattle.data_safety.specs.RunState.{RunState, pending_at}
use Rattle.data_safety.proofs.Consequences.{home-end}
use Rattle.data_safety.proofs.passes.PassOwn.{stream_from}

-- the entry that is made
abbrev pub made : Node → ℕ → Current → Pending
made o n c =
    record {
      id = c.id;
      reply = (run_here o c.tx).reply;
      named = named c.tx;
      followers = without n (replicas_of o (new_writes o (run_here o c.tx).writes));
      writes = new_writes o (run_here o c.tx).writes;
      acks = [];
    }

-- the slot with it
abbrev pub slot_after : Slot → Pending → Slot
slot_after l p = record { current = None; done = l.done; pending = l.pending ++ p ∷ [] }

-- the move
pub record CommitsTx (y z : RunState) (n s : ℕ) (c : Current) : Type 0 where
  pub within : s < y.system.config.slots
  pub current : (slot (y.system.node n) s).current ≡ Some c
  pub writes : is_write c.tx ≡ true
  pub free : write_cause (y.system.node n) s c.tx ≡ None
  pub change : Changes y.system z.system n (committing (y.system.node n) n s c) nothing
  pub txs : z.txs ≡ y.txs
  pub book : z.book ≡ book_commit y.book record { node = n; slot = s } c.id (next_number (slot (y.system.node n) s)) (run_here (y.system.node n) c.tx).reply

module _ (y z : RunState) (n s : ℕ) (c : Current) (h : CommitsTx y z n s c) where
  -- after a commit the slot has no current transaction, and its new entry stands at the end of those pending
  pub commit-slot : slot (z.system.node n) s ≡ slot_after (slot (y.system.node n) s) (made (y.system.node n) n c)
  commit-slot = ap (λ (m : Node). slot m s) h.change.node
      ∙ with_slot-same (with_copies (y.system.node n) (each_write rewritten_copy (y.system.node n).copies (new_writes (y.system.node n) (run_here (y.system.node n) c.tx).writes))) s
      (slot_after (slot (y.system.node n) s) (made (y.system.node n) n c))

  -- each slot is the one that committed, or is as before
  pub commit-slots : (m r : ℕ) → ((m ≡ n) × (r ≡ s)) ⊎ (((m ≡ n → r ≢ s)) × (slot (z.system.node m) r ≡ slot (y.system.node m) r))
  commit-slots m r = elim (same_or_not m n) [
    | inr other ↦ inr (λ e. absurd (other e), ap (λ (k : Node). slot k r) (h.change.others m other))
    | inl same ↦ elim (same_or_not r s) [
      | inl at ↦ inl (same, at)
      | inr away ↦ inr (
        λ e. away,
        ap (λ (j : ℕ). slot (z.system.node j) r) same ∙ ap (λ (k : Node). slot k r) h.change.node
            ∙ with_slot-other (with_copies (y.system.node n) (each_write rewritten_copy (y.system.node n).copies (new_writes (y.system.node n) (run_here (y.system.node n) c.tx).writes))) s r
            (slot_after (slot (y.system.node n) s) (made (y.system.node n) n c)) (λ e. away (sym e))
            ∙ ap (λ (j : ℕ). slot (y.system.node j) r) (sym same),
      )
    ]
  ]

  -- a commit leaves the count of what has passed at each slot
  pub commit-done : (m r : ℕ) → (slot (z.system.node m) r).done ≡ (slot (y.system.node m) r).done
  commit-done m r = elim (commit-slots m r) [
    | inl here ↦ rw (here.0, here.1) (ap (λ (l : Slot). l.done) commit-slot)
    | inr away ↦ ap (λ (l : Slot). l.done) away.1
  ]

  -- each other stream has its slot as before
  pub commit-away : (t : Stream) → t ≢ record { node = n; slot = s } → slot (z.system.node t.node) t.slot ≡ slot (y.system.node t.node) t.slot
  commit-away t other = elim (commit-slots t.node t.slot) [
    | inl here ↦ absurd (other (stream_from t n s here.0 here.1))
    | inr away ↦ away.1
  ]

  was_here : (i : ℕ) → i < length (slot (z.system.node n) s).pending
      → ((i < length (slot (y.system.node n) s).pending) × (nth no_pending (slot (z.system.node n) s).pending i ≡ nth no_pending (slot (y.system.node n) s).pending i))
      ⊎ ((i ≡ length (slot (y.system.node n) s).pending) × (nth no_pending (slot (z.system.node n) s).pending i ≡ made (y.system.node n) n c))
  was_here i inside =
      let ps : List Pending = (slot (y.system.node n) s).pending in
      let p : Pending = made (y.system.node n) n c in
      let same : (slot (z.system.node n) s).pending ≡ ps ++ p ∷ [] = ap (λ (l : Slot). l.pending) commit-slot in
      let inside' : i < length (ps ++ p ∷ []) = rw same at inside in
      let size : length (ps ++ p ∷ []) ≡ length ps + 1 = length-append ps (p ∷ []) in
      elim (cases_lt i (length ps)) [
        | inl old ↦ inl (old, ap (λ (l : List Pending). nth no_pending l i) same ∙ nth-append no_pending ps (p ∷ []) i old)
        | inr past ↦
            let at : i ≡ length ps = omega (arith, inside', size, past) in
            inr (at, ap (λ (l : List Pending). nth no_pending l i) same ∙ ap (λ (j : ℕ). nth no_pending (ps ++ p ∷ []) j) at ∙ nth-last no_pending ps p)
      ]

  -- what is pending was pending, or is the new entry
  pub commit-was : (m r i : ℕ) → i < length (slot (z.system.node m) r).pending
      → ((i < length (slot (y.system.node m) r).pending) × (nth no_pending (slot (z.system.node m) r).pending i ≡ nth no_pending (slot (y.system.node m) r).pending i))
      ⊎ ((m ≡ n) × (r ≡ s) × (i ≡ length (slot (y.system.node m) r).pending) × (nth no_pending (slot (z.system.node m) r).pending i ≡ made (y.system.node n) n c))
  commit-was m r i inside = elim (commit-slots m r) [
    | inr away ↦ inl (rw away.1 at inside, ap (λ (l : Slot). nth no_pending l.pending i) away.1)
    | inl here ↦ elim (was_here i (rw (here.0, here.1) at inside)) [
      | inl old ↦ inl (rw (here.0, here.1) old.0, rw (here.0, here.1) old.1)
      | inr new_one ↦ inr (here.0, here.1, rw (here.0, here.1) new_one.0, rw (here.0, here.1) new_one.1)
    ]
  ]

  -- a commit makes its stream one entry longer
  pub commit-end_here : end (stream_state z.system record { node = n; slot = s }) ≡ suc (end (stream_state y.system record { node = n; slot = s }))
  commit-end_here =
      let t : Stream = record { node = n; slot = s } in
      let ps : List Pending = (slot (y.system.node n) s).pending in
      let p : Pending = made (y.system.node n) n c in
      let size : length (ps ++ p ∷ []) ≡ length ps + 1 = length-append ps (p ∷ []) in
      home-end z.system t ∙ rw commit-slot (omega (arith, size, home-end y.system t))

  -- a commit leaves the end of each other stream
  pub commit-end_away : (t : Stream) → t ≢ record { node = n; slot = s } → end (stream_state z.system t) ≡ end (stream_state y.system t)
  commit-end_away t other = home-end z.system t ∙ ap (λ (l : Slot). l.done + length l.pending) (commit-away t other) ∙ sym (home-end y.system t)

  -- no stream's end falls
  pub commit-end : (t : Stream) → end (stream_state y.system t) ≤ end (stream_state z.system t)
  commit-end t = elim (stream_cases t record { node = n; slot = s }) [
    | inl same ↦ subst (λ (q : Stream). end (stream_state y.system q) ≤ end (stream_state z.system q)) (sym same) (omega (arith, commit-end_here))
    | inr other ↦ omega (arith, commit-end_away t other)
  ]

  entry_here : (j : ℕ) → (slot (y.system.node n) s).done ≤ j → j < end (stream_state y.system record { node = n; slot = s }) → pending_at z record { node = n; slot = s } j ≡ pending_at y record { node = n; slot = s } j
  entry_here j above below =
      let ps : List Pending = (slot (y.system.node n) s).pending in
      ap (λ (l : Slot). nth no_pending l.pending (j - l.done)) commit-slot
      ∙ nth-append no_pending ps (made (y.system.node n) n c ∷ []) (j - (slot (y.system.node n) s).done) (omega (arith, above, below, home-end y.system record { node = n; slot = s }))

  -- entries from before stay
  pub commit-entry_old : (t : Stream) (j : ℕ) → (slot (y.system.node t.node) t.slot).done ≤ j → j < end (stream_state y.system t) → pending_at z t j ≡ pending_at y t j
  commit-entry_old t j above below = elim (stream_cases t record { node = n; slot = s }) [
    | inr other ↦ ap (λ (l : Slot). nth no_pending l.pending (j - l.done)) (commit-away t other)
    | inl same ↦ subst (λ (q : Stream). pending_at z q j ≡ pending_at y q j) (sym same)
        (entry_here j (subst (λ (q : Stream). (slot (y.system.node q.node) q.slot).done ≤ j) same above) (subst (λ (q : Stream). j < end (stream_state y.system q)) same below))
  ]

  -- the entry at the old end of the stream is the one that the commit made
  pub commit-entry_new : pending_at z record { node = n; slot = s } (end (stream_state y.system record { node = n; slot = s })) ≡ made (y.system.node n) n c
  commit-entry_new =
      let t : Stream = record { node = n; slot = s } in
      let ps : List Pending = (slot (y.system.node n) s).pending in
      let place : end (stream_state y.system t) - (slot (y.system.node n) s).done ≡ length ps = omega (arith, home-end y.system t) in
      ap (λ (l : Slot). nth no_pending l.pending (end (stream_state y.system t) - l.done)) commit-slot
      ∙ ap (λ (j : ℕ). nth no_pending (ps ++ made (y.system.node n) n c ∷ []) j) place ∙ nth-last no_pending ps (made (y.system.node n) n c)

  -- ---- the book

  -- the record of the committed transaction has its entry and its reply
  pub commit-record : record_of z.book c.id ≡ record (record_of y.book c.id) { entry = Some record { stream = record { node = n; slot = s }; number = next_number (slot (y.system.node n) s) }; reply = Some (run_here (y.system.node n) c.tx).reply }
  commit-record = ap (λ (b : Book). record_of b c.id) h.book
      ∙ nth-put_same no_record y.book.records c.id (record (record_of y.book c.id) { entry = Some record { stream = record { node = n; slot = s }; number = next_number (slot (y.system.node n) s) }; reply = Some (run_here (y.system.node n) c.tx).reply })

  -- a commit leaves each other record
  pub commit-record_other : (j : ℕ) → j ≢ c.id → record_of z.book j ≡ record_of y.book j
  commit-record_other j other = ap (λ (b : Book). record_of b j) h.book
      ∙ nth-put_other no_record y.book.records c.id j (record (record_of y.book c.id) { entry = Some record { stream = record { node = n; slot = s }; number = next_number (slot (y.system.node n) s) }; reply = Some (run_here (y.system.node n) c.tx).reply }) (λ e. other (sym e))
