-- The first entry of an own stream passes.
use Rattle.std.specs.Prelude.{ℕ, suc, ◌≡◌, ◌≢◌, ◌+◌, ◌-◌, ◌<◌, ◌≤◌, true, List, [], ◌∷◌, map, take, drop, length, Option, Some, None, is_some, ◌⊎◌}
use Rattle.std.proofs.Common.{arith, refl, sym, ap, subst, ◌∙◌, inl, inr, append-nil}
use Rattle.std.proofs.lemmas.List.{length-drop}
use Rattle.zeus_base.specs.Nodes.{has}
use Rattle.zeus_base.specs.TableLaws.{nth-drop}
use Rattle.zeus_base.specs.declared.order.Stream.{Stream}
use Rattle.zeus_packet.specs.declared.write.Write.{Write}
use Rattle.zeus_txn.specs.declared.reply.Reply.{Reply}
use Rattle.zeus_model.specs.Tables.{nth}
use Rattle.zeus_model.specs.State.{Node, Slot, slot, owns}
use Rattle.zeus_model.specs.Commit.{as_kept, no_kept, no_pending, passes, pass_own, after_passing, writes_of, each_write, validated}
use Rattle.zeus_model.specs.Book.{record_of, pass_tx, tx_of}
use Rattle.zeus_model.specs.declared.state.Pending.{Pending}
use Rattle.machine_moves.specs.SystemState.{IsLive, IsNumbered, Changes, nothing}
use Rattle.machine_moves.specs.Move.{own_kept, passes_own}
use Rattle.machine_moves.proofs.Steady.{IsSteady, IsNumbered-steady, move_keep}
use Rattle.replication_safety.specs.StreamState.{StreamState, Has, end, entry, entry_of, kept_at}
use Rattle.replication_safety.specs.Moves.{PassesFirst}
use Rattle.replication_safety.proofs.Alive.{alive_PassesFirst}
use Rattle.replication_safety.proofs.Passing.{passes-drops, passes-kept, first_pass-stored, keeps_PassesFirst_first}
use Rattle.invariants.specs.Streams.{stream_state}
use Rattle.invariants.proofs.StreamEntries.{pass_own_here}
use Rattle.invariants.proofs.StreamFrames as streams
use Rattle.invariants.proofs.StreamFrames.{stream-home, stream-stopped, slots-quiet, with_slot-same, with_slot-other}
use Rattle.invariants.proofs.StreamSeen.{stream_cases, own_done_is}
use Rattle.invariants.proofs.ObjectSeen.{same_or_not}
use Rattle.data_safety.specs.RunState.{RunState, Witness, pending_at}
use Rattle.data_safety.specs.DataInvariant.{DataInvariant}
use Rattle.data_safety.proofs.Consequences.{home-done, home-end, kept-lives, kept-entry}
use Rattle.data_safety.proofs.history.Booking.{tx_of-found, pass_tx-own_first}
use Rattle.data_safety.proofs.stores.EntriesShrink.{EntriesShrink, ShrunkStream, shrunk-drops, shrunk-quiet, still-objects}
use Rattle.data_safety.proofs.passes.PassCopies.{Revalidates}
use Rattle.data_safety.proofs.passes.PassBooked.{IsPoint}
use Rattle.data_safety.proofs.passes.PassMoves.{passed_on, passed_on-here, passed_on-other, pass-first}

-- if an optional value is not there, then it is None
pub none_from : (o : Option ℕ) → (is_some o ≡ true → ⊥) → o ≡ None
none_from None no_one = refl
none_from (Some a) no_one = absurd (no_one refl)

-- a stream is made of its node and its slot
pub stream_from : (t : Stream) (n s : ℕ) → t.node ≡ n → t.slot ≡ s → t ≡ record { node = n; slot = s }
stream_from t n s a b = ap (λ (k : ℕ). stream_of k t.slot) a ∙ ap (λ (k : ℕ). stream_of n k) b
  where
    stream_of : ℕ → ℕ → Stream
    stream_of k l = record { node = k; slot = l }

first_writes : (ps : List Pending) → 0 < length ps → writes_of (take 1 (map as_kept ps)) ≡ (nth no_pending ps 0).writes
unfolding writes_of nth
first_writes [] h = absurd (omega (arith, h))
first_writes (p ∷ ps) h = append-nil p.writes

module _ (y z : RunState) (u : Witness) (f : DataInvariant y u) (n s : ℕ) (some : 0 < length (slot (y.system.node n) s).pending)
    (ok : passes (y.system.node n) (nth no_kept (own_kept (y.system.node n) s) 0) ≡ true) (c : Changes y.system z.system n (pass_own (y.system.node n) s 1) nothing)
    (txs : z.txs ≡ y.txs) where
  own : Stream
  own = record { node = n; slot = s }

  numbered : IsNumbered y.system
  numbered = IsNumbered-steady y.system f.steady

  steady_after : IsSteady z.system
  steady_after = move_keep y.system z.system (passes_own n s some ok c) f.steady

  count : u.passed record { node = n; slot = s } ≡ (slot (y.system.node n) s).done
  count =
      let t : Stream = record { node = n; slot = s } in
      (f.replication t).own_first (rw (stream-home y.system t) (stream-stopped y.system t n ∙ c.live)) ∙ home-done y.system t

  -- ---- slots

  slot_here : slot (z.system.node n) s ≡ record { current = (slot (y.system.node n) s).current; done = (slot (y.system.node n) s).done + 1; pending = drop 1 (slot (y.system.node n) s).pending }
  slot_here = ap (λ (m : Node). slot m s) c.node
      ∙ with_slot-same (after_passing (y.system.node n) (take 1 (map as_kept (slot (y.system.node n) s).pending))) s
      record { current = (slot (y.system.node n) s).current; done = (slot (y.system.node n) s).done + 1; pending = drop 1 (slot (y.system.node n) s).pending }

  slot_cases : (m r : ℕ) → ((m ≡ n) × (r ≡ s)) ⊎ (slot (z.system.node m) r ≡ slot (y.system.node m) r)
  slot_cases m r = elim (same_or_not m n) [
    | inr other ↦ inr (ap (λ (k : Node). slot k r) (c.others m other))
    | inl same ↦ elim (same_or_not r s) [
      | inl at ↦ inl (same, at)
      | inr away ↦ inr (
          ap (λ (j : ℕ). slot (z.system.node j) r) same ∙ ap (λ (k : Node). slot k r) c.node
          ∙ with_slot-other (after_passing (y.system.node n) (take 1 (map as_kept (slot (y.system.node n) s).pending))) s r
          record { current = (slot (y.system.node n) s).current; done = (slot (y.system.node n) s).done + 1; pending = drop 1 (slot (y.system.node n) s).pending } (λ e. away (sym e))
          ∙ ap (λ (j : ℕ). slot (y.system.node j) r) (sym same))
    ]
  ]

  slot_away : (t : Stream) → t ≢ record { node = n; slot = s } → slot (z.system.node t.node) t.slot ≡ slot (y.system.node t.node) t.slot
  slot_away t other = elim (slot_cases t.node t.slot) [
    | inl here ↦ absurd (other (stream_from t n s here.0 here.1))
    | inr same ↦ same
  ]

  was_here : (i : ℕ) → i < length (slot (z.system.node n) s).pending
      → (j : ℕ) × (j < length (slot (y.system.node n) s).pending) × (nth no_pending (slot (z.system.node n) s).pending i ≡ nth no_pending (slot (y.system.node n) s).pending j)
      × ((slot (z.system.node n) s).done + i ≡ (slot (y.system.node n) s).done + j)
  was_here i inside =
      let ps : List Pending = (slot (y.system.node n) s).pending in
      let inside' : i < length (drop 1 ps) = rw slot_here at inside in
      rw slot_here (i + 1, omega (arith, inside', length-drop 1 ps), nth-drop no_pending 1 ps i, omega arith)

  was : (m r i : ℕ) → i < length (slot (z.system.node m) r).pending
      → (j : ℕ) × (j < length (slot (y.system.node m) r).pending) × (nth no_pending (slot (z.system.node m) r).pending i ≡ nth no_pending (slot (y.system.node m) r).pending j)
      × ((slot (z.system.node m) r).done + i ≡ (slot (y.system.node m) r).done + j)
  was m r i inside = elim (slot_cases m r) [
    | inl here ↦ rw (here.0, here.1) (was_here i (rw (here.0, here.1) at inside))
    | inr same ↦
        let inside' : i < length (slot (y.system.node m) r).pending = rw same at inside in
        (i, inside', ap (λ (l : Slot). nth no_pending l.pending i) same, ap (λ (l : Slot). l.done + i) same)
  ]

  current : (m r : ℕ) → (slot (z.system.node m) r).current ≡ (slot (y.system.node m) r).current
  current m r = elim (slot_cases m r) [
    | inl here ↦ rw (here.0, here.1) (ap (λ (l : Slot). l.current) slot_here)
    | inr same ↦ ap (λ (l : Slot). l.current) same
  ]

  entry_here : (j : ℕ) → (slot (y.system.node n) s).done + 1 ≤ j → pending_at z record { node = n; slot = s } j ≡ pending_at y record { node = n; slot = s } j
  entry_here j above =
      let ps : List Pending = (slot (y.system.node n) s).pending in
      let back : j - ((slot (y.system.node n) s).done + 1) + 1 ≡ j - (slot (y.system.node n) s).done = omega (arith, above) in
      ap (λ (l : Slot). nth no_pending l.pending (j - l.done)) slot_here
      ∙ nth-drop no_pending 1 ps (j - ((slot (y.system.node n) s).done + 1)) ∙ ap (λ (i : ℕ). nth no_pending ps i) back

  entries : (t : Stream) (j : ℕ) → (passed_on u record { node = n; slot = s }).passed t ≤ j → pending_at z t j ≡ pending_at y t j
  entries t j above = elim (stream_cases t record { node = n; slot = s }) [
    | inl same ↦
        let above' : (passed_on u record { node = n; slot = s }).passed record { node = n; slot = s } ≤ j = subst (λ (r : Stream). (passed_on u record { node = n; slot = s }).passed r ≤ j) same above in
        subst (λ (r : Stream). pending_at z r j ≡ pending_at y r j) (sym same)
        (entry_here j (omega (arith, above', passed_on-here u record { node = n; slot = s }, count)))
    | inr other ↦ ap (λ (l : Slot). nth no_pending l.pending (j - l.done)) (slot_away t other)
  ]

  ends : (t : Stream) → end (stream_state z.system t) ≡ end (stream_state y.system t)
  ends t =
      let sum : (slot (z.system.node t.node) t.slot).done + length (slot (z.system.node t.node) t.slot).pending ≡ (slot (y.system.node t.node) t.slot).done + length (slot (y.system.node t.node) t.slot).pending =
      elim (slot_cases t.node t.slot) [
        | inl here ↦ rw (here.0, here.1) (rw slot_here (omega (arith, some, length-drop 1 (slot (y.system.node n) s).pending)))
        | inr same ↦ ap (λ (l : Slot). l.done + length l.pending) same
      ] in
      home-end z.system t ∙ sum ∙ sym (home-end y.system t)

  -- ---- streams

  passing : PassesFirst (stream_state y.system record { node = n; slot = s }) (stream_state z.system record { node = n; slot = s }) n
  passing = pass_own_here y.system z.system n s record { node = n; slot = s } numbered refl refl some ok c

  done_is : (stream_state y.system record { node = n; slot = s }).done n ≡ (slot (y.system.node n) s).done
  done_is = own_done_is y.system record { node = n; slot = s } n refl

  first_done : (stream_state y.system record { node = n; slot = s }).done n ≡ u.passed record { node = n; slot = s }
  first_done = done_is ∙ sym count

  shrunk_here : ShrunkStream (stream_state y.system record { node = n; slot = s }) (stream_state z.system record { node = n; slot = s }) (u.passed record { node = n; slot = s }) (suc (u.passed record { node = n; slot = s }))
  shrunk_here =
      let t : Stream = record { node = n; slot = s } in
      let old : StreamState = stream_state y.system t in
      let new : StreamState = stream_state z.system t in
      shrunk-drops old new (u.passed t) (suc (u.passed t)) n (suc (old.done n)) (passes-drops old new n passing)
      (keeps_PassesFirst_first old new (u.passed t) n (f.replication t) passing first_done) (omega arith)
      (λ k. alive_PassesFirst old new (u.passed t) (suc (u.passed t)) k n passing (omega arith))

  quiet_away : (t : Stream) → t ≢ record { node = n; slot = s } → streams.IsQuiet (y.system.node n) (pass_own (y.system.node n) s 1) t n
  quiet_away t other =
      slots-quiet (y.system.node n) (pass_own (y.system.node n) s 1) t n refl refl refl refl
      (λ home.
      let away : s ≢ t.slot = λ e. other (stream_from t n s (sym home) (sym e)) in
      let same : slot (pass_own (y.system.node n) s 1) t.slot ≡ slot (y.system.node n) t.slot =
      with_slot-other (after_passing (y.system.node n) (take 1 (map as_kept (slot (y.system.node n) s).pending))) s t.slot
      record { current = (slot (y.system.node n) s).current; done = (slot (y.system.node n) s).done + 1; pending = drop 1 (slot (y.system.node n) s).pending } away in
      (ap (λ (l : Slot). l.done) same, ap (λ (l : Slot). l.pending) same))

  shrunk_stream : (t : Stream) → ShrunkStream (stream_state y.system t) (stream_state z.system t) (u.passed t) ((passed_on u record { node = n; slot = s }).passed t)
  shrunk_stream t = elim (stream_cases t record { node = n; slot = s }) [
    | inl same ↦ subst (λ (r : Stream). ShrunkStream (stream_state y.system r) (stream_state z.system r) (u.passed r) ((passed_on u record { node = n; slot = s }).passed r)) (sym same)
        (subst (λ (m : ℕ). ShrunkStream (stream_state y.system record { node = n; slot = s }) (stream_state z.system record { node = n; slot = s }) (u.passed record { node = n; slot = s }) m)
        (sym (passed_on-here u record { node = n; slot = s })) shrunk_here)
    | inr other ↦ subst (λ (m : ℕ). ShrunkStream (stream_state y.system t) (stream_state z.system t) (u.passed t) m) (sym (passed_on-other u record { node = n; slot = s } t other))
        (shrunk-quiet y.system z.system t (u.passed t) n (pass_own (y.system.node n) s 1) (f.replication t) c (quiet_away t other))
  ]

  -- ---- the rest of the node

  owning_same : (o : Node) (r x : ℕ) → owns (pass_own o r 1) x ≡ owns o x
  unfolding owns
  owning_same o r x = refl

  owning : (m x : ℕ) → owns (z.system.node m) x ≡ owns (y.system.node m) x
  owning m x = elim (same_or_not m n) [
    | inl same ↦ rw same (ap (λ (k : Node). owns k x) c.node ∙ owning_same (y.system.node n) s x)
    | inr other ↦ ap (λ (k : Node). owns k x) (c.others m other)
  ]

  still_live : (m : ℕ) → IsLive z.system m → IsLive y.system m
  still_live m live = elim (same_or_not m n) [
    | inl same ↦ rw same c.live
    | inr other ↦ ap (λ (k : Node). k.stopped) (sym (c.others m other)) ∙ live
  ]

  shrink : EntriesShrink y z u (passed_on u record { node = n; slot = s })
  shrink = record {
    config = c.config;
    views = c.views;
    txs = txs;
    live = still_live;
    owning = owning;
    objects = still-objects y.system z.system u (passed_on u record { node = n; slot = s }).passed n (pass_own (y.system.node n) s 1) numbered c
        (λ x. record { stopped = refl; epoch = refl; entry = refl; gather = refl }) f.ownership;
    streams = λ t. (shrunk_stream t).goes;
    entry = entries;
    was = was;
    current = current;
    ends = ends;
  }

  -- ---- the entry

  first_at : pending_at y record { node = n; slot = s } (slot (y.system.node n) s).done ≡ nth no_pending (slot (y.system.node n) s).pending 0
  first_at =
      let none : (slot (y.system.node n) s).done - (slot (y.system.node n) s).done ≡ 0 = omega arith in
      ap (λ (i : ℕ). nth no_pending (slot (y.system.node n) s).pending i) none

  revalidates : Revalidates y z n (pending_at y record { node = n; slot = s } (slot (y.system.node n) s).done).writes
  revalidates = record {
    here = ap (λ (k : Node). k.copies) c.node
        ∙ ap (λ (ws : List Write). each_write validated (y.system.node n).copies ws) (first_writes (slot (y.system.node n) s).pending some ∙ ap (λ (q : Pending). q.writes) (sym first_at));
    others = λ m other. ap (λ (k : Node). k.copies) (c.others m other);
  }

  has_first : Has (stream_state y.system record { node = n; slot = s }) n (slot (y.system.node n) s).done
  has_first = subst (λ (k : ℕ). Has (stream_state y.system record { node = n; slot = s }) n k) done_is
      (passes-kept (stream_state y.system record { node = n; slot = s }) (stream_state z.system record { node = n; slot = s }) n passing)

  stored : (m : ℕ) → IsLive y.system m → has m (pending_at y record { node = n; slot = s } (slot (y.system.node n) s).done).followers ≡ true
      → Has (stream_state y.system record { node = n; slot = s }) m (slot (y.system.node n) s).done
  stored m live follows =
      let t : Stream = record { node = n; slot = s } in
      let e : entry_of (kept_at (stream_state y.system t) n (u.passed t)) ≡ entry_of (as_kept (pending_at y t (u.passed t))) =
      kept-entry y u f t n (u.passed t) (subst (λ (k : ℕ). Has (stream_state y.system t) n k) (sym count) has_first) (omega arith) in
      let asked : has m (kept_at (stream_state y.system t) n (u.passed t)).followers ≡ true =
      ap (λ (k : Rattle.replication_safety.specs.StreamState.Entry). has m k.followers) e ∙ ap (λ (k : ℕ). has m (pending_at y t k).followers) count ∙ follows in
      subst (λ (k : ℕ). Has (stream_state y.system t) m k) count
      (first_pass-stored (stream_state y.system t) (stream_state z.system t) (u.passed t) n m (f.replication t) passing first_done (stream-stopped y.system t m ∙ live) asked)

  -- if the head entry of a node's own stream passes, then the invariant stays
  pub keeps_pass_own : z.book ≡ (pass_tx y.book true (tx_of y.book record { node = n; slot = s } (slot (y.system.node n) s).done)).book → DataInvariant z (passed_on u record { node = n; slot = s })
  keeps_pass_own book =
      let t : Stream = record { node = n; slot = s } in
      let k : ℕ = (slot (y.system.node n) s).done in
      let id : ℕ = (nth no_pending (slot (y.system.node n) s).pending 0).id in
      let b = f.booked.pending t 0 some in
      let at : (slot (y.system.node n) s).done + 0 ≡ k = omega arith in
      let has_entry : (record_of y.book id).entry ≡ Some record { stream = t; number = k } = subst (λ (j : ℕ). (record_of y.book id).entry ≡ Some record { stream = t; number = j }) at b.0 in
      let unpointed : (record_of y.book id).point ≡ None = none_from (record_of y.book id).point (λ is. let low : k < u.passed t = (f.booked.passed id record { stream = t; number = k } has_entry).0 is in omega (arith, low, count)) in
      let unacked : (record_of y.book id).acked ≡ None = none_from (record_of y.book id).acked (λ is. let low : k < k = (f.booked.acked id record { stream = t; number = k } has_entry).0 is in omega (arith, low)) in
      let found = tx_of-found y.book t k id f.booked.one_entry has_entry in
      let point : IsPoint y z u (passed_on u t) t k id true = record {
        passed = pass_tx-own_first y.book z.book (tx_of y.book t k) id found unpointed unacked book;
        entry = has_entry;
        reply = b.1 ∙ ap (λ (q : Pending). some_reply q) (sym first_at);
        id_is = ap (λ (q : Pending). q.id) (sym first_at);
        first = count;
        rises = passed_on-here u t ∙ ap (λ (m : ℕ). suc m) count;
        others = λ r other. passed_on-other u t r other;
        done_others = λ r other. ap (λ (l : Slot). l.done) (slot_away r other);
        done_own = λ is. (ap (λ (l : Slot). l.done) slot_here ∙ add_one k, refl);
        done_kept = λ is. absurd (cc is);
        unacked = unacked;
      } in
      pass-first y z u (passed_on u t) f steady_after shrink shrunk_stream n k id t true revalidates point (kept-lives y u f t n k c.live has_first (omega (arith, count))) stored has_first
    where
      some_reply : Pending → Option Reply
      some_reply q = Some q.reply

      add_one : (m : ℕ) → m + 1 ≡ suc m
      add_one m = omega arith
