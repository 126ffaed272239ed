-- The first stored entry of a non-member's stream passes, for the first time or again.
use Rattle.std.specs.Prelude.{ℕ, suc, ◌≡◌, ◌≢◌, ◌+◌, ◌-◌, ◌<◌, ◌≤◌, true, false, List, [], ◌∷◌, take, drop, length, Option, Some, None, is_some}
use Rattle.std.proofs.Common.{arith, refl, sym, ap, subst, ◌∙◌, inl, inr, append-nil}
use Rattle.std.proofs.lemmas.Bool.{cases_lt}
use Rattle.zeus_base.specs.Nodes.{has}
use Rattle.zeus_base.specs.declared.order.Stream.{Stream}
use Rattle.zeus_packet.specs.declared.write.Write.{Write}
use Rattle.zeus_model.specs.Tables.{nth}
use Rattle.zeus_model.specs.State.{Node, Slot, slot, log}
use Rattle.zeus_model.specs.Commit.{as_kept, no_kept, passes, pass_kept, after_passing, writes_of, each_write, validated}
use Rattle.zeus_model.specs.Book.{record_of, pass_tx, tx_of}
use Rattle.zeus_model.specs.declared.state.Kept.{Kept}
use Rattle.machine_moves.specs.SystemState.{IsLive, IsNumbered, Changes, nothing}
use Rattle.machine_moves.specs.Move.{passes_kept}
use Rattle.machine_moves.proofs.Steady.{IsSteady, IsNumbered-steady, move_keep}
use Rattle.replication_safety.specs.StreamState.{StreamState, Has, IsAlive, end, entry, entry_of, kept_at}
use Rattle.replication_safety.specs.Moves.{PassesFirst}
use Rattle.replication_safety.proofs.Alive.{alive_PassesFirst}
use Rattle.replication_safety.proofs.Consequences.{kept-committed}
use Rattle.replication_safety.proofs.Passing.{passes-drops, passes-kept, first_pass-stored, keeps_PassesFirst_first, keeps_PassesFirst_again}
use Rattle.invariants.specs.Streams.{stream_state}
use Rattle.invariants.proofs.StreamEntries.{pass_kept_here}
use Rattle.invariants.proofs.StreamFrames.{stream-stopped, logs-quiet, with_log-other}
use Rattle.invariants.proofs.StreamSeen.{stream_cases, log_done_is, log_kept_is}
use Rattle.data_safety.specs.RunState.{RunState, Witness, pending_at, Lives}
use Rattle.data_safety.specs.DataInvariant.{DataInvariant}
use Rattle.data_safety.proofs.Consequences.{kept-lives, kept-entry, kept-writes, lives-pending}
use Rattle.data_safety.proofs.history.Booking.{tx_of-found, pass_tx-kept_first, pass_tx-again}
use Rattle.data_safety.proofs.history.Running as running
use Rattle.data_safety.proofs.stores.EntriesShrink.{EntriesShrink, ShrunkStream, shrunk-drops, shrunk-quiet}
use Rattle.data_safety.proofs.passes.PassLogs.{KeepsSlots, kept-slots, shrink-logs, kept-low}
use Rattle.data_safety.proofs.passes.PassCopies.{Revalidates}
use Rattle.data_safety.proofs.passes.PassBooked.{IsPoint}
use Rattle.data_safety.proofs.passes.PassMoves.{passed_on, passed_on-here, passed_on-other, pass-first, pass-again}
use Rattle.data_safety.proofs.passes.PassOwn.{none_from}

first_writes : (ks : List Kept) → 0 < length ks → writes_of (take 1 ks) ≡ (nth no_kept ks 0).writes
unfolding writes_of nth
first_writes [] h = absurd (omega (arith, h))
first_writes (k ∷ ks) h = append-nil k.writes

module _ (y z : RunState) (u : Witness) (f : DataInvariant y u) (n : ℕ) (s : Stream) (out : has s.node (y.system.node n).members ≡ false) (foreign : s.node ≢ n)
    (some : 0 < length (log (y.system.node n) s).kept) (ok : passes (y.system.node n) (nth no_kept (log (y.system.node n) s).kept 0) ≡ true)
    (c : Changes y.system z.system n (pass_kept (y.system.node n) s 1) nothing) (txs : z.txs ≡ y.txs) where
  numbered : IsNumbered y.system
  numbered = IsNumbered-steady y.system f.steady

  steady_after : IsSteady z.system
  steady_after = move_keep y.system z.system (passes_kept n s out foreign some ok c) f.steady

  away : n ≢ s.node
  away = λ e. foreign (sym e)

  passing : PassesFirst (stream_state y.system s) (stream_state z.system s) n
  passing = pass_kept_here y.system z.system s n numbered out foreign some ok c

  done_is : (stream_state y.system s).done n ≡ (log (y.system.node n) s).done
  done_is = log_done_is y.system s n away

  slots_stay : KeepsSlots (y.system.node n) (pass_kept (y.system.node n) s 1)
  slots_stay = record { slots = refl; entries = refl; gathers = refl; stopped = refl; epoch = refl; me = refl }

  shrunk_away : (t : Stream) → t ≢ s → ShrunkStream (stream_state y.system t) (stream_state z.system t) (u.passed t) (u.passed t)
  shrunk_away t other =
      shrunk-quiet y.system z.system t (u.passed t) n (pass_kept (y.system.node n) s 1) (f.replication t) c
      (logs-quiet (y.system.node n) (pass_kept (y.system.node n) s 1) t n refl refl refl refl
      (with_log-other (after_passing (y.system.node n) (take 1 (log (y.system.node n) s).kept)) s t
      record { done = (log (y.system.node n) s).done + 1; kept = drop 1 (log (y.system.node n) s).kept } (λ e. other (sym e))))

  has_first : Has (stream_state y.system s) n (log (y.system.node n) s).done
  has_first = subst (λ (k : ℕ). Has (stream_state y.system s) n k) done_is (passes-kept (stream_state y.system s) (stream_state z.system s) n passing)

  kept_first : kept_at (stream_state y.system s) n (log (y.system.node n) s).done ≡ nth no_kept (log (y.system.node n) s).kept 0
  kept_first =
      let none : (log (y.system.node n) s).done - (stream_state y.system s).done n ≡ 0 = omega (arith, done_is) in
      ap (λ (i : ℕ). nth no_kept ((stream_state y.system s).kept n) i) none ∙ ap (λ (ks : List Kept). nth no_kept ks 0) (log_kept_is y.system s n away)

  revalidates : Revalidates y z n (kept_at (stream_state y.system s) n (log (y.system.node n) s).done).writes
  revalidates = record {
    here = ap (λ (k : Node). k.copies) c.node
        ∙ ap (λ (ws : List Write). each_write validated (y.system.node n).copies ws) (first_writes (log (y.system.node n) s).kept some ∙ ap (λ (k : Kept). k.writes) (sym kept_first));
    others = λ m other. ap (λ (k : Node). k.copies) (c.others m other);
  }

  -- ---- the first pass

  module _ (first : (log (y.system.node n) s).done ≡ u.passed s) where
    first_stream : (t : Stream) → ShrunkStream (stream_state y.system t) (stream_state z.system t) (u.passed t) ((passed_on u s).passed t)
    first_stream t = elim (stream_cases t s) [
      | inl same ↦ subst (λ (r : Stream). ShrunkStream (stream_state y.system r) (stream_state z.system r) (u.passed r) ((passed_on u s).passed r)) (sym same)
          (subst (λ (m : ℕ). ShrunkStream (stream_state y.system s) (stream_state z.system s) (u.passed s) m) (sym (passed_on-here u s))
          (shrunk-drops (stream_state y.system s) (stream_state z.system s) (u.passed s) (suc (u.passed s)) n (suc ((stream_state y.system s).done n)) (passes-drops (stream_state y.system s) (stream_state z.system s) n passing)
          (keeps_PassesFirst_first (stream_state y.system s) (stream_state z.system s) (u.passed s) n (f.replication s) passing (done_is ∙ first)) (omega arith)
          (λ k. alive_PassesFirst (stream_state y.system s) (stream_state z.system s) (u.passed s) (suc (u.passed s)) k n passing (omega arith))))
      | inr other ↦ subst (λ (m : ℕ). ShrunkStream (stream_state y.system t) (stream_state z.system t) (u.passed t) m) (sym (passed_on-other u s t other)) (shrunk_away t other)
    ]

    first_shrink : EntriesShrink y z u (passed_on u s)
    first_shrink = shrink-logs y z u (passed_on u s).passed n (pass_kept (y.system.node n) s 1) f c slots_stay txs (λ t. (first_stream t).goes)

    alive : Lives y u s (log (y.system.node n) s).done
    alive = kept-lives y u f s n (log (y.system.node n) s).done c.live has_first (omega (arith, first))

    same_writes : (kept_at (stream_state y.system s) n (log (y.system.node n) s).done).writes ≡ (pending_at y s (log (y.system.node n) s).done).writes
    same_writes = kept-writes y u f s n (log (y.system.node n) s).done has_first (omega (arith, first))

    stored : (m : ℕ) → IsLive y.system m → has m (pending_at y s (log (y.system.node n) s).done).followers ≡ true → Has (stream_state y.system s) m (log (y.system.node n) s).done
    stored m live follows =
        let e : entry_of (kept_at (stream_state y.system s) n (u.passed s)) ≡ entry_of (as_kept (pending_at y s (u.passed s))) =
        kept-entry y u f s n (u.passed s) (subst (λ (k : ℕ). Has (stream_state y.system s) n k) first has_first) (omega arith) in
        let asked : has m (kept_at (stream_state y.system s) n (u.passed s)).followers ≡ true =
        ap (λ (k : Rattle.replication_safety.specs.StreamState.Entry). has m k.followers) e ∙ ap (λ (k : ℕ). has m (pending_at y s k).followers) (sym first) ∙ follows in
        subst (λ (k : ℕ). Has (stream_state y.system s) m k) (sym first)
        (first_pass-stored (stream_state y.system s) (stream_state z.system s) (u.passed s) n m (f.replication s) passing (done_is ∙ first) (stream-stopped y.system s m ∙ live) asked)

    -- if the entry has not passed anywhere yet, then its pass is its transaction's point, and the invariant stays
    pub keeps_first : z.book ≡ (pass_tx y.book false (tx_of y.book s (log (y.system.node n) s).done)).book → DataInvariant z (passed_on u s)
    keeps_first book =
        let k : ℕ = (log (y.system.node n) s).done in
        let id : ℕ = (pending_at y s k).id in
        let inside = lives-pending y u f s k alive in
        let d : ℕ = (slot (y.system.node s.node) s.slot).done in
        let b = f.booked.pending s (k - d) inside.1 in
        let at : d + (k - d) ≡ k = omega (arith, inside.0) in
        let has_entry : (record_of y.book id).entry ≡ Some record { stream = s; number = k } = subst (λ (j : ℕ). (record_of y.book id).entry ≡ Some record { stream = s; number = j }) at b.0 in
        let unpointed : (record_of y.book id).point ≡ None = none_from (record_of y.book id).point (λ is. let low : k < u.passed s = (f.booked.passed id record { stream = s; number = k } has_entry).0 is in omega (arith, low, first)) in
        let unacked : (record_of y.book id).acked ≡ None = none_from (record_of y.book id).acked (λ is. let low : k < d = (f.booked.acked id record { stream = s; number = k } has_entry).0 is in omega (arith, low, inside.0)) in
        let found = tx_of-found y.book s k id f.booked.one_entry has_entry in
        let slots = λ (m r : ℕ). kept-slots y.system z.system n m r (pass_kept (y.system.node n) s 1) c slots_stay in
        let point : IsPoint y z u (passed_on u s) s k id false = record {
          passed = pass_tx-kept_first y.book z.book (tx_of y.book s k) id found unpointed unacked book;
          entry = has_entry;
          reply = b.1;
          id_is = refl;
          first = sym first;
          rises = passed_on-here u s ∙ ap (λ (m : ℕ). suc m) (sym first);
          others = λ r other. passed_on-other u s r other;
          done_others = λ r other. ap (λ (l : Slot). l.done) (slots r.node r.slot);
          done_own = λ is. absurd (cc is);
          done_kept = λ is. ap (λ (l : Slot). l.done) (slots s.node s.slot);
          unacked = unacked;
        } in
        pass-first y z u (passed_on u s) f steady_after first_shrink first_stream n k id s false
        (subst (λ (ws : List Write). Revalidates y z n ws) same_writes revalidates) point alive stored
        (running.home-has y u f s k (omega (arith, first)) (kept-committed (stream_state y.system s) (u.passed s) n k (f.replication s) has_first))

  -- ---- a later pass

  module _ (later : (log (y.system.node n) s).done < u.passed s) where
    again_stream : (t : Stream) → ShrunkStream (stream_state y.system t) (stream_state z.system t) (u.passed t) (u.passed t)
    again_stream t = elim (stream_cases t s) [
      | inl same ↦ subst (λ (r : Stream). ShrunkStream (stream_state y.system r) (stream_state z.system r) (u.passed r) (u.passed r)) (sym same)
          (shrunk-drops (stream_state y.system s) (stream_state z.system s) (u.passed s) (u.passed s) n (suc ((stream_state y.system s).done n)) (passes-drops (stream_state y.system s) (stream_state z.system s) n passing)
          (keeps_PassesFirst_again (stream_state y.system s) (stream_state z.system s) (u.passed s) n (f.replication s) passing (omega (arith, done_is, later))) (omega arith)
          (λ k. alive_PassesFirst (stream_state y.system s) (stream_state z.system s) (u.passed s) (u.passed s) k n passing (omega arith)))
      | inr other ↦ shrunk_away t other
    ]

    -- if the entry has passed at another node already, then its pass leaves the history, and the invariant stays
    pub keeps_again : z.book ≡ (pass_tx y.book false (tx_of y.book s (log (y.system.node n) s).done)).book → DataInvariant z u
    keeps_again book =
        let k : ℕ = (log (y.system.node n) s).done in
        let e = f.booked.entry s k (kept-committed (stream_state y.system s) (u.passed s) n k (f.replication s) has_first) in
        let pointed = some_from (record_of y.book e.0).point ((f.booked.passed e.0 record { stream = s; number = k } e.1).1 later) in
        let same : z.book ≡ y.book = pass_tx-again y.book z.book (tx_of y.book s k) e.0 pointed.0 (tx_of-found y.book s k e.0 f.booked.one_entry e.1) pointed.1 book in
        pass-again y z u u f steady_after (shrink-logs y z u u.passed n (pass_kept (y.system.node n) s 1) f c slots_stay txs (λ t. (again_stream t).goes)) again_stream
        n (kept_at (stream_state y.system s) n k).writes revalidates (λ w i. kept-low y u s n k w f has_first away later i) same (λ t. refl)
        (λ m r. ap (λ (l : Slot). l.done) (kept-slots y.system z.system n m r (pass_kept (y.system.node n) s 1) c slots_stay))
      where
        some_from : (o : Option ℕ) → is_some o ≡ true → (a : ℕ) × (o ≡ Some a)
        some_from None h = absurd cc
        some_from (Some a) h = (a, refl)

  -- if the head entry of the stored stream of a node that is no member passes, then the invariant stays
  pub keeps_pass_kept : z.book ≡ (pass_tx y.book false (tx_of y.book s (log (y.system.node n) s).done)).book → (v : Witness) × DataInvariant z v
  keeps_pass_kept book = elim (cases_lt (log (y.system.node n) s).done (u.passed s)) [
    | inl later ↦ (u, keeps_again later book)
    | inr above ↦
        let low : (stream_state y.system s).done n ≤ u.passed s = (f.replication s).most n in
        let first : (log (y.system.node n) s).done ≡ u.passed s = omega (arith, low, above, done_is) in
        (passed_on u s, keeps_first first book)
  ]
