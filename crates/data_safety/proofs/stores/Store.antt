-- A node stores the next entry of a stream.
use Rattle.std.specs.Prelude.{ℕ, ◌≡◌, ◌≢◌, ◌<◌, ◌≤◌, List, [], ◌∷◌, ◌++◌, length, Option, Some, None, is_some, ◌⊎◌}
use Rattle.std.proofs.Common.{arith, refl, sym, ap, subst, ◌∙◌, inl, inr}
use Rattle.zeus_base.specs.Nodes.{has}
use Rattle.zeus_base.specs.Limits.{KeepsLimits}
use Rattle.zeus_base.specs.declared.config.Config.{Config}
use Rattle.zeus_base.specs.declared.order.Stream.{Stream}
use Rattle.zeus_packet.specs.declared.letter.RInv.{RInv as Invalidation}
use Rattle.zeus_packet.specs.declared.letter.State.{State}
use Rattle.zeus_packet.specs.declared.letter.State.TheVariants.{Valid, Invalid}
use Rattle.zeus_packet.specs.declared.place.Place.{Place}
use Rattle.zeus_packet.specs.declared.write.Content.{Content}
use Rattle.zeus_packet.specs.declared.write.Write.{Write}
use Rattle.zeus_model.specs.In.{In}
use Rattle.zeus_model.specs.Tables.{nth}
use Rattle.zeus_model.specs.State.{Node, Slot, log, copy, with_copies}
use Rattle.zeus_model.specs.Book.{Book}
use Rattle.zeus_model.specs.Commit.{store, each_write, applied}
use Rattle.zeus_model.specs.declared.state.Copy.{Copy}
use Rattle.zeus_model.specs.declared.state.Kept.{Kept}
use Rattle.machine_moves.specs.SystemState.{IsLive, Changes, nothing}
use Rattle.machine_moves.specs.Move.{stores}
use Rattle.machine_moves.proofs.Steady.{IsSteady, move_keep}
use Rattle.replication_safety.specs.StreamState.{StreamState, Has, Entry, kept_at, top}
use Rattle.replication_safety.specs.Moves.{StoresNext}
use Rattle.replication_safety.proofs.Alive.{alive_StoresNext}
use Rattle.replication_safety.proofs.Appends.{stores-appends, appends-top, appends-has_before, appends-has, appends-old, appends-new, keeps_StoresNext}
use Rattle.replication_safety.proofs.Entries.{stores-unpassed}
use Rattle.invariants.specs.Streams.{stream_state}
use Rattle.invariants.proofs.StreamEntries.{HearsNext, store_here}
use Rattle.invariants.proofs.StreamFrames.{logs-quiet, with_log-other}
use Rattle.invariants.proofs.StreamSeen.{stream_cases}
use Rattle.invariants.proofs.ObjectSeen.{same_or_not}
use Rattle.data_safety.specs.RunState.{RunState, Witness}
use Rattle.data_safety.specs.DataInvariant.{DataInvariant, IsCopied, IsNewer, IsWritten, left, content_of}
use Rattle.data_safety.proofs.history.SerialRun.{left-same}
use Rattle.data_safety.proofs.stores.StoreApplied.{Took, applied-took, applied-some}
use Rattle.data_safety.proofs.stores.EntriesShrink.{EntriesShrink, StreamGoes, ShrunkStream, shrunk-quiet, none_new, shrink-entered}
use Rattle.data_safety.proofs.passes.PassLogs.{KeepsSlots, kept-slots, shrink-logs}
use Rattle.data_safety.proofs.passes.PassLeft.{again-left}
use Rattle.data_safety.proofs.passes.PassBooked.{again-booked}

module _ (y z : RunState) (u : Witness) (f : DataInvariant y u) (n : ℕ) (r : Invalidation) (heard : HearsNext y.system n r) (room : length (log (y.system.node n) r.stream).kept ≢ 16)
    (c : Changes y.system z.system n (store (y.system.node n) r) nothing) (txs : z.txs ≡ y.txs) (book : z.book ≡ y.book) where
  steady_after : IsSteady z.system
  steady_after = move_keep y.system z.system (stores n r heard.letter heard.foreign heard.receivable heard.body heard.passed heard.number room c) f.steady

  storing : StoresNext (stream_state y.system r.stream) (stream_state z.system r.stream) n record { followers = r.followers; writes = r.writes }
  storing = store_here y.system z.system n r heard c

  slots_stay : KeepsSlots (y.system.node n) (store (y.system.node n) r)
  slots_stay = record { slots = refl; entries = refl; gathers = refl; stopped = refl; epoch = refl; me = refl }

  shrunk_away : (t : Stream) → t ≢ r.stream → ShrunkStream (stream_state y.system t) (stream_state z.system t) (u.passed t) (u.passed t)
  shrunk_away t other =
      shrunk-quiet y.system z.system t (u.passed t) n (store (y.system.node n) r) (f.replication t) c
      (logs-quiet (y.system.node n) (store (y.system.node n) r) t n refl refl refl refl
      (with_log-other (with_copies (y.system.node n) (each_write applied (y.system.node n).copies r.writes)) r.stream t
      record { done = (log (y.system.node n) r.stream).done; kept = (log (y.system.node n) r.stream).kept ++ record { followers = r.followers; writes = r.writes; acks = [] } ∷ [] } (λ e. other (sym e))))

  goes_here : StreamGoes (stream_state y.system r.stream) (stream_state z.system r.stream) (u.passed r.stream) (u.passed r.stream)
  goes_here =
      let old : StreamState = stream_state y.system r.stream in
      let new : StreamState = stream_state z.system r.stream in
      let x : Entry = record { followers = r.followers; writes = r.writes } in
      record {
        replication = keeps_StoresNext old new (u.passed r.stream) n x (f.replication r.stream) storing;
        rises = omega arith;
        alive = λ k. alive_StoresNext old new (u.passed r.stream) (u.passed r.stream) k n x (f.replication r.stream) storing (omega arith);
        stays = λ m k above. appends-has old new n m k x (stores-appends old new n x storing);
        letters = none_new old new storing.acts.sends;
      }

  goes : (t : Stream) → StreamGoes (stream_state y.system t) (stream_state z.system t) (u.passed t) (u.passed t)
  goes t = elim (stream_cases t r.stream) [
    | inl same ↦ subst (λ (q : Stream). StreamGoes (stream_state y.system q) (stream_state z.system q) (u.passed q) (u.passed q)) (sym same) goes_here
    | inr other ↦ (shrunk_away t other).goes
  ]

  -- what is kept was kept before, or is the new entry
  kept_cases : (t : Stream) (m k : ℕ) → Has (stream_state z.system t) m k
      → (Has (stream_state y.system t) m k × (kept_at (stream_state z.system t) m k ≡ kept_at (stream_state y.system t) m k)) ⊎ ((m ≡ n) × ((kept_at (stream_state z.system t) m k).writes ≡ r.writes))
  kept_cases t m k h = elim (stream_cases t r.stream) [
    | inr other ↦ inl ((shrunk_away t other).had m k h, (shrunk_away t other).same m k h)
    | inl same ↦
        let old : StreamState = stream_state y.system r.stream in
        let new : StreamState = stream_state z.system r.stream in
        let x : Entry = record { followers = r.followers; writes = r.writes } in
        subst (λ (q : Stream). (Has (stream_state y.system q) m k × (kept_at (stream_state z.system q) m k ≡ kept_at (stream_state y.system q) m k)) ⊎ ((m ≡ n) × ((kept_at (stream_state z.system q) m k).writes ≡ r.writes))) (sym same)
        (elim (appends-has_before old new n m k x (stores-appends old new n x storing) (subst (λ (q : Stream). Has (stream_state z.system q) m k) same h)) [
          | inl before ↦ inl (before, appends-old old new n m k x (stores-appends old new n x storing) before)
          | inr now ↦ inr (now.0, rw (now.0, now.1) (ap (λ (q : Kept). q.writes) (appends-new old new n x (stores-appends old new n x storing))))
        ])
  ]

  -- what was kept is kept as it was
  kept_stays : (t : Stream) (m k : ℕ) → u.passed t ≤ k → Has (stream_state y.system t) m k → Has (stream_state z.system t) m k × (kept_at (stream_state z.system t) m k ≡ kept_at (stream_state y.system t) m k)
  kept_stays t m k above h = elim (stream_cases t r.stream) [
    | inr other ↦ let now = (shrunk_away t other).goes.stays m k above h in (now, (shrunk_away t other).same m k now)
    | inl same ↦
        let old : StreamState = stream_state y.system r.stream in
        let new : StreamState = stream_state z.system r.stream in
        let x : Entry = record { followers = r.followers; writes = r.writes } in
        let h_here : Has old m k = subst (λ (q : Stream). Has (stream_state y.system q) m k) same h in
        subst (λ (q : Stream). Has (stream_state z.system q) m k × (kept_at (stream_state z.system q) m k ≡ kept_at (stream_state y.system q) m k)) (sym same)
        (appends-has old new n m k x (stores-appends old new n x storing) h_here, appends-old old new n m k x (stores-appends old new n x storing) h_here)
  ]

  new_kept : IsLive y.system n → (k : ℕ) × (u.passed r.stream ≤ k) × Has (stream_state z.system r.stream) n k × ((kept_at (stream_state z.system r.stream) n k).writes ≡ r.writes)
  new_kept live =
      let old : StreamState = stream_state y.system r.stream in
      let new : StreamState = stream_state z.system r.stream in
      let x : Entry = record { followers = r.followers; writes = r.writes } in
      let a = stores-appends old new n x storing in (
        top old n,
        stores-unpassed old new (u.passed r.stream) n x (f.replication r.stream) storing,
        (omega (arith, storing.done), omega (arith, appends-top old new n x a)),
        ap (λ (q : Kept). q.writes) (appends-new old new n x a),
      )

  shrink : EntriesShrink y z u u
  shrink = shrink-logs y z u u.passed n (store (y.system.node n) r) f c slots_stay txs goes

  same_left : (x : ℕ) → left z x ≡ left y x
  same_left x = left-same y z x c.config txs (ap (λ (b : Book). b.points) book)

  -- ---- copies

  copy_here : (m : ℕ) → m ≡ n → (z.system.node m).copies ≡ each_write applied (y.system.node n).copies r.writes
  copy_here m same = rw same (ap (λ (k : Node). k.copies) c.node)

  copy_cases : (m x : ℕ) (now : Copy) → copy (z.system.node m) x ≡ Some now
      → (b : Copy) × (copy (y.system.node m) x ≡ Some b) × (((m ≢ n) × (now ≡ b)) ⊎ ((m ≡ n) × Took r.writes x b now))
  copy_cases m x now is = elim (same_or_not m n) [
    | inr other ↦ (now, ap (λ (k : Node). copy k x) (sym (c.others m other)) ∙ is, inl (other, refl))
    | inl same ↦
        let took = applied-took (y.system.node n).copies r.writes x now (ap (λ (cs : List (Option Copy)). nth None cs x) (sym (copy_here m same)) ∙ is) in
        (took.0, ap (λ (k : ℕ). copy (y.system.node k) x) same ∙ took.1, inr (same, took.2))
  ]

  some_same : (m x : ℕ) → is_some (copy (z.system.node m) x) ≡ is_some (copy (y.system.node m) x)
  some_same m x = elim (same_or_not m n) [
    | inr other ↦ ap (λ (k : Node). is_some (copy k x)) (c.others m other)
    | inl same ↦ ap (λ (cs : List (Option Copy)). is_some (nth None cs x)) (copy_here m same) ∙ applied-some (y.system.node n).copies r.writes x ∙ ap (λ (k : ℕ). is_some (copy (y.system.node k) x)) (sym same)
  ]

  -- a copy that stays is what it was
  unchanged : (m x : ℕ) (b now : Copy) → now ≡ b → (content_of b ≡ left y x) ⊎ IsNewer y u m x b → (content_of now ≡ left z x) ⊎ IsNewer z u m x now
  unchanged m x b now same (inl is_left) = inl (ap content_of same ∙ is_left ∙ sym (same_left x))
  unchanged m x b now same (inr newer) =
      let w = newer.written in
      let stays = kept_stays w.0 m w.1 w.2 w.3 in
      inr record {
        above = omega (arith, newer.above, ap (λ (k : Content). k.ver) (same_left x), ap (λ (k : Copy). k.ver) same);
        not_valid = λ valid. newer.not_valid (ap (λ (k : Copy). k.state) (sym same) ∙ valid);
        written = (w.0, w.1, w.2, stays.0, rw stays.1 (subst (λ (k : Copy). In record { obj = x; ver = k.ver; value = k.value } (kept_at (stream_state y.system w.0) m w.1).writes) (sym same) w.4));
      }

  invalid_valid : (s : State) → s ≡ Invalid → s ≢ Valid
  invalid_valid s is valid = absurd (cc (is, valid))

  not_older : (m x : ℕ) (b : Copy) → (content_of b ≡ left y x) ⊎ IsNewer y u m x b → (left y x).ver ≤ b.ver
  not_older m x b (inl is_left) = omega (arith, ap (λ (k : Content). k.ver) is_left)
  not_older m x b (inr newer) = omega (arith, newer.above)

  store_content : (m x : ℕ) (now : Copy) → x < length z.system.config.objects → IsLive z.system m → copy (z.system.node m) x ≡ Some now → (content_of now ≡ left z x) ⊎ IsNewer z u m x now
  store_content m x now within live is =
      let was = copy_cases m x now is in
      let before = f.copied.content m x was.0 (rw c.config at within) (shrink.live m live) was.1 in
      elim was.2 [
        | inl away ↦ unchanged m x was.0 now away.1 before
        | inr here ↦ elim here.1.how [
          | inl same ↦ unchanged m x was.0 now same before
          | inr taken ↦
              let k = new_kept c.live in
              let low_before = not_older m x was.0 before in
              inr record {
                above = omega (arith, low_before, taken.newer, ap (λ (d : Content). d.ver) (same_left x));
                not_valid = invalid_valid now.state taken.state;
                written = subst (λ (j : ℕ). IsWritten z u j x (content_of now)) (sym here.0) (r.stream, k.0, k.1, k.2, rw k.3 taken.written);
              }
        ]
      ]

  store_taken : (m : ℕ) (t : Stream) (k : ℕ) (w : Write) (now : Copy) → w.obj < length z.system.config.objects → IsLive z.system m → Has (stream_state z.system t) m k → u.passed t ≤ k
      → In w (kept_at (stream_state z.system t) m k).writes → copy (z.system.node m) w.obj ≡ Some now → w.ver ≤ now.ver
  store_taken m t k w now within live h above i is =
      let was = copy_cases m w.obj now is in
      let rises : was.0.ver ≤ now.ver = elim was.2 [ inl away ↦ omega (arith, ap (λ (d : Copy). d.ver) away.1) | inr here ↦ here.1.rises ] in
      elim (kept_cases t m k h) [
        | inl before ↦
            let bound = f.copied.taken m t k w was.0 (rw c.config at within) (shrink.live m live) before.0 above (rw before.1 at i) was.1 in
            omega (arith, bound, rises)
        | inr new_one ↦ elim was.2 [
          | inl away ↦ absurd (away.0 new_one.0)
          | inr here ↦ here.1.bound w (rw new_one.1 at i) refl
        ]
      ]

  store_copied : IsCopied z u
  store_copied = record {
    placed = λ m x within live.
        let before = f.copied.placed m x (rw c.config at within) (shrink.live m live) in
        let some = some_same m x in
        let place = ap (λ (p : Place). has m p.replicas) (shrink.objects.place x) in
        (λ h. place ∙ before.0 (sym some ∙ h), λ h. some ∙ before.1 (sym place ∙ h));
    content = store_content;
    taken = store_taken;
  }

  -- if a node stores the next entry of the stream of another, then the invariant stays
  pub keeps_store : DataInvariant z u
  keeps_store = record {
    limits = subst (λ (k : Config). KeepsLimits k) (sym c.config) f.limits;
    steady = steady_after;
    ownership = shrink.objects.ownership;
    replication = λ t. (goes t).replication;
    copied = store_copied;
    entered = shrink-entered y z u u f shrink (again-left y z u u f shrink same_left (λ t. refl));
    booked = again-booked y z u u f shrink book (λ t. refl) (λ m q. ap (λ (b : Slot). b.done) (kept-slots y.system z.system n m q (store (y.system.node n) r) c slots_stay));
  }
