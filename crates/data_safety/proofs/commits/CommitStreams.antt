-- Streams and copies after a commit.
use Rattle.std.specs.Prelude.{ℕ, ◌≡◌, ◌≢◌, ◌+◌, ◌<◌, ◌≤◌, List, length, Option, Some, None, is_some, ◌⊎◌}
use Rattle.std.proofs.Common.{arith, refl, sym, ap, subst, ◌∙◌, inl, inr}
use Rattle.zeus_base.specs.Nodes.{has}
use Rattle.zeus_base.specs.declared.order.Stream.{Stream}
use Rattle.zeus_packet.specs.declared.letter.State.{State}
use Rattle.zeus_packet.specs.declared.letter.State.TheVariants.{Valid, Write}
use Rattle.zeus_packet.specs.declared.place.Place.{Place}
use Rattle.zeus_packet.specs.declared.write.Content.{Content}
use Rattle.zeus_packet.specs.declared.write.Write.{Write as WriteOf}
use Rattle.zeus_model.specs.In.{In}
use Rattle.zeus_model.specs.Tables.{nth}
use Rattle.zeus_model.specs.State.{Node, copy}
use Rattle.zeus_model.specs.Book.{Book}
use Rattle.zeus_model.specs.Commit.{each_write}
use Rattle.zeus_model.specs.Local.{run_here, new_writes, rewritten_copy}
use Rattle.zeus_model.specs.declared.state.Copy.{Copy}
use Rattle.zeus_model.specs.declared.state.Current.{Current}
use Rattle.zeus_model.specs.declared.state.Kept.{Kept}
use Rattle.machine_moves.specs.SystemState.{IsLive}
use Rattle.machine_moves.proofs.Steady.{IsNumbered-steady}
use Rattle.replication_safety.specs.StreamState.{StreamState, Letter as Said, Has, Entry, kept_at, top, end}
use Rattle.replication_safety.specs.Moves as moves
use Rattle.replication_safety.specs.ReplicationInvariant.{ReplicationInvariant}
use Rattle.replication_safety.proofs.Alive.{alive_Commits}
use Rattle.replication_safety.proofs.Appends.{Appends, commits-appends, appends-has, appends-has_before, appends-old, appends-new, appends-top, keeps_Commits}
use Rattle.invariants.specs.Streams.{stream_state}
use Rattle.invariants.proofs.StreamEntries.{committing, entry_made, commit_here, commit_quiet}
use Rattle.invariants.proofs.StreamFrames.{stream-home}
use Rattle.invariants.proofs.StreamSeen.{stream_cases}
use Rattle.invariants.proofs.ObjectSeen.{same_or_not}
use Rattle.data_safety.specs.RunState.{RunState, Witness, Lives, overwritten}
use Rattle.data_safety.specs.DataInvariant.{DataInvariant, IsCopied, IsNewer, IsWritten, left, content_of}
use Rattle.data_safety.proofs.commits.Names.{IsOnce}
use Rattle.data_safety.proofs.history.Running.{written_content, overwritten-in}
use Rattle.data_safety.proofs.history.SerialRun.{left-same}
use Rattle.data_safety.proofs.stores.EntriesShrink.{ShrunkStream, StillObjects, shrunk-quiet, none_new, still-objects}
use Rattle.data_safety.proofs.passes.PassLogs.{kept-live}
use Rattle.data_safety.proofs.commits.CommitRewritten.{Rewritten, written_copy, rewritten-was, rewritten-some}
use Rattle.data_safety.proofs.commits.CommitSlots.{CommitsTx}
use Rattle.data_safety.proofs.commits.CommitFound.{commit-copy, commit-written, commit-once}

module _ (y z : RunState) (u : Witness) (f : DataInvariant y u) (n s : ℕ) (c : Current) (h : CommitsTx y z n s c) where
  adding : moves.Commits (stream_state y.system record { node = n; slot = s }) (stream_state z.system record { node = n; slot = s }) (entry_made (y.system.node n) n c)
  adding =
      let t : Stream = record { node = n; slot = s } in
      commit_here y.system z.system n s (u.passed t) c t (f.replication t) refl refl h.free h.change

  -- the stream gets the entry at its own node
  appending : Appends (stream_state y.system record { node = n; slot = s }) (stream_state z.system record { node = n; slot = s }) n (entry_made (y.system.node n) n c)
  appending =
      let t : Stream = record { node = n; slot = s } in
      subst (λ (m : ℕ). Appends (stream_state y.system t) (stream_state z.system t) m (entry_made (y.system.node n) n c)) (stream-home y.system t)
      (commits-appends (stream_state y.system t) (stream_state z.system t) (entry_made (y.system.node n) n c) adding)

  shrunk_away : (t : Stream) → t ≢ record { node = n; slot = s } → ShrunkStream (stream_state y.system t) (stream_state z.system t) (u.passed t) (u.passed t)
  shrunk_away t other =
      shrunk-quiet y.system z.system t (u.passed t) n (committing (y.system.node n) n s c) (f.replication t) h.change
      (commit_quiet (y.system.node n) t n s c (λ e. other (sym e)))

  -- after a commit the invariant holds of each stream
  pub commit-replication : (t : Stream) → ReplicationInvariant (stream_state z.system t) (u.passed t)
  commit-replication t = elim (stream_cases t record { node = n; slot = s }) [
    | inr other ↦ (shrunk_away t other).goes.replication
    | inl same ↦
        let own : Stream = record { node = n; slot = s } in
        subst (λ (q : Stream). ReplicationInvariant (stream_state z.system q) (u.passed q)) (sym same)
        (keeps_Commits (stream_state y.system own) (stream_state z.system own) (u.passed own) (entry_made (y.system.node n) n c) (f.replication own) adding)
  ]

  -- what lives lived, or is the new entry
  pub commit-lives : (t : Stream) (k : ℕ) → Lives z u t k → Lives y u t k ⊎ ((t ≡ record { node = n; slot = s }) × (k ≡ end (stream_state y.system record { node = n; slot = s })))
  commit-lives t k alive = elim (stream_cases t record { node = n; slot = s }) [
    | inr other ↦ inl ((shrunk_away t other).goes.alive k alive)
    | inl same ↦
        let own : Stream = record { node = n; slot = s } in
        elim (alive_Commits (stream_state y.system own) (stream_state z.system own) (u.passed own) (u.passed own) k (entry_made (y.system.node n) n c) adding (omega arith) (subst (λ (q : Stream). Lives z u q k) same alive)) [
          | inl old ↦ inl (subst (λ (q : Stream). Lives y u q k) (sym same) old)
          | inr new_one ↦ inr (same, new_one)
        ]
  ]

  -- a commit sends no letter that says anything of a stream
  pub commit-letters : (t : Stream) (l : Said) → In l (stream_state z.system t).letters → In l (stream_state y.system t).letters
  commit-letters t l i = elim (stream_cases t record { node = n; slot = s }) [
    | inr other ↦ (shrunk_away t other).goes.letters l i
    | inl same ↦
        let own : Stream = record { node = n; slot = s } in
        subst (λ (q : Stream). In l (stream_state y.system q).letters) (sym same)
        (none_new (stream_state y.system own) (stream_state z.system own) adding.acts.sends l (subst (λ (q : Stream). In l (stream_state z.system q).letters) same i))
  ]

  kept_cases : (t : Stream) (m k : ℕ) → Has (stream_state z.system t) m k
      → (Has (stream_state y.system t) m k × (kept_at (stream_state z.system t) m k ≡ kept_at (stream_state y.system t) m k))
      ⊎ ((m ≡ n) × ((kept_at (stream_state z.system t) m k).writes ≡ new_writes (y.system.node n) (run_here (y.system.node n) c.tx).writes))
  kept_cases t m k held = elim (stream_cases t record { node = n; slot = s }) [
    | inr other ↦ inl ((shrunk_away t other).had m k held, (shrunk_away t other).same m k held)
    | inl same ↦
        let own : Stream = record { node = n; slot = s } in
        let old : StreamState = stream_state y.system own in
        let new : StreamState = stream_state z.system own in
        let x : Entry = entry_made (y.system.node n) n c in
        subst (λ (q : Stream). (Has (stream_state y.system q) m k × (kept_at (stream_state z.system q) m k ≡ kept_at (stream_state y.system q) m k)) ⊎ ((m ≡ n) × ((kept_at (stream_state z.system q) m k).writes ≡ new_writes (y.system.node n) (run_here (y.system.node n) c.tx).writes))) (sym same)
        (elim (appends-has_before old new n m k x appending (subst (λ (q : Stream). Has (stream_state z.system q) m k) same held)) [
          | inl before ↦ inl (before, appends-old old new n m k x appending before)
          | inr now ↦ inr (now.0, rw (now.0, now.1) (ap (λ (q : Kept). q.writes) (appends-new old new n x appending)))
        ])
  ]

  kept_stays : (t : Stream) (m k : ℕ) → u.passed t ≤ k → Has (stream_state y.system t) m k → Has (stream_state z.system t) m k × (kept_at (stream_state z.system t) m k ≡ kept_at (stream_state y.system t) m k)
  kept_stays t m k above held = elim (stream_cases t record { node = n; slot = s }) [
    | inr other ↦ let now = (shrunk_away t other).goes.stays m k above held in (now, (shrunk_away t other).same m k now)
    | inl same ↦
        let own : Stream = record { node = n; slot = s } in
        let old : StreamState = stream_state y.system own in
        let new : StreamState = stream_state z.system own in
        let x : Entry = entry_made (y.system.node n) n c in
        let here : Has old m k = subst (λ (q : Stream). Has (stream_state y.system q) m k) same held in
        subst (λ (q : Stream). Has (stream_state z.system q) m k × (kept_at (stream_state z.system q) m k ≡ kept_at (stream_state y.system q) m k)) (sym same)
        (appends-has old new n m k x appending here, appends-old old new n m k x appending here)
  ]

  new_kept : (k : ℕ) × (u.passed record { node = n; slot = s } ≤ k) × Has (stream_state z.system record { node = n; slot = s }) n k
      × ((kept_at (stream_state z.system record { node = n; slot = s }) n k).writes ≡ new_writes (y.system.node n) (run_here (y.system.node n) c.tx).writes)
  new_kept =
      let own : Stream = record { node = n; slot = s } in
      let old : StreamState = stream_state y.system own in
      let new : StreamState = stream_state z.system own in
      let x : Entry = entry_made (y.system.node n) n c in
      let at : top old old.home ≡ top old n = ap (λ (m : ℕ). top old m) (stream-home y.system own) in (
        top old n,
        omega (arith, (f.replication own).committed, at),
        (omega (arith, appending.done), omega (arith, appends-top old new n x appending)),
        ap (λ (q : Kept). q.writes) (appends-new old new n x appending),
      )

  -- a commit leaves the objects and their placements
  pub commit-objects : StillObjects y.system z.system u record { chain = u.chain; passed = u.passed }
  commit-objects =
      still-objects y.system z.system u u.passed n (committing (y.system.node n) n s c) (IsNumbered-steady y.system f.steady) h.change
      (λ x. record { stopped = refl; epoch = refl; entry = refl; gather = refl }) f.ownership

  -- a node that is live after a commit was live before
  pub commit-live : (m : ℕ) → IsLive z.system m → IsLive y.system m
  commit-live m live = kept-live y.system z.system n m (committing (y.system.node n) n s c) h.change live

  -- a commit leaves the contents that the history leaves
  pub commit-left : (x : ℕ) → left z x ≡ left y x
  commit-left x = left-same y z x h.change.config h.txs (ap (λ (b : Book). b.points) h.book)

  -- ---- copies

  copy_here : (m : ℕ) → m ≡ n → (z.system.node m).copies ≡ each_write rewritten_copy (y.system.node n).copies (new_writes (y.system.node n) (run_here (y.system.node n) c.tx).writes)
  copy_here m same = rw same (ap (λ (k : Node). k.copies) h.change.node)

  copy_cases : (m x : ℕ) (now : Copy) → copy (z.system.node m) x ≡ Some now
      → (b : Copy) × (copy (y.system.node m) x ≡ Some b) × (((m ≢ n) × (now ≡ b)) ⊎ ((m ≡ n) × Rewritten (new_writes (y.system.node n) (run_here (y.system.node n) c.tx).writes) x b now))
  copy_cases m x now is = elim (same_or_not m n) [
    | inr other ↦ (now, ap (λ (k : Node). copy k x) (sym (h.change.others m other)) ∙ is, inl (other, refl))
    | inl same ↦
        let was = rewritten-was (y.system.node n).copies (new_writes (y.system.node n) (run_here (y.system.node n) c.tx).writes) x now (ap (λ (cs : List (Option Copy)). nth None cs x) (sym (copy_here m same)) ∙ is) in
        (was.0, ap (λ (k : ℕ). copy (y.system.node k) x) same ∙ was.1, inr (same, was.2))
  ]

  some_same : (m x : ℕ) → is_some (copy (z.system.node m) x) ≡ is_some (copy (y.system.node m) x)
  some_same m x = elim (same_or_not m n) [
    | inr other ↦ ap (λ (k : Node). is_some (copy k x)) (h.change.others m other)
    | inl same ↦ ap (λ (cs : List (Option Copy)). is_some (nth None cs x)) (copy_here m same)
        ∙ rewritten-some (y.system.node n).copies (new_writes (y.system.node n) (run_here (y.system.node n) c.tx).writes) x ∙ ap (λ (k : ℕ). is_some (copy (y.system.node k) x)) (sym same)
  ]

  unchanged : (m x : ℕ) (b now : Copy) → now ≡ b → (content_of b ≡ left y x) ⊎ IsNewer y u m x b → (content_of now ≡ left z x) ⊎ IsNewer z u m x now
  unchanged m x b now same (inl is_left) = inl (ap content_of same ∙ is_left ∙ sym (commit-left x))
  unchanged m x b now same (inr newer) =
      let w = newer.written in
      let stays = kept_stays w.0 m w.1 w.2 w.3 in
      inr record {
        above = omega (arith, newer.above, ap (λ (k : Content). k.ver) (commit-left x), ap (λ (k : Copy). k.ver) same);
        not_valid = λ valid. newer.not_valid (ap (λ (k : Copy). k.state) (sym same) ∙ valid);
        written = (w.0, w.1, w.2, stays.0, rw stays.1 (subst (λ (k : Copy). In record { obj = x; ver = k.ver; value = k.value } (kept_at (stream_state y.system w.0) m w.1).writes) (sym same) w.4));
      }

  not_older : (m x : ℕ) (b : Copy) → (content_of b ≡ left y x) ⊎ IsNewer y u m x b → (left y x).ver ≤ b.ver
  not_older m x b (inl is_left) = omega (arith, ap (λ (k : Content). k.ver) is_left)
  not_older m x b (inr newer) = omega (arith, newer.above)

  same_some : (a b : Copy) → ◌≡◌ {A = Option Copy} (Some a) (Some b) → a ≡ b
  same_some a b e = cc

  -- a written copy is one version above the one before
  one_above : (m x : ℕ) (b : Copy) (w : WriteOf) → m ≡ n → copy (y.system.node m) x ≡ Some b → In w (new_writes (y.system.node n) (run_here (y.system.node n) c.tx).writes) → w.obj ≡ x
      → w.ver ≡ b.ver + 1
  one_above m x b w same is i at =
      let own : Stream = record { node = n; slot = s } in
      let written = commit-written y z u f n s c h w i in
      let found = commit-copy y z u f n s c h w.obj written.0 in
      let here : copy (y.system.node n) w.obj ≡ Some b = ap (λ (k : ℕ). copy (y.system.node n) k) at ∙ ap (λ (k : ℕ). copy (y.system.node k) x) (sym same) ∙ is in
      let it : found.0 ≡ b = same_some found.0 b (sym found.1 ∙ here) in
      omega (arith, written.1, ap (λ (k : Content). k.ver) found.2, ap (λ (k : Copy). k.ver) it)

  write_valid : (st : State) → st ≡ Write → st ≢ Valid
  write_valid st is valid = absurd (cc (is, valid))

  new_content : (m x : ℕ) (b now : Copy) (w : WriteOf) → m ≡ n → copy (y.system.node m) x ≡ Some b → (content_of b ≡ left y x) ⊎ IsNewer y u m x b
      → In w (new_writes (y.system.node n) (run_here (y.system.node n) c.tx).writes) → w.obj ≡ x → now ≡ written_copy w → IsNewer z u m x now
  new_content m x b now w same is before i at made_by =
      let k = new_kept in
      let ver = one_above m x b w same is i at in
      let it : In record { obj = x; ver = now.ver; value = now.value } (new_writes (y.system.node n) (run_here (y.system.node n) c.tx).writes) = rw (made_by, ← at) i in
      record {
        above = omega (arith, not_older m x b before, ver, ap (λ (d : Content). d.ver) (commit-left x), ap (λ (d : Copy). d.ver) made_by);
        not_valid = write_valid now.state (ap (λ (d : Copy). d.state) made_by);
        written = subst (λ (j : ℕ). IsWritten z u j x (content_of now)) (sym same) (record { node = n; slot = s }, k.0, k.1, k.2, rw k.3 it);
      }

  commit-content : (m x : ℕ) (now : Copy) → x < length z.system.config.objects → IsLive z.system m → copy (z.system.node m) x ≡ Some now → (content_of now ≡ left z x) ⊎ IsNewer z u m x now
  commit-content m x now within live is =
      let was = copy_cases m x now is in
      let before = f.copied.content m x was.0 (rw h.change.config at within) (commit-live m live) was.1 in
      elim was.2 [
        | inl away ↦ unchanged m x was.0 now away.1 before
        | inr here ↦ elim here.1 [
          | inl same ↦ unchanged m x was.0 now same.0 before
          | inr w ↦ inr (new_content m x was.0 now w.0 here.0 was.1 before w.1 w.2 w.3)
        ]
      ]

  once_same : (ws : List WriteOf) (a b : WriteOf) → IsOnce ws → In a ws → In b ws → a.obj ≡ b.obj → written_content a ≡ written_content b
  once_same ws a b once one two e = sym (overwritten-in (left y) ws a once one) ∙ ap (λ (k : ℕ). overwritten (left y) ws k) e ∙ overwritten-in (left y) ws b once two

  commit-taken : (m : ℕ) (t : Stream) (k : ℕ) (w : WriteOf) (now : Copy) → w.obj < length z.system.config.objects → IsLive z.system m → Has (stream_state z.system t) m k → u.passed t ≤ k
      → In w (kept_at (stream_state z.system t) m k).writes → copy (z.system.node m) w.obj ≡ Some now → w.ver ≤ now.ver
  commit-taken m t k w now within live held above i is =
      let was = copy_cases m w.obj now is in
      let rises : was.0.ver ≤ now.ver = elim was.2 [
        | inl away ↦ omega (arith, ap (λ (d : Copy). d.ver) away.1)
        | inr here ↦ elim here.1 [
          | inl same ↦ omega (arith, ap (λ (d : Copy). d.ver) same.0)
          | inr v ↦ omega (arith, one_above m w.obj was.0 v.0 here.0 was.1 v.1 v.2, ap (λ (d : Copy). d.ver) v.3)
        ]
      ] in
      elim (kept_cases t m k held) [
        | inl before ↦
            let bound = f.copied.taken m t k w was.0 (rw h.change.config at within) (commit-live m live) before.0 above (rw before.1 at i) was.1 in
            omega (arith, bound, rises)
        | inr new_one ↦
            let i_here : In w (new_writes (y.system.node n) (run_here (y.system.node n) c.tx).writes) = rw new_one.1 at i in
            elim was.2 [
              | inl away ↦ absurd (away.0 new_one.0)
              | inr here ↦ elim here.1 [
                | inl same ↦ absurd (same.1 w i_here refl)
                | inr v ↦
                    let e : written_content v.0 ≡ written_content w = once_same (new_writes (y.system.node n) (run_here (y.system.node n) c.tx).writes) v.0 w (commit-once y z u f n s c h) v.1 i_here v.2 in
                    omega (arith, ap (λ (d : Content). d.ver) e, ap (λ (d : Copy). d.ver) v.3)
              ]
            ]
      ]

  -- after a commit, what holds of copies still holds
  pub commit-copied : IsCopied z u
  commit-copied = record {
    placed = λ m x within live.
        let before = f.copied.placed m x (rw h.change.config at within) (commit-live m live) in
        let some = some_same m x in
        let place = ap (λ (p : Place). has m p.replicas) (commit-objects.place x) in
        (λ g. place ∙ before.0 (sym some ∙ g), λ g. some ∙ before.1 (sym place ∙ g));
    content = commit-content;
    taken = commit-taken;
  }
