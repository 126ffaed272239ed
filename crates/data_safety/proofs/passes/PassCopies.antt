-- Copies after a pass: those of what has passed are what the history leaves, and newer ones stay newer.
use Rattle.std.specs.Prelude.{ℕ, suc, ◌≡◌, ◌≢◌, ◌+◌, ◌<◌, ◌≤◌, true, List, length, Option, Some, None, is_some, ◌⊎◌}
use Rattle.std.proofs.Common.{arith, refl, sym, ap, subst, ◌∙◌, inl, inr}
use Rattle.zeus_base.specs.Nodes.{has}
use Rattle.zeus_base.specs.declared.order.Stream.{Stream}
use Rattle.zeus_packet.specs.declared.place.Place.{Place}
use Rattle.zeus_packet.specs.declared.write.Content.{Content}
use Rattle.zeus_packet.specs.declared.write.Write.{Write}
use Rattle.zeus_txn.specs.Ops.{mentions}
use Rattle.zeus_model.specs.In.{In}
use Rattle.zeus_model.specs.Tables.{nth}
use Rattle.zeus_model.specs.State.{copy}
use Rattle.zeus_model.specs.Commit.{validated, each_write}
use Rattle.zeus_model.specs.declared.state.Copy.{Copy}
use Rattle.machine_moves.specs.SystemState.{IsLive}
use Rattle.replication_safety.specs.StreamState.{Has, kept_at}
use Rattle.invariants.specs.Streams.{stream_state}
use Rattle.invariants.proofs.StreamSeen.{stream_cases}
use Rattle.invariants.proofs.ObjectSeen.{same_or_not}
use Rattle.data_safety.specs.RunState.{RunState, Witness, place_now, pending_at, Lives, overwritten}
use Rattle.data_safety.specs.DataInvariant.{DataInvariant, IsCopied, IsNewer, IsWritten, left, content_of, found_at}
use Rattle.data_safety.proofs.commits.Names.{IsOnce}
use Rattle.data_safety.proofs.Consequences.{kept-writes, written-named, witness-same_stream}
use Rattle.data_safety.proofs.history.Running.{writes-cases, written_content, overwritten-in, overwritten-other, writes-once, write-version, found-start, versions-rise}
use Rattle.data_safety.proofs.passes.PassValidated.{Was, validated-was, validated-some}
use Rattle.data_safety.proofs.stores.EntriesShrink.{EntriesShrink, ShrunkStream}

-- the acting node validates the copies of these writes
pub record Revalidates (y z : RunState) (n : ℕ) (ws : List Write) : Type 0 where
  pub here : (z.system.node n).copies ≡ each_write validated (y.system.node n).copies ws
  pub others : (m : ℕ) → m ≢ n → (z.system.node m).copies ≡ (y.system.node m).copies

-- if an object has a copy after a validation, then it had one before, with the same content
pub revalidates-was : (y z : RunState) (n m x : ℕ) (ws : List Write) (c : Copy) → Revalidates y z n ws → copy (z.system.node m) x ≡ Some c
    → (b : Copy) × (copy (y.system.node m) x ≡ Some b) × Was ws x b c
revalidates-was y z n m x ws c r h =
    elim (same_or_not m n) [
      | inl same ↦
          let now : nth None (each_write validated (y.system.node n).copies ws) x ≡ Some c =
          ap (λ (cs : List (Option Copy)). nth None cs x) (sym r.here) ∙ ap (λ (k : ℕ). copy (z.system.node k) x) (sym same) ∙ h in
          let was = validated-was (y.system.node n).copies ws x c now in
          (was.0, ap (λ (k : ℕ). copy (y.system.node k) x) same ∙ was.1, was.2)
      | inr other ↦ (c, ap (λ (cs : List (Option Copy)). nth None cs x) (sym (r.others m other)) ∙ h, record { content = refl; how = inl refl })
    ]

-- a validation neither brings a copy nor takes one away
pub revalidates-some : (y z : RunState) (n m x : ℕ) (ws : List Write) → Revalidates y z n ws → is_some (copy (z.system.node m) x) ≡ is_some (copy (y.system.node m) x)
revalidates-some y z n m x ws r =
    elim (same_or_not m n) [
      | inl same ↦
          ap (λ (k : ℕ). is_some (copy (z.system.node k) x)) same ∙ ap (λ (cs : List (Option Copy)). is_some (nth None cs x)) r.here
          ∙ validated-some (y.system.node n).copies ws x ∙ ap (λ (k : ℕ). is_some (copy (y.system.node k) x)) (sym same)
      | inr other ↦ ap (λ (cs : List (Option Copy)). is_some (nth None cs x)) (r.others m other)
    ]

module _ (y z : RunState) (u v : Witness) (f : DataInvariant y u) (s : EntriesShrink y z u v)
    (shrunk : (t : Stream) → ShrunkStream (stream_state y.system t) (stream_state z.system t) (u.passed t) (v.passed t)) where
  -- an unpassed entry that a node keeps still writes what it wrote
  written-stays : (n x k : ℕ) (t : Stream) (b c : Copy) → content_of c ≡ content_of b → v.passed t ≤ k → Has (stream_state y.system t) n k
      → In record { obj = x; ver = b.ver; value = b.value } (kept_at (stream_state y.system t) n k).writes → IsWritten z v n x (content_of c)
  written-stays n x k t b c same above h i =
      let now : Has (stream_state z.system t) n k = (s.streams t).stays n k above h in
      let kept : kept_at (stream_state z.system t) n k ≡ kept_at (stream_state y.system t) n k = (shrunk t).same n k now in
      (t, k, above, now, rw kept (subst (λ (d : Content). In record { obj = x; ver = d.ver; value = d.value } (kept_at (stream_state y.system t) n k).writes) (sym same) i))

  shrink-placed : (n x : ℕ) (o : ℕ) (ws : List Write) → Revalidates y z o ws → x < length z.system.config.objects → IsLive z.system n
      → ((is_some (copy (z.system.node n) x) ≡ true) → (has n (place_now z v x).replicas ≡ true)) × ((has n (place_now z v x).replicas ≡ true) → (is_some (copy (z.system.node n) x) ≡ true))
  shrink-placed n x o ws r within live =
      let before = f.copied.placed n x (rw s.config at within) (s.live n live) in
      let some = revalidates-some y z o n x ws r in
      let place = ap (λ (p : Place). has n p.replicas) (s.objects.place x) in
      (λ h. place ∙ before.0 (sym some ∙ h), λ h. some ∙ before.1 (sym place ∙ h))

  shrink-taken : (n k o : ℕ) (t : Stream) (w : Write) (c : Copy) (ws : List Write) → Revalidates y z o ws → w.obj < length z.system.config.objects → IsLive z.system n
      → Has (stream_state z.system t) n k → v.passed t ≤ k → In w (kept_at (stream_state z.system t) n k).writes → copy (z.system.node n) w.obj ≡ Some c → w.ver ≤ c.ver
  shrink-taken n k o t w c ws r within live h above i is =
      let was = revalidates-was y z o n w.obj ws c r is in
      let low = f.copied.taken n t k w was.0 (rw s.config at within) (s.live n live) ((shrunk t).had n k h) (omega (arith, above, (s.streams t).rises))
      (rw ((shrunk t).same n k h) at i) was.1 in
      omega (arith, low, ap (λ (d : Content). d.ver) was.2.content)

  -- ---- what has passed before

  again-content : (n x o : ℕ) (c : Copy) (ws : List Write) → Revalidates y z o ws → ((w : Write) → In w ws → w.ver ≤ (left y w.obj).ver)
      → left z x ≡ left y x → ((t : Stream) → v.passed t ≡ u.passed t) → x < length z.system.config.objects → IsLive z.system n
      → copy (z.system.node n) x ≡ Some c → (content_of c ≡ left z x) ⊎ IsNewer z v n x c
  again-content n x o c ws r low same passed within live is =
      let was = revalidates-was y z o n x ws c r is in
      elim (f.copied.content n x was.0 (rw s.config at within) (s.live n live) was.1) [
        | inl is_left ↦ inl (was.2.content ∙ is_left ∙ sym same)
        | inr newer ↦ elim was.2.how [
          | inl unchanged ↦
              let w = newer.written in
              inr record {
                above = omega (arith, newer.above, ap (λ (d : Content). d.ver) same, ap (λ (d : Copy). d.ver) unchanged);
                not_valid = λ valid. newer.not_valid (ap (λ (d : Copy). d.state) (sym unchanged) ∙ valid);
                written = written-stays n x w.1 w.0 was.0 c was.2.content (rw (passed w.0) w.2) w.3 w.4;
              }
          | inr valid ↦
              let below = low valid.0 valid.1 in
              let at : (left y valid.0.obj).ver ≡ (left y x).ver = ap (λ (k : ℕ). (left y k).ver) valid.2 in
              absurd (omega (arith, below, at, valid.3, newer.above, ap (λ (d : Content). d.ver) was.2.content))
        ]
      ]

  -- if what passes is not above the history, which stays, then what holds of copies still holds
  pub again-copied : (o : ℕ) (ws : List Write) → Revalidates y z o ws → ((w : Write) → In w ws → w.ver ≤ (left y w.obj).ver)
      → ((x : ℕ) → left z x ≡ left y x) → ((t : Stream) → v.passed t ≡ u.passed t) → IsCopied z v
  again-copied o ws r low same passed = record {
    placed = λ n x within live. shrink-placed n x o ws r within live;
    content = λ n x c within live is. again-content n x o c ws r low (same x) passed within live is;
    taken = λ n t k w c within live h above i is. shrink-taken n k o t w c ws r within live h above i is;
  }

  -- ---- a first pass

  -- a newer copy of an object that the entry does not write stays newer
  first-newer : (n x k j : ℕ) (p t : Stream) (b c : Copy) → u.passed p ≡ k → ((r : Stream) → r ≢ p → v.passed r ≡ u.passed r) → v.passed p ≡ suc k
      → ((w : Write) → In w (pending_at y p k).writes → w.obj ≢ x) → IsLive y.system n
      → content_of c ≡ content_of b → u.passed t ≤ j → Has (stream_state y.system t) n j
      → In record { obj = x; ver = b.ver; value = b.value } (kept_at (stream_state y.system t) n j).writes → IsWritten z v n x (content_of c)
  first-newer n x k j p t b c first others rises none live same above h i =
      elim (stream_cases t p) [
        | inr other ↦ written-stays n x j t b c same (rw (others t other) above) h i
        | inl is_it ↦
            let i_here : In record { obj = x; ver = b.ver; value = b.value } (kept_at (stream_state y.system p) n j).writes =
            subst (λ (r : Stream). In record { obj = x; ver = b.ver; value = b.value } (kept_at (stream_state y.system r) n j).writes) is_it i in
            let h_here : Has (stream_state y.system p) n j = subst (λ (r : Stream). Has (stream_state y.system r) n j) is_it h in
            let above_here : u.passed p ≤ j = subst (λ (r : Stream). u.passed r ≤ j) is_it above in
            let not_it : j ≢ k = λ e. none record { obj = x; ver = b.ver; value = b.value } (subst (λ (m : ℕ). In record { obj = x; ver = b.ver; value = b.value } (pending_at y p m).writes) e (rw (kept-writes y u f p n j h_here above_here) at i_here)) refl in
            written-stays n x j p b c same (omega (arith, rises, first, above_here, not_it)) h_here i_here
      ]

  once_same : (ws : List Write) (a b : Write) → IsOnce ws → In a ws → In b ws → a.obj ≡ b.obj → written_content a ≡ written_content b
  once_same ws a b once one two e = sym (overwritten-in (left y) ws a once one) ∙ ap (λ (k : ℕ). overwritten (left y) ws k) e ∙ overwritten-in (left y) ws b once two

  -- a copy of an object that the entry writes has at least that write
  first-written : (n x k j : ℕ) (p : Stream) (w : Write) (b c : Copy) → u.passed p ≡ k → v.passed p ≡ suc k → Lives y u p k
      → left z x ≡ written_content w → In w (pending_at y p k).writes → w.obj ≡ x → IsLive y.system n → Was (pending_at y p k).writes x b c
      → IsNewer y u n x b → u.passed p ≤ j → Has (stream_state y.system p) n j → In record { obj = x; ver = b.ver; value = b.value } (kept_at (stream_state y.system p) n j).writes
      → (content_of c ≡ left z x) ⊎ IsNewer z v n x c
  first-written n x k j p w b c first rises alive now i is live was newer above h there_is =
      let k_written : In record { obj = x; ver = b.ver; value = b.value } (pending_at y p j).writes = rw (kept-writes y u f p n j h above) at there_is in
      elim (same_or_not j k) [
        | inl same ↦
            let here_now : In record { obj = x; ver = b.ver; value = b.value } (pending_at y p k).writes = subst (λ (m : ℕ). In record { obj = x; ver = b.ver; value = b.value } (pending_at y p m).writes) same k_written in
            inl (was.content ∙ once_same (pending_at y p k).writes record { obj = x; ver = b.ver; value = b.value } w (writes-once y u f p k alive) here_now i (sym is) ∙ sym now)
        | inr other ↦
            let rise : w.ver < b.ver = versions-rise y u f p n j k w record { obj = x; ver = b.ver; value = b.value } live h (omega (arith, first)) (omega (arith, first, above, other)) (sym is) i k_written in
            elim was.how [
              | inr valid ↦
                  let e : written_content valid.0 ≡ written_content w = once_same (pending_at y p k).writes valid.0 w (writes-once y u f p k alive) valid.1 i (valid.2 ∙ sym is) in
                  absurd (omega (arith, rise, valid.3, ap (λ (d : Content). d.ver) e, ap (λ (d : Content). d.ver) was.content))
              | inl unchanged ↦ inr record {
                above = omega (arith, rise, ap (λ (d : Content). d.ver) now, ap (λ (d : Copy). d.ver) unchanged);
                not_valid = λ valid. newer.not_valid (ap (λ (d : Copy). d.state) (sym unchanged) ∙ valid);
                written = written-stays n x j p b c was.content (omega (arith, rises, first, above, other)) h there_is;
              }
            ]
      ]

  first-content : (n x o k : ℕ) (p : Stream) (c : Copy) → Revalidates y z o (pending_at y p k).writes → u.passed p ≡ k → v.passed p ≡ suc k
      → ((r : Stream) → r ≢ p → v.passed r ≡ u.passed r) → Lives y u p k → ((a : ℕ) → left z a ≡ overwritten (left y) (pending_at y p k).writes a)
      → ((m : ℕ) → IsLive y.system m → has m (pending_at y p k).followers ≡ true → Has (stream_state y.system p) m k) → Has (stream_state y.system p) p.node k
      → x < length z.system.config.objects → IsLive z.system n → copy (z.system.node n) x ≡ Some c → (content_of c ≡ left z x) ⊎ IsNewer z v n x c
  first-content n x o k p c r first rises others alive leaves stored home within live is =
      let ws : List Write = (pending_at y p k).writes in
      let was = revalidates-was y z o n x ws c r is in
      let b : Copy = was.0 in
      let old_within : x < length y.system.config.objects = rw s.config at within in
      let before = f.copied.content n x b old_within (s.live n live) was.1 in
      elim (writes-cases ws x) [
        | inr none ↦
            let same : left z x ≡ left y x = leaves x ∙ overwritten-other (left y) ws x none in
            elim before [
              | inl is_left ↦ inl (was.2.content ∙ is_left ∙ sym same)
              | inr newer ↦ elim was.2.how [
                | inr valid ↦ absurd (none valid.0 valid.1 valid.2)
                | inl unchanged ↦
                    let w = newer.written in
                    inr record {
                      above = omega (arith, newer.above, ap (λ (d : Content). d.ver) same, ap (λ (d : Copy). d.ver) unchanged);
                      not_valid = λ valid. newer.not_valid (ap (λ (d : Copy). d.state) (sym unchanged) ∙ valid);
                      written = first-newer n x k w.1 p w.0 b c first others rises none (s.live n live) was.2.content w.2 w.3 w.4;
                    }
              ]
            ]
        | inl w ↦
            let now : left z x ≡ written_content w.0 = leaves x ∙ ap (λ (a : ℕ). overwritten (left y) ws a) (sym w.2) ∙ overwritten-in (left y) ws w.0 (writes-once y u f p k alive) w.1 in
            let placed : has n (place_now y u x).replicas ≡ true = (f.copied.placed n x old_within (s.live n live)).0 (ap (λ (q : Option Copy). is_some q) was.1) in
            let at_place : has n (place_now y u w.0.obj).replicas ≡ true = ap (λ (a : ℕ). has n (place_now y u a).replicas) w.2 ∙ placed in
            let held : Has (stream_state y.system p) n k = elim (f.entered.followed p k n w.0 alive w.1 at_place) [
              | inl follows ↦ stored n (s.live n live) follows
              | inr own ↦ subst (λ (m : ℕ). Has (stream_state y.system p) m k) (sym own) home
            ] in
            let kept_w : In w.0 (kept_at (stream_state y.system p) n k).writes = rw (kept-writes y u f p n k held (omega (arith, first))) w.1 in
            let is_at : copy (y.system.node n) w.0.obj ≡ Some b = ap (λ (a : ℕ). copy (y.system.node n) a) w.2 ∙ was.1 in
            let low : w.0.ver ≤ b.ver = f.copied.taken n p k w.0 b (rw w.2 old_within) (s.live n live) held (omega (arith, first)) kept_w is_at in
            let ver : w.0.ver ≡ (left y x).ver + 1 =
            write-version y u f p k w.0 alive w.1 ∙ ap (λ (m : ℕ). (found_at y u p m w.0.obj).ver + 1) (sym first)
            ∙ ap (λ (g : ℕ → Content). (g w.0.obj).ver + 1) (found-start y u p) ∙ ap (λ (a : ℕ). (left y a).ver + 1) w.2 in
            elim before [
              | inl is_left ↦ absurd (omega (arith, low, ver, ap (λ (d : Content). d.ver) is_left))
              | inr newer ↦
                  let m : mentions x (pending_at y p k).named ≡ true = rw w.2 at (written-named y u f p k w.0 alive w.1) in
                  let witness = witness-same_stream y u f n x k p b (s.live n live) newer alive m in
                  first-written n x k witness.0 p w.0 b c first rises alive now w.1 w.2 (s.live n live) was.2 newer witness.1 witness.2 witness.3
            ]
      ]

  -- if an entry passes for the first time, and all live followers have it, then what holds of copies still holds
  pub first-copied : (o k : ℕ) (p : Stream) → Revalidates y z o (pending_at y p k).writes → u.passed p ≡ k → v.passed p ≡ suc k
      → ((r : Stream) → r ≢ p → v.passed r ≡ u.passed r) → Lives y u p k → ((a : ℕ) → left z a ≡ overwritten (left y) (pending_at y p k).writes a)
      → ((m : ℕ) → IsLive y.system m → has m (pending_at y p k).followers ≡ true → Has (stream_state y.system p) m k) → Has (stream_state y.system p) p.node k → IsCopied z v
  first-copied o k p r first rises others alive leaves stored home = record {
    placed = λ n x within live. shrink-placed n x o (pending_at y p k).writes r within live;
    content = λ n x c within live is. first-content n x o k p c r first rises others alive leaves stored home within live is;
    taken = λ n t j w c within live h above i is. shrink-taken n j o t w c (pending_at y p k).writes r within live h above i is;
  }
