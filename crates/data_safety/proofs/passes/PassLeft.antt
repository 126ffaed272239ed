-- What the history leaves and what entries find after a pass.
use Rattle.std.specs.Prelude.{ℕ, suc, ◌≡◌, ◌≢◌, ◌+◌, ◌-◌, ◌<◌, ◌≤◌, true, List}
use Rattle.std.proofs.Common.{arith, sym, ap, subst, ◌∙◌, inl, inr}
use Rattle.zeus_base.specs.declared.order.Stream.{Stream}
use Rattle.zeus_packet.specs.declared.write.Content.{Content}
use Rattle.zeus_packet.specs.declared.write.Write.{Write}
use Rattle.zeus_txn.specs.Ops.{mentions}
use Rattle.zeus_model.specs.In.{In}
use Rattle.zeus_model.specs.declared.state.Pending.{Pending}
use Rattle.replication_safety.specs.StreamState.{Entry, Stores, entry}
use Rattle.replication_safety.specs.ReplicationInvariant.{IsCopy}
use Rattle.invariants.specs.Streams.{stream_state}
use Rattle.invariants.proofs.StreamSeen.{stream_cases}
use Rattle.invariants.proofs.ObjectSeen.{same_or_not}
use Rattle.data_safety.specs.RunState.{RunState, Witness, pending_at, Lives, overwritten, running}
use Rattle.data_safety.specs.DataInvariant.{DataInvariant, IsClean, left, found_at}
use Rattle.data_safety.proofs.Consequences.{disjoint, home-entry, written-named}
use Rattle.data_safety.proofs.history.Running.{writes-cases, written_content, overwritten-in, overwritten-other, writes-once, write-version, found-start}
use Rattle.data_safety.proofs.history.SerialContents.{running-agree, running-shift}
use Rattle.data_safety.proofs.stores.EntriesShrink.{EntriesShrink, ShrinkLeft, lives-above}

-- the writes of the entries of a stream from its first unpassed one on
abbrev pub unpassed_writes : RunState → Witness → Stream → ℕ → List Write
unpassed_writes y u t j = (pending_at y t (u.passed t + j)).writes

module _ (y z : RunState) (u v : Witness) (f : DataInvariant y u) (s : EntriesShrink y z u v) where
  unpassed-same : (t : Stream) (i j : ℕ) → v.passed t ≤ i → i ≡ j → (pending_at z t i).writes ≡ (pending_at y t j).writes
  unpassed-same t i j above e = ap (λ (p : Pending). p.writes) (s.entry t i above ∙ ap (λ (m : ℕ). pending_at y t m) e)

  -- where as many entries have passed as before, an entry finds what it found
  pub found-same_count : (t : Stream) (k x : ℕ) → v.passed t ≡ u.passed t → left z x ≡ left y x → found_at z v t k x ≡ found_at y u t k x
  unfolding found_at
  found-same_count t k x passed same =
      let counts : k - v.passed t ≡ k - u.passed t = omega (arith, passed) in
      ap (λ (m : ℕ). running (left z) (unpassed_writes z v t) m x) counts
      ∙ running-agree (left z) (left y) (unpassed_writes z v t) (unpassed_writes y u t) (k - u.passed t) x same
      (λ j below. unpassed-same t (v.passed t + j) (u.passed t + j) (omega arith) (omega (arith, passed)))

  -- ---- what has passed before

  -- if the history's contents and what has passed stay, then entries find what they found
  pub again-left : ((x : ℕ) → left z x ≡ left y x) → ((t : Stream) → v.passed t ≡ u.passed t) → ShrinkLeft y z u v
  again-left same passed = record {
    found = λ t k x alive m. found-same_count t k x (passed t) (same x);
    clean = λ x c. same x;
    low = λ t from to e k d i w m below there_is.
        let before = f.entered.low t from to e k d i w m (omega (arith, below, passed t)) there_is in
        omega (arith, before, ap (λ (c : Content). c.ver) (same w.obj));
  }

  -- ---- a first pass

  first-unwritten : (k x : ℕ) (p : Stream) → ((a : ℕ) → left z a ≡ overwritten (left y) (pending_at y p k).writes a) → Lives y u p k
      → (mentions x (pending_at y p k).named ≡ true → ⊥) → left z x ≡ left y x
  first-unwritten k x p leaves alive none =
      leaves x ∙ overwritten-other (left y) (pending_at y p k).writes x (λ w i is. none (rw is at (written-named y u f p k w alive i)))

  -- the entry's writes are taken into what the history leaves
  first-found : (k j x : ℕ) (p : Stream) → u.passed p ≡ k → v.passed p ≡ suc k → suc k ≤ j
      → ((a : ℕ) → left z a ≡ overwritten (left y) (pending_at y p k).writes a) → found_at z v p j x ≡ found_at y u p j x
  unfolding found_at
  first-found k j x p first rises above leaves =
      let counts : suc (j - v.passed p) ≡ j - u.passed p = omega (arith, first, rises, above) in
      let start : u.passed p + 0 ≡ k = omega (arith, first) in
      let base : left z x ≡ overwritten (left y) (unpassed_writes y u p 0) x =
      leaves x ∙ ap (λ (m : ℕ). overwritten (left y) (pending_at y p m).writes x) (sym start) in
      running-shift (left z) (left y) (unpassed_writes z v p) (unpassed_writes y u p) (j - v.passed p) x base
      (λ i below. unpassed-same p (v.passed p + i) (u.passed p + suc i) (omega arith) (omega (arith, first, rises)))
      ∙ ap (λ (m : ℕ). running (left y) (unpassed_writes y u p) m x) counts

  first-rises : (k x : ℕ) (p : Stream) → u.passed p ≡ k → Lives y u p k → ((a : ℕ) → left z a ≡ overwritten (left y) (pending_at y p k).writes a)
      → (left y x).ver ≤ (left z x).ver
  first-rises k x p first alive leaves = elim (writes-cases (pending_at y p k).writes x) [
    | inr none ↦ let same : left z x ≡ left y x = leaves x ∙ overwritten-other (left y) (pending_at y p k).writes x none in omega (arith, ap (λ (c : Content). c.ver) same)
    | inl w ↦
        let now : left z x ≡ written_content w.0 =
        leaves x ∙ ap (λ (a : ℕ). overwritten (left y) (pending_at y p k).writes a) (sym w.2) ∙ overwritten-in (left y) (pending_at y p k).writes w.0 (writes-once y u f p k alive) w.1 in
        let ver : w.0.ver ≡ (left y x).ver + 1 =
        write-version y u f p k w.0 alive w.1 ∙ ap (λ (m : ℕ). (found_at y u p m w.0.obj).ver + 1) (sym first)
        ∙ ap (λ (g : ℕ → Content). (g w.0.obj).ver + 1) (found-start y u p) ∙ ap (λ (a : ℕ). (left y a).ver + 1) w.2 in
        omega (arith, ver, ap (λ (c : Content). c.ver) now)
  ]

  first-low : (k : ℕ) (p t : Stream) (from to e j d : ℕ) (i : Entry) (w : Write) → u.passed p ≡ k → v.passed p ≡ suc k → ((r : Stream) → r ≢ p → v.passed r ≡ u.passed r) → Lives y u p k
      → ((a : ℕ) → left z a ≡ overwritten (left y) (pending_at y p k).writes a) → In (Stores from to e j d i) (stream_state y.system t).letters → j < v.passed t
      → In w i.writes → w.ver ≤ (left z w.obj).ver
  first-low k p t from to e j d i w first rises others alive leaves m below there_is =
      let before = λ (low : j < u.passed t). (f.entered.low t from to e j d i w m low there_is) in
      let rise = first-rises k w.obj p first alive leaves in
      elim (stream_cases t p) [
        | inr other ↦ let low = before (omega (arith, below, others t other)) in omega (arith, low, rise)
        | inl is_it ↦ elim (same_or_not j k) [
          | inr differs ↦
              let at : u.passed t ≡ k = ap u.passed is_it ∙ first in
              let after : v.passed t ≡ suc k = ap v.passed is_it ∙ rises in
              let low = before (omega (arith, below, at, after, differs)) in
              omega (arith, low, rise)
          | inl same ↦
              let copy_of : IsCopy (stream_state y.system p) (u.passed p) to j d i = (f.replication p).copies from to e j d i (subst (λ (r : Stream). In (Stores from to e j d i) (stream_state y.system r).letters) is_it m) in
              let content : i ≡ entry (stream_state y.system p) j = copy_of.same (omega (arith, (f.replication p).most (stream_state y.system p).home, first, same)) in
              let writes : i.writes ≡ (pending_at y p k).writes = ap (λ (q : Entry). q.writes) (content ∙ home-entry y p j) ∙ ap (λ (n : ℕ). (pending_at y p n).writes) same in
              let now : left z w.obj ≡ written_content w = leaves w.obj ∙ overwritten-in (left y) (pending_at y p k).writes w (writes-once y u f p k alive) (rw writes at there_is) in
              omega (arith, ap (λ (c : Content). c.ver) now)
        ]
      ]

  -- if an entry passes for the first time and the history takes its writes, then entries find what they found
  pub first-shrink_left : (k : ℕ) (p : Stream) → u.passed p ≡ k → v.passed p ≡ suc k → ((r : Stream) → r ≢ p → v.passed r ≡ u.passed r) → Lives y u p k
      → ((a : ℕ) → left z a ≡ overwritten (left y) (pending_at y p k).writes a) → ShrinkLeft y z u v
  unfolding IsClean
  first-shrink_left k p first rises others alive leaves = record {
    found = λ t j x lives m. elim (stream_cases t p) [
      | inl is_it ↦
          let above : v.passed t ≤ j = lives-above z v t j lives in
          subst (λ (r : Stream). found_at z v r j x ≡ found_at y u r j x) (sym is_it)
          (first-found k j x p first rises (omega (arith, above, ap v.passed is_it, rises)) leaves)
      | inr other ↦
          found-same_count t j x (others t other)
          (first-unwritten k x p leaves alive (λ named_here. disjoint y u f t p j k x other ((s.streams t).alive j lives) alive m named_here))
    ];
    clean = λ x c. first-unwritten k x p leaves alive (λ named_here. c p k alive named_here);
    low = λ t from to e j d i w m below there_is. first-low k p t from to e j d i w first rises others alive leaves m below there_is;
  }
