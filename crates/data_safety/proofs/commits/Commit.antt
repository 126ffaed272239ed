-- A write transaction is committed: the data invariant stays.
use Rattle.std.specs.Prelude.{ℕ, ◌≡◌, ◌≢◌, ◌+◌, ◌-◌, ◌<◌, ◌≤◌, true, List, [], length, ◌⊎◌}
use Rattle.std.proofs.Common.{arith, refl, sym, ap, subst, ◌∙◌, inl, inr, le_refl}
use Rattle.zeus_base.specs.Nodes.{has}
use Rattle.zeus_base.specs.NodeLaws.{has-without_other}
use Rattle.zeus_base.specs.Limits.{KeepsLimits}
use Rattle.zeus_base.specs.declared.config.Config.{Config}
use Rattle.zeus_base.specs.declared.order.Stream.{Stream}
use Rattle.zeus_packet.specs.declared.place.Place.{Place}
use Rattle.zeus_packet.specs.declared.place.Proposal.{Proposal}
use Rattle.zeus_packet.specs.declared.write.Content.{Content}
use Rattle.zeus_packet.specs.declared.write.Write.{Write}
use Rattle.zeus_txn.specs.Ops.{mentions, named}
use Rattle.zeus_txn.specs.Run.{run}
use Rattle.zeus_txn.specs.RunLaws.{run-agree}
use Rattle.zeus_txn.specs.declared.ops.Op.{Op}
use Rattle.zeus_txn.specs.declared.reply.Ran.{Ran}
use Rattle.zeus_model.specs.In.{In}
use Rattle.zeus_model.specs.Tables.{nth}
use Rattle.zeus_model.specs.State.{Node, slot, entry, owns}
use Rattle.zeus_model.specs.Commit.{no_pending}
use Rattle.zeus_model.specs.Local.{run_here, new_writes, replicas_of}
use Rattle.zeus_model.specs.declared.state.Current.{Current}
use Rattle.zeus_model.specs.declared.state.Pending.{Pending}
use Rattle.machine_moves.specs.SystemState.{IsLive, view}
use Rattle.machine_moves.specs.Move.{commits}
use Rattle.machine_moves.proofs.Steady.{IsSteady, move_keep}
use Rattle.ownership_safety.specs.Object.{HasGiven}
use Rattle.ownership_safety.proofs.Owner.{owner-unacked}
use Rattle.replication_safety.specs.StreamState.{Stores, IsAlive, end}
use Rattle.invariants.specs.Streams.{stream_state}
use Rattle.invariants.specs.Objects.{object}
use Rattle.invariants.proofs.StreamEntries.{committing}
use Rattle.invariants.proofs.ObjectSeen.{same_or_not}
use Rattle.data_safety.specs.RunState.{RunState, Witness, tx_ops, place_now, pending_at, Lives}
use Rattle.data_safety.specs.DataInvariant.{DataInvariant, IsEntered, IsClean, IsRun, left, found_at, raised}
use Rattle.data_safety.proofs.Consequences.{home-done, lives-pending}
use Rattle.data_safety.proofs.history.Running.{owns-latest, owns-owner}
use Rattle.data_safety.proofs.history.SerialContents.{running-agree, raised-agree}
use Rattle.data_safety.proofs.history.SerialRun.{IsRun-agree, tx_ops-same}
use Rattle.data_safety.proofs.passes.PassLeft.{unpassed_writes}
use Rattle.data_safety.proofs.commits.CommitSlots.{CommitsTx, made, commit-was, commit-entry_old, commit-entry_new}
use Rattle.data_safety.proofs.commits.CommitBooked.{commit-booked}
use Rattle.data_safety.proofs.commits.CommitFound.{commit-ops, commit-object, commit-owns, commit-alone, commit-ran, commit-writes, commit-written, replicas-in}
use Rattle.data_safety.proofs.commits.CommitStreams.{commit-replication, commit-lives, commit-letters, commit-objects, commit-live, commit-left, commit-copied}

owns-committing : (o : Node) (n s x : ℕ) (c : Current) → owns (committing o n s c) x ≡ owns o x
unfolding owns
owns-committing o n s x c = refl

alive-parts : (y : RunState) (u : Witness) (t : Stream) (k : ℕ) → Lives y u t k → (u.passed t ≤ k) × (k < end (stream_state y.system t))
unfolding IsAlive
alive-parts y u t k alive = (alive.0, alive.1)

module _ (y z : RunState) (u : Witness) (f : DataInvariant y u) (n s : ℕ) (c : Current) (h : CommitsTx y z n s c) where
  steady_after : IsSteady z.system
  steady_after = move_keep y.system z.system (commits n s c h.within h.current h.free h.change) f.steady

  owning : (m x : ℕ) → owns (z.system.node m) x ≡ owns (y.system.node m) x
  owning m x = elim (same_or_not m n) [
    | inl same ↦ rw same (ap (λ (k : Node). owns k x) h.change.node ∙ owns-committing (y.system.node n) n s x c)
    | inr other ↦ ap (λ (k : Node). owns k x) (h.change.others m other)
  ]

  -- what an entry finds, it found before
  found-stays : (t : Stream) (k x : ℕ) → k ≤ end (stream_state y.system t) → found_at z u t k x ≡ found_at y u t k x
  unfolding found_at
  found-stays t k x below =
      running-agree (left z) (left y) (unpassed_writes z u t) (unpassed_writes y u t) (k - u.passed t) x (commit-left y z u f n s c h x)
      (λ j inside. ap (λ (p : Pending). p.writes)
      (commit-entry_old y z n s c h t (u.passed t + j) (omega (arith, (f.replication t).most (stream_state y.system t).home, home-done y.system t)) (omega (arith, inside, below))))

  entry-stays : (t : Stream) (k : ℕ) → Lives y u t k → pending_at z t k ≡ pending_at y t k
  entry-stays t k alive = commit-entry_old y z n s c h t k (lives-pending y u f t k alive).0 (alive-parts y u t k alive).1

  -- the new entry
  new_at : (t : Stream) (k : ℕ) → t ≡ record { node = n; slot = s } → k ≡ end (stream_state y.system record { node = n; slot = s }) → pending_at z t k ≡ made (y.system.node n) n c
  new_at t k own last =
      ap (λ (q : Stream). pending_at z q k) own ∙ ap (λ (j : ℕ). pending_at z record { node = n; slot = s } j) last ∙ commit-entry_new y z n s c h

  new_run : IsRun z u record { node = n; slot = s } (end (stream_state y.system record { node = n; slot = s }))
  new_run =
      let t : Stream = record { node = n; slot = s } in
      let k : ℕ = end (stream_state y.system t) in
      let it : pending_at z t k ≡ made (y.system.node n) n c = commit-entry_new y z n s c h in
      let ops : tx_ops z (pending_at z t k).id ≡ c.tx = tx_ops-same y z (pending_at z t k).id h.txs ∙ ap (λ (p : Pending). tx_ops y p.id) it ∙ sym (commit-ops y z u f n s c h) in
      let ran : run (λ x. (found_at z u t k x).value) (tx_ops z (pending_at z t k).id) ≡ run (λ x. (found_at y u t k x).value) c.tx =
      ap (λ (l : List Op). run (λ x. (found_at z u t k x).value) l) ops
      ∙ run-agree (λ x. (found_at z u t k x).value) (λ x. (found_at y u t k x).value) c.tx (λ x m. ap (λ (d : Content). d.value) (found-stays t k x (le_refl k))) in
      record {
        reply = ap (λ (r : Ran). r.reply) ran ∙ ap (λ (r : Ran). r.reply) (sym (commit-ran y z u f n s c h)) ∙ ap (λ (p : Pending). p.reply) (sym it);
        writes = ap (λ (r : Ran). raised (found_at z u t k) r.writes) ran
            ∙ raised-agree (found_at z u t k) (found_at y u t k) (run (λ x. (found_at y u t k x).value) c.tx).writes (λ x m. found-stays t k x (le_refl k))
            ∙ sym (commit-writes y z u f n s c h) ∙ ap (λ (p : Pending). p.writes) (sym it);
      }

  commit-serial : (t : Stream) (k : ℕ) → Lives z u t k → IsRun z u t k
  commit-serial t k alive = elim (commit-lives y z u f n s c h t k alive) [
    | inl old ↦
        let below = (alive-parts y u t k old).1 in
        IsRun-agree y z u u t k (entry-stays t k old) h.txs (λ x m. found-stays t k x (omega (arith, below))) (f.entered.serial t k old)
    | inr new_one ↦
        subst (λ (q : Stream). IsRun z u q k) (sym new_one.0) (subst (λ (j : ℕ). IsRun z u record { node = n; slot = s } j) (sym new_one.1) new_run)
  ]

  latest-of : (x : ℕ) → mentions x (named c.tx) ≡ true
      → ((entry (y.system.node n) x).place ≡ place_now y u x) × ((place_now y u x).owner ≡ n) × (has n (place_now y u x).replicas ≡ true)
  latest-of x m = owns-latest y u f n x (commit-object y z u f n s c h x m) h.change.live (commit-owns y z u f n s c h x m)

  place-stays : (x : ℕ) → place_now z u x ≡ place_now y u x
  place-stays x = (commit-objects y z u f n s c h).place x

  commit-owner : (t : Stream) (k x : ℕ) → Lives z u t k → mentions x (pending_at z t k).named ≡ true → t.node ≡ (place_now z u x).owner
  commit-owner t k x alive m = elim (commit-lives y z u f n s c h t k alive) [
    | inl old ↦ f.entered.owner t k x old (rw (← entry-stays t k old) m) ∙ ap (λ (p : Place). p.owner) (sym (place-stays x))
    | inr new_one ↦
        let names : mentions x (named c.tx) ≡ true = rw (new_at t k new_one.0 new_one.1) at m in
        ap (λ (q : Stream). q.node) new_one.0 ∙ sym (latest-of x names).1 ∙ ap (λ (p : Place). p.owner) (sym (place-stays x))
  ]

  commit-followed : (t : Stream) (k g : ℕ) (w : Write) → Lives z u t k → In w (pending_at z t k).writes → has g (place_now z u w.obj).replicas ≡ true
      → (has g (pending_at z t k).followers ≡ true) ⊎ (g ≡ t.node)
  commit-followed t k g w alive i m =
      let m_old : has g (place_now y u w.obj).replicas ≡ true = ap (λ (p : Place). has g p.replicas) (sym (place-stays w.obj)) ∙ m in
      elim (commit-lives y z u f n s c h t k alive) [
        | inl old ↦
            let e = entry-stays t k old in
            elim (f.entered.followed t k g w old (rw (← e) i) m_old) [
              | inl follows ↦ inl (ap (λ (p : Pending). has g p.followers) e ∙ follows)
              | inr own ↦ inr own
            ]
        | inr new_one ↦
            let it = new_at t k new_one.0 new_one.1 in
            let i_here : In w (new_writes (y.system.node n) (run_here (y.system.node n) c.tx).writes) = rw it at i in
            let names = (commit-written y z u f n s c h w i_here).0 in
            let placed : has g (entry (y.system.node n) w.obj).place.replicas ≡ true = ap (λ (p : Place). has g p.replicas) (latest-of w.obj names).0 ∙ m_old in
            let follows : has g (replicas_of (y.system.node n) (new_writes (y.system.node n) (run_here (y.system.node n) c.tx).writes)) ≡ true =
            replicas-in (y.system.node n) (new_writes (y.system.node n) (run_here (y.system.node n) c.tx).writes) w g i_here placed in
            elim (same_or_not g n) [
              | inl own ↦ inr (own ∙ ap (λ (q : Stream). q.node) (sym new_one.0))
              | inr other ↦ inl (ap (λ (p : Pending). has g p.followers) it ∙ has-without_other g n (replicas_of (y.system.node n) (new_writes (y.system.node n) (run_here (y.system.node n) c.tx).writes)) other ∙ follows)
            ]
      ]

  commit-home : (t : Stream) (i : ℕ) → i < length (slot (z.system.node t.node) t.slot).pending → has t.node (view z.system 1) ≡ true
  commit-home t i inside =
      ap (λ (vs : List (List ℕ)). has t.node (nth [] vs 0)) h.change.views ∙ elim (commit-was y z n s c h t.node t.slot i inside) [
        | inl old ↦ f.entered.home t i old.0
        | inr new_one ↦
            let known = f.steady.nodes n h.change.live in
            let first : has n (nth [] y.system.views 0) ≡ true = known.everywhere 1 (omega arith) (omega (arith, known.first, known.made)) in
            ap (λ (m : ℕ). has m (nth [] y.system.views 0)) new_one.0 ∙ first
      ]

  commit-apart : (m a b i j x : ℕ) → a ≢ b → i < length (slot (z.system.node m) a).pending → j < length (slot (z.system.node m) b).pending
      → mentions x (nth no_pending (slot (z.system.node m) a).pending i).named ≡ true
      → mentions x (nth no_pending (slot (z.system.node m) b).pending j).named ≡ true → ⊥
  commit-apart m a b i j x ne one two p q = elim (commit-was y z n s c h m a i one) [
    | inl old_a ↦ elim (commit-was y z n s c h m b j two) [
      | inl old_b ↦ f.entered.apart m a b i j x ne old_a.0 old_b.0 (rw old_a.1 at p) (rw old_b.1 at q)
      | inr new_b ↦
          let names : mentions x (named c.tx) ≡ true = rw new_b.3 at q in
          let other : a ≢ s = λ e. ne (e ∙ sym new_b.1) in
          commit-alone y z u f n s c h x names a i other (rw new_b.0 at old_a.0) (rw new_b.0 at (rw old_a.1 at p))
    ]
    | inr new_a ↦ elim (commit-was y z n s c h m b j two) [
      | inl old_b ↦
          let names : mentions x (named c.tx) ≡ true = rw new_a.3 at p in
          let other : b ≢ s = λ e. ne (new_a.1 ∙ sym e) in
          commit-alone y z u f n s c h x names b j other (rw new_a.0 at old_b.0) (rw new_a.0 at (rw old_b.1 at q))
      | inr new_b ↦ ne (new_a.1 ∙ sym new_b.1)
    ]
  ]

  commit-owned : (m a i x : ℕ) → IsLive z.system m → i < length (slot (z.system.node m) a).pending
      → mentions x (nth no_pending (slot (z.system.node m) a).pending i).named ≡ true → owns (z.system.node m) x ≡ true
  commit-owned m a i x live inside p = owning m x ∙ elim (commit-was y z n s c h m a i inside) [
    | inl old ↦ f.entered.owned m a i x (commit-live y z u f n s c h m live) old.0 (rw old.1 at p)
    | inr new_one ↦
        let names : mentions x (named c.tx) ≡ true = rw new_one.3 at p in
        ap (λ (k : ℕ). owns (y.system.node k) x) new_one.0 ∙ commit-owns y z u f n s c h x names
  ]

  -- on what the node owns nobody has given a content
  commit-given : (m x e : ℕ) (p : Proposal) (d : Content) → x < length z.system.config.objects → HasGiven (object z.system x) m p d e
      → p.base.ver ≡ length (u.chain x) → IsClean z u x × (d ≡ left z x)
  unfolding IsClean
  commit-given m x e p d within given base =
      let old_within : x < length y.system.config.objects = rw h.change.config at within in
      let old_given : HasGiven (object y.system x) m p d e = (commit-objects y z u f n s c h).given x m e p d given in
      let before = f.entered.given m x e p d old_within old_given base in (
        λ t k alive names. elim (commit-lives y z u f n s c h t k alive) [
          | inl old ↦ before.0 t k old (rw (← entry-stays t k old) names)
          | inr new_one ↦
              let names_here : mentions x (named c.tx) ≡ true = rw (new_at t k new_one.0 new_one.1) at names in
              owner-unacked (object y.system x) (u.chain x) (f.ownership x old_within) n m e p d
              (owns-owner y u f n x h.change.live (commit-owns y z u f n s c h x names_here)) base old_given
        ],
        before.1 ∙ sym (commit-left y z u f n s c h x),
      )

  commit-entered : IsEntered z u
  commit-entered = record {
    home = commit-home;
    owner = commit-owner;
    followed = commit-followed;
    serial = commit-serial;
    apart = commit-apart;
    owned = commit-owned;
    given = commit-given;
    low = λ t from to e k d i w m below there_is.
        let before = f.entered.low t from to e k d i w (commit-letters y z u f n s c h t (Stores from to e k d i) m) below there_is in
        omega (arith, before, ap (λ (g : Content). g.ver) (commit-left y z u f n s c h w.obj));
  }

  -- if a slot commits a write transaction, then the invariant stays
  pub keeps_commit : DataInvariant z u
  keeps_commit = record {
    limits = subst (λ (k : Config). KeepsLimits k) (sym h.change.config) f.limits;
    steady = steady_after;
    ownership = (commit-objects y z u f n s c h).ownership;
    replication = commit-replication y z u f n s c h;
    copied = commit-copied y z u f n s c h;
    entered = commit-entered;
    booked = commit-booked y z u f n s c h;
  }
