-- What a committed transaction finds at its owner: what the entries before it leave.
use Rattle.std.specs.Prelude.{ℕ, ◌≡◌, ◌≢◌, ◌+◌, ◌<◌, true, List, [], ◌∷◌, length, Option, Some}
use Rattle.std.proofs.Common.{arith, refl, sym, ap, ◌∙◌, inl, inr}
use Rattle.std.proofs.lemmas.Bool.{eq-eqb}
use Rattle.std.proofs.lemmas.Bool.Decides.{nat_tests}
use Rattle.zeus_base.specs.Nodes.{has}
use Rattle.zeus_base.specs.NodeLaws.{has-join}
use Rattle.zeus_base.specs.declared.value.Value.{Value}
use Rattle.zeus_packet.specs.declared.write.Content.{Content}
use Rattle.zeus_packet.specs.declared.write.Write.{Write}
use Rattle.zeus_txn.specs.Ops.{mentions, named}
use Rattle.zeus_txn.specs.Run.{run}
use Rattle.zeus_txn.specs.RunLaws.{keys, AreOf, run-agree, run-are_of}
use Rattle.zeus_txn.specs.declared.ops.Op.{Op}
use Rattle.zeus_txn.specs.declared.reply.Ran.{Ran}
use Rattle.zeus_model.specs.In.{In, here, there}
use Rattle.zeus_model.specs.Tables.{nth}
use Rattle.zeus_model.specs.State.{Node, slot, copy, entry, owns, value_of, version_of}
use Rattle.zeus_model.specs.Commit.{no_pending}
use Rattle.zeus_model.specs.Local.{run_here, new_writes, replicas_of}
use Rattle.zeus_model.specs.declared.state.Copy.{Copy}
use Rattle.zeus_model.specs.declared.state.Current.{Current}
use Rattle.replication_safety.specs.StreamState.{end}
use Rattle.invariants.specs.Streams.{stream_state}
use Rattle.data_safety.specs.RunState.{RunState, Witness, tx_ops}
use Rattle.data_safety.specs.DataInvariant.{DataInvariant, content_of, found_at, raised}
use Rattle.data_safety.proofs.commits.Names.{IsOnce, raised-from, raised-once, run-named, run-once}
use Rattle.data_safety.proofs.Consequences.{unheld}
use Rattle.data_safety.proofs.history.Running.{owner-copy}
use Rattle.data_safety.proofs.commits.CommitCauses.{cause-owns, cause-held, holder-names}
use Rattle.data_safety.proofs.commits.CommitSlots.{CommitsTx}

value_found : (o : Option Copy) (b : Copy) (k : Content) → o ≡ Some b → content_of b ≡ k → (value_of o ≡ k.value) × (version_of o ≡ k.ver)
unfolding value_of version_of
value_found o b k is same = rw is (ap (λ (d : Content). d.value) same, ap (λ (d : Content). d.ver) same)

-- new versions are one above those that are found
pub new_writes-raised : (n : Node) (found : ℕ → Content) (ws : List (ℕ × Value)) → ((x : ℕ) → mentions x (keys ws) ≡ true → version_of (copy n x) ≡ (found x).ver) → new_writes n ws ≡ raised found ws
unfolding new_writes raised mentions keys
new_writes-raised n found [] same = refl
new_writes-raised n found (w ∷ ws) same =
    let now : version_of (copy n w.0) ≡ (found w.0).ver = same w.0 (rw (eq-eqb w.0 w.0 refl) refl) in
    rw (now, new_writes-raised n found ws (λ x m. same x (grind (arith, nat_tests)))) refl

-- the replicas of all written objects are among the followers
pub replicas-in : (o : Node) (ws : List Write) (w : Write) (g : ℕ) → In w ws → has g (entry o w.obj).place.replicas ≡ true → has g (replicas_of o ws) ≡ true
unfolding replicas_of
replicas-in o [] w g i m = elim i [ ]
replicas-in o (v ∷ vs) w g (here _ _ e) m =
    let first : has g (entry o v.obj).place.replicas ≡ true = ap (λ (k : Write). has g (entry o k.obj).place.replicas) (sym e) ∙ m in
    grind (arith, has-join g (entry o v.obj).place.replicas (replicas_of o vs), first)
replicas-in o (v ∷ vs) w g (there _ _ i) m =
    let rest : has g (replicas_of o vs) ≡ true = replicas-in o vs w g i m in
    grind (arith, has-join g (entry o v.obj).place.replicas (replicas_of o vs), rest)

module _ (y z : RunState) (u : Witness) (f : DataInvariant y u) (n s : ℕ) (c : Current) (h : CommitsTx y z n s c) where
  -- the slot's current transaction has the operations that were declared
  pub commit-ops : c.tx ≡ tx_ops y c.id
  commit-ops = (f.booked.current n s c h.current).0

  -- each object that the committed transaction names is one of the configuration
  pub commit-object : (x : ℕ) → mentions x (named c.tx) ≡ true → x < length y.system.config.objects
  commit-object x m = f.booked.objects c.id x (ap (λ (ops : List Op). mentions x (named ops)) (sym commit-ops) ∙ m)

  -- the node owns each object that the committed transaction names
  pub commit-owns : (x : ℕ) → mentions x (named c.tx) ≡ true → owns (y.system.node n) x ≡ true
  commit-owns x m = cause-owns (y.system.node n) s x c.tx h.free m

  -- no other slot has a pending entry that names the object
  pub commit-alone : (x : ℕ) → mentions x (named c.tx) ≡ true → (r i : ℕ) → r ≢ s → i < length (slot (y.system.node n) r).pending
      → mentions x (nth no_pending (slot (y.system.node n) r).pending i).named ≡ true → ⊥
  commit-alone x m r i other inside names = elim (cause-held (y.system.node n) s x c.tx h.free m) [
    | inl free ↦ unheld (y.system.node n) x free r i inside names
    | inr held ↦
        let own = holder-names (y.system.node n) x s held in
        f.entered.apart n r s i own.0 x other inside own.1 names own.2
  ]

  -- its copies are what the entries before leave
  pub commit-copy : (x : ℕ) → mentions x (named c.tx) ≡ true
      → (b : Copy) × (copy (y.system.node n) x ≡ Some b) × (content_of b ≡ found_at y u record { node = n; slot = s } (end (stream_state y.system record { node = n; slot = s })) x)
  commit-copy x m =
      owner-copy y u f n x record { node = n; slot = s } refl (commit-object x m) h.change.live (commit-owns x m) (commit-alone x m)

  -- the node's copies of the objects that it names are what the entries before it leave
  pub commit-found : (x : ℕ) → mentions x (named c.tx) ≡ true
      → (value_of (copy (y.system.node n) x) ≡ (found_at y u record { node = n; slot = s } (end (stream_state y.system record { node = n; slot = s })) x).value)
      × (version_of (copy (y.system.node n) x) ≡ (found_at y u record { node = n; slot = s } (end (stream_state y.system record { node = n; slot = s })) x).ver)
  commit-found x m =
      let b = commit-copy x m in
      value_found (copy (y.system.node n) x) b.0 (found_at y u record { node = n; slot = s } (end (stream_state y.system record { node = n; slot = s })) x) b.1 b.2

  -- the transaction makes of the node's copies what it makes of what the entries before it leave
  pub commit-ran : run_here (y.system.node n) c.tx ≡ run (λ x. (found_at y u record { node = n; slot = s } (end (stream_state y.system record { node = n; slot = s })) x).value) c.tx
  commit-ran =
      run-agree (λ x. value_of (copy (y.system.node n) x)) (λ x. (found_at y u record { node = n; slot = s } (end (stream_state y.system record { node = n; slot = s })) x).value) c.tx (λ x m. (commit-found x m).0)

  -- the committed writes are those of the transaction, with versions one above what the entries before it leave
  pub commit-writes : new_writes (y.system.node n) (run_here (y.system.node n) c.tx).writes
      ≡ raised (found_at y u record { node = n; slot = s } (end (stream_state y.system record { node = n; slot = s }))) (run (λ x. (found_at y u record { node = n; slot = s } (end (stream_state y.system record { node = n; slot = s })) x).value) c.tx).writes
  commit-writes =
      let found : ℕ → Content = found_at y u record { node = n; slot = s } (end (stream_state y.system record { node = n; slot = s })) in
      let are : AreOf (named c.tx) (run (λ x. (found x).value) c.tx).writes = run-are_of (λ x. (found x).value) c.tx in
      ap (λ (r : Ran). new_writes (y.system.node n) r.writes) commit-ran
      ∙ new_writes-raised (y.system.node n) found (run (λ x. (found x).value) c.tx).writes (λ x m. (commit-found x (are.named x m)).1)

  -- what it writes, it names, once, with versions one above what it finds
  pub commit-written : (w : Write) → In w (new_writes (y.system.node n) (run_here (y.system.node n) c.tx).writes)
      → (mentions w.obj (named c.tx) ≡ true) × (w.ver ≡ (found_at y u record { node = n; slot = s } (end (stream_state y.system record { node = n; slot = s })) w.obj).ver + 1)
  commit-written w i =
      let found : ℕ → Content = found_at y u record { node = n; slot = s } (end (stream_state y.system record { node = n; slot = s })) in
      let m : In w (raised found (run (λ x. (found x).value) c.tx).writes) = rw (← commit-writes) i in
      let from = raised-from found (run (λ x. (found x).value) c.tx).writes w m in
      (run-named (λ x. (found x).value) c.tx (w.obj, w.value) from.0, from.1)

  -- a commit writes no object twice
  pub commit-once : IsOnce (new_writes (y.system.node n) (run_here (y.system.node n) c.tx).writes)
  commit-once =
      let found : ℕ → Content = found_at y u record { node = n; slot = s } (end (stream_state y.system record { node = n; slot = s })) in
      rw commit-writes (raised-once found (run (λ x. (found x).value) c.tx).writes (run-once (λ x. (found x).value) c.tx))
