-- What still holds of entries and the book after a move that neither commits nor stores nor passes.
use Rattle.std.specs.Prelude.{ℕ, ◌≡◌, ◌≢◌, ◌+◌, ◌<◌, ◌≤◌, true, false, List, length, Some, None, is_some, ◌⊎◌}
use Rattle.std.proofs.Common.{sym, ap, ◌∙◌, inl, inr}
use Rattle.zeus_base.specs.Nodes.{has}
use Rattle.zeus_base.specs.declared.order.Stream.{Stream}
use Rattle.zeus_packet.specs.declared.place.Proposal.{Proposal}
use Rattle.zeus_packet.specs.declared.write.Content.{Content}
use Rattle.zeus_packet.specs.declared.write.Write.{Write}
use Rattle.zeus_txn.specs.Ops.{mentions, named, is_write}
use Rattle.zeus_txn.specs.Run.{run}
use Rattle.zeus_txn.specs.declared.ops.Op.{Op}
use Rattle.zeus_txn.specs.declared.tx.TxDecl.{TxDecl}
use Rattle.zeus_model.specs.In.{In}
use Rattle.zeus_model.specs.Tables.{nth}
use Rattle.zeus_model.specs.State.{owns, slot}
use Rattle.zeus_model.specs.Commit.{no_pending}
use Rattle.zeus_model.specs.Book.{Book, EntryId, record_of}
use Rattle.zeus_model.specs.World.{no_tx}
use Rattle.zeus_model.specs.declared.state.Current.{Current}
use Rattle.machine_moves.specs.SystemState.{IsLive, view}
use Rattle.ownership_safety.specs.Object.{HasGiven}
use Rattle.replication_safety.specs.StreamState.{Entry, Stores, end}
use Rattle.invariants.specs.Streams.{stream_state}
use Rattle.invariants.specs.Objects.{object}
use Rattle.data_safety.specs.RunState.{RunState, Witness, tx_ops, place_now, pending_at, Lives}
use Rattle.data_safety.specs.DataInvariant.{DataInvariant, IsEntered, IsBooked, IsClean, IsRun, left, found_at, raised}
use Rattle.data_safety.proofs.Consequences.{written-named}
use Rattle.data_safety.proofs.ownership.StreamsUnchanged.{still-sent}
use Rattle.data_safety.proofs.ownership.OwnershipFrame.{IsFramed, IsSameObject, IsRenewed, with_chains, txs-same, framed-lives, framed-pending, framed-left, framed-found, framed-clean, framed-ops, framed-within, lives-within}

module _ (y z : RunState) (u : Witness) (chain : ℕ → List Proposal) (f : DataInvariant y u) (s : IsFramed y z u) where
  -- ---- entries

  module _ (objects : (x : ℕ) → x < length y.system.config.objects → IsSameObject y z u (with_chains u chain) x ⊎ IsRenewed y z u (with_chains u chain) x) where
    framed-home : (t : Stream) (i : ℕ) → i < length (slot (z.system.node t.node) t.slot).pending → has t.node (view z.system 1) ≡ true
    framed-home t i inside = s.first t.node (f.entered.home t i (rw ((s.slots t.node).count t.slot) at inside))

    -- the placement of what can still pass has not changed
    lives-place : (t : Stream) (k x : ℕ) → Lives y u t k → mentions x (pending_at y t k).named ≡ true → place_now z (with_chains u chain) x ≡ place_now y u x
    unfolding IsClean
    lives-place t k x alive m =
        elim (objects x (lives-within y z u chain f s t k x alive m)) [ inl same ↦ same.place | inr renewed ↦ absurd (renewed.clean t k alive m) ]

    framed-owner : (t : Stream) (k x : ℕ) → Lives z u t k → mentions x (pending_at z t k).named ≡ true → t.node ≡ (place_now z (with_chains u chain) x).owner
    framed-owner t k x alive m =
        let was = framed-lives y z u chain f s t k alive in
        let m' : mentions x (pending_at y t k).named ≡ true = rw ((framed-pending y z u chain f s t k).named) at m in
        rw (lives-place t k x was m') (f.entered.owner t k x was m')

    framed-followed : (t : Stream) (k g : ℕ) (w : Write) → Lives z u t k → In w (pending_at z t k).writes → has g (place_now z (with_chains u chain) w.obj).replicas ≡ true
        → (has g (pending_at z t k).followers ≡ true) ⊎ (g ≡ t.node)
    framed-followed t k g w alive i h =
        let was = framed-lives y z u chain f s t k alive in
        let p = framed-pending y z u chain f s t k in
        let i' : In w (pending_at y t k).writes = rw p.writes at i in
        let m : mentions w.obj (pending_at y t k).named ≡ true = written-named y u f t k w was i' in
        let h' : has g (place_now y u w.obj).replicas ≡ true = rw (lives-place t k w.obj was m) at h in
        elim (f.entered.followed t k g w was i' h') [ inl follows ↦ inl (rw p.followers follows) | inr own ↦ inr own ]

    framed-serial : (t : Stream) (k : ℕ) → Lives z u t k → IsRun z (with_chains u chain) t k
    unfolding found_at
    framed-serial t k alive =
        let was = framed-lives y z u chain f s t k alive in
        let is : IsRun y u t k = f.entered.serial t k was in
        let p = framed-pending y z u chain f s t k in
        let found : found_at z (with_chains u chain) t k ≡ found_at y u t k = framed-found y z u chain f s t k in
        let ops : tx_ops z (pending_at z t k).id ≡ tx_ops y (pending_at y t k).id = framed-ops y z u chain f s (pending_at z t k).id ∙ ap (λ (i : ℕ). tx_ops y i) p.id in
        record {
          reply = ap (λ (g : ℕ → Content). (run (λ x. (g x).value) (tx_ops z (pending_at z t k).id)).reply) found
              ∙ ap (λ (o : List Op). (run (λ x. (found_at y u t k x).value) o).reply) ops ∙ is.reply ∙ sym p.reply;
          writes = ap (λ (g : ℕ → Content). raised g (run (λ x. (g x).value) (tx_ops z (pending_at z t k).id)).writes) found
              ∙ ap (λ (o : List Op). raised (found_at y u t k) (run (λ x. (found_at y u t k x).value) o).writes) ops ∙ is.writes ∙ sym p.writes;
        }

    framed-apart : (n a b i j x : ℕ) → a ≢ b → i < length (slot (z.system.node n) a).pending → j < length (slot (z.system.node n) b).pending
        → mentions x (nth no_pending (slot (z.system.node n) a).pending i).named ≡ true
        → mentions x (nth no_pending (slot (z.system.node n) b).pending j).named ≡ true → ⊥
    framed-apart n a b i j x ne ii jj m l =
        let r = s.slots n in
        f.entered.apart n a b i j x ne (rw (r.count a) at ii) (rw (r.count b) at jj) (rw ((r.pending a i).named) at m) (rw ((r.pending b j).named) at l)

    framed-low : (t : Stream) (from to e k d : ℕ) (i : Entry) (w : Write) → In (Stores from to e k d i) (stream_state z.system t).letters → k < u.passed t
        → In w i.writes → w.ver ≤ (left z w.obj).ver
    framed-low t from to e k d i w m below inside =
        let sent = still-sent (stream_state y.system t) (stream_state z.system t) (u.passed t) from to e k d i (f.replication t) (s.seen t) m below in
        rw (framed-left y z u chain f s) (f.entered.low t sent.0 sent.1 sent.2 k sent.3 i w sent.4 below inside)

    module _ (owned : (n a i x : ℕ) → IsLive z.system n → i < length (slot (y.system.node n) a).pending
        → mentions x (nth no_pending (slot (y.system.node n) a).pending i).named ≡ true → owns (y.system.node n) x ≡ true → owns (z.system.node n) x ≡ true)
        (given : (n x e : ℕ) (p : Proposal) (c : Content) → x < length y.system.config.objects → HasGiven (object z.system x) n p c e
        → p.base.ver ≡ length (chain x) → IsClean y u x × (c ≡ left y x)) where
      framed-owned : (n a i x : ℕ) → IsLive z.system n → i < length (slot (z.system.node n) a).pending
          → mentions x (nth no_pending (slot (z.system.node n) a).pending i).named ≡ true → owns (z.system.node n) x ≡ true
      framed-owned n a i x live ii m =
          let r = s.slots n in
          let ii' : i < length (slot (y.system.node n) a).pending = rw (r.count a) at ii in
          let m' : mentions x (nth no_pending (slot (y.system.node n) a).pending i).named ≡ true = rw ((r.pending a i).named) at m in
          owned n a i x live ii' m' (f.entered.owned n a i x (s.live n live) ii' m')

      framed-given : (n x e : ℕ) (p : Proposal) (c : Content) → x < length z.system.config.objects → HasGiven (object z.system x) n p c e
          → p.base.ver ≡ length (chain x) → IsClean z (with_chains u chain) x × (c ≡ left z x)
      framed-given n x e p c within g last =
          let was = given n x e p c (framed-within y z u chain f s x within) g last in
          (framed-clean y z u chain f s x was.0, rw (framed-left y z u chain f s) was.1)

      -- if also owners of pending objects stay so, and given contents are what the history leaves, then what holds of entries still holds
      pub framed-entered : IsEntered z (with_chains u chain)
      framed-entered = record {
        home = framed-home;
        owner = framed-owner;
        followed = framed-followed;
        serial = framed-serial;
        apart = framed-apart;
        owned = framed-owned;
        given = framed-given;
        low = framed-low;
      }

  -- ---- the book

  framed-record : (id : ℕ) → record_of z.book id ≡ record_of y.book id
  framed-record id = ap (λ (b : Book). record_of b id) s.book

  framed-objects : (id x : ℕ) → mentions x (named (tx_ops z id)) ≡ true → x < length z.system.config.objects
  framed-objects id x m =
      let m' : mentions x (named (tx_ops y id)) ≡ true = rw (framed-ops y z u chain f s id) at m in
      rw s.config (f.booked.objects id x m')

  framed-end : (t : Stream) → end (stream_state z.system t) ≡ end (stream_state y.system t)
  framed-end t = s.ends t

  framed-entry : (t : Stream) (k : ℕ) → k < end (stream_state z.system t)
      → (id : ℕ) × ((record_of z.book id).entry ≡ Some record { stream = t; number = k }) × (is_write (tx_ops z id) ≡ true)
      × ((nth no_tx z.txs id).node ≡ t.node) × ((nth no_tx z.txs id).slot ≡ t.slot)
  framed-entry t k below =
      let was = f.booked.entry t k (rw (framed-end t) at below) in (
        was.0,
        rw (framed-record was.0) was.1,
        ap (λ (o : List Op). is_write o) (framed-ops y z u chain f s was.0) ∙ was.2,
        ap (λ (t : List TxDecl). (nth no_tx t was.0).node) s.txs ∙ was.3,
        ap (λ (t : List TxDecl). (nth no_tx t was.0).slot) s.txs ∙ was.4,
      )

  framed-below : (id : ℕ) (e : EntryId) → (record_of z.book id).entry ≡ Some e → e.number < end (stream_state z.system e.stream)
  framed-below id e is = rw (framed-end e.stream) (f.booked.below_end id e (rw (framed-record id) at is))

  framed-own : (t : Stream) (i : ℕ) → i < length (slot (z.system.node t.node) t.slot).pending
      → ((record_of z.book (nth no_pending (slot (z.system.node t.node) t.slot).pending i).id).entry ≡ Some record { stream = t; number = (slot (z.system.node t.node) t.slot).done + i })
      × ((record_of z.book (nth no_pending (slot (z.system.node t.node) t.slot).pending i).id).reply ≡ Some (nth no_pending (slot (z.system.node t.node) t.slot).pending i).reply)
      × ((nth no_pending (slot (z.system.node t.node) t.slot).pending i).named ≡ named (tx_ops z (nth no_pending (slot (z.system.node t.node) t.slot).pending i).id))
  framed-own t i inside =
      let r = s.slots t.node in
      let p = r.pending t.slot i in
      let was = f.booked.pending t i (rw (r.count t.slot) at inside) in
      let id = (nth no_pending (slot (z.system.node t.node) t.slot).pending i).id in (
        rw (framed-record id, p.id, r.done t.slot) was.0,
        rw (framed-record id, p.id, p.reply) was.1,
        p.named ∙ was.2 ∙ ap (λ (o : List Op). named o) (sym (framed-ops y z u chain f s id ∙ ap (λ (j : ℕ). tx_ops y j) p.id)),
      )

  framed-current : (n a : ℕ) (c : Current) → (slot (z.system.node n) a).current ≡ Some c
      → (c.tx ≡ tx_ops z c.id) × (is_some (record_of z.book c.id).begun ≡ true) × ((record_of z.book c.id).entry ≡ None) × ((record_of z.book c.id).point ≡ None)
      × ((record_of z.book c.id).refused ≡ false) × ((nth no_tx z.txs c.id).node ≡ n) × ((nth no_tx z.txs c.id).slot ≡ a)
  framed-current n a c is =
      let was = f.booked.current n a c (sym ((s.slots n).current a) ∙ is) in
      let r = framed-record c.id in
      (was.0 ∙ sym (framed-ops y z u chain f s c.id), rw r was.1, rw r was.2, rw r was.3, rw r was.4, rw s.txs was.5, rw s.txs was.6)

  -- after a framed move, what holds of the book still holds
  pub framed-booked : IsBooked z (with_chains u chain)
  framed-booked = record {
    objects = framed-objects;
    entry = framed-entry;
    one_entry = λ i j e a b. f.booked.one_entry i j e (rw (framed-record i) at a) (rw (framed-record j) at b);
    below_end = framed-below;
    pending = framed-own;
    current = framed-current;
    begun = λ id. rw (framed-record id) (f.booked.begun id);
    begun_before = λ id. rw (framed-record id, s.book) (f.booked.begun_before id);
    point_after = λ id. rw (framed-record id, s.book) (f.booked.point_after id);
    acked_at = λ id. rw (framed-record id) (f.booked.acked_at id);
    once = λ id. rw s.book (f.booked.once id);
    in_history = λ id. rw (framed-record id, s.book) (f.booked.in_history id);
    passed = λ id. rw (framed-record id) (f.booked.passed id);
    acked = λ id e is. rw (framed-record id, (s.slots e.stream.node).done e.stream.slot) (f.booked.acked id e (rw (framed-record id) at is));
    replies = rw (txs-same y z s.txs s.book, s.book, s.config) f.booked.replies;
  }
