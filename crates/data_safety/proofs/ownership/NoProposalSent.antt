-- Stops, views, letters, gathers, reports and acknowledgements keep what holds of a run.
use Rattle.std.specs.Prelude.{ℕ, ◌≡◌, ◌<◌, true, false, List, [], ◌∷◌, ◌++◌, length, Option, Some}
use Rattle.std.proofs.Common.{refl, inl, inr}
use Rattle.std.proofs.lemmas.Bool.{cases_lt}
use Rattle.zeus_base.specs.Nodes.{has, with_node}
use Rattle.zeus_base.specs.TableLaws.{nth-put_same, nth-put_other, length-put, nth-append, nth-past}
use Rattle.zeus_base.specs.declared.order.Stamp.{Stamp}
use Rattle.zeus_base.specs.declared.order.Stream.{Stream}
use Rattle.zeus_packet.specs.declared.place.Place.{Place}
use Rattle.zeus_packet.specs.declared.place.Proposal.{Proposal}
use Rattle.zeus_packet.specs.declared.write.Content.{Content}
use Rattle.zeus_model.specs.Tables.{nth, put}
use Rattle.zeus_model.specs.State.{Node, Slot, StreamLog, entry, slot, log, with_slot, with_log, with_gather}
use Rattle.zeus_model.specs.Commit.{no_kept, no_pending, acked_kept, acked_pending}
use Rattle.zeus_model.specs.declared.state.Gather.{Gather}
use Rattle.zeus_model.specs.declared.state.Kept.{Kept}
use Rattle.zeus_model.specs.declared.state.Pending.{Pending}
use Rattle.machine_moves.specs.SystemState.{SystemState, NewView, nothing, view}
use Rattle.machine_moves.specs.Move.{Move, IsTellable}
use Rattle.ownership_safety.specs.Object.{Acknowledges, Validates}
use Rattle.replication_safety.specs.StreamState.{entry_of}
use Rattle.invariants.specs.Objects.{object}
use Rattle.invariants.proofs.StreamKeeps.{sees_move as stream_sees_move}
use Rattle.invariants.proofs.StreamFrames.{with_slot-same, with_slot-other, with_log-same, with_log-other}
use Rattle.invariants.proofs.StreamSeen.{stream_cases}
use Rattle.invariants.proofs.ObjectKeeps.{sees_move as object_sees_move}
use Rattle.invariants.proofs.ObjectMoves.{same_entry_as}
use Rattle.invariants.proofs.ObjectSeen.{same_or_not, installed_node}
use Rattle.invariants.proofs.ObjectSteps.{tellable-says}
use Rattle.data_safety.specs.RunState.{RunState, Witness}
use Rattle.data_safety.specs.DataInvariant.{DataInvariant}
use Rattle.data_safety.proofs.Consequences.{numbered}
use Rattle.data_safety.proofs.ownership.StreamsUnchanged.{SameRows, IsSamePending, same-rows, same-slots, same-pending, rows-done, rows-end}
use Rattle.data_safety.proofs.ownership.OwnershipFrame.{IsFramed}
use Rattle.data_safety.proofs.ownership.OwnershipMoves.{MovesAlone, KeepsData, still-ownership, place-same, given-before, framed-invariant, quiet-move}

-- a change of a node that leaves its tables but for gathers, and sends nothing
silent-move : (y z : RunState) (u : Witness) (f : DataInvariant y u) (n : ℕ) (after : Node) → MovesAlone y z n after nothing → KeepsData (y.system.node n) after → DataInvariant z u
silent-move y z u f n after alone keeps = quiet-move y z u f n after nothing alone keeps (λ x l from to e p k none i. none)

-- if a node stops, then the invariant stays
pub stops-invariant : (y z : RunState) (u : Witness) (f : DataInvariant y u) (n : ℕ) → MovesAlone y z n (record (y.system.node n) { stopped = true }) nothing
    → DataInvariant z u
stops-invariant y z u f n alone =
    silent-move y z u f n (record (y.system.node n) { stopped = true }) alone
    record { me = refl; copies = refl; entries = refl; rows = same-rows (y.system.node n) (record (y.system.node n) { stopped = true }) refl refl }

-- if a node installs a later epoch, then the invariant stays
pub installs-invariant : (y z : RunState) (u : Witness) (f : DataInvariant y u) (n e : ℕ) → MovesAlone y z n (installed_node y.system n e) nothing
    → DataInvariant z u
installs-invariant y z u f n e alone =
    silent-move y z u f n (installed_node y.system n e) alone
    record { me = refl; copies = refl; entries = refl; rows = same-rows (y.system.node n) (installed_node y.system n e) refl refl }

-- if a node's gather changes, then the invariant stays
pub gathers-invariant : (y z : RunState) (u : Witness) (f : DataInvariant y u) (n x : ℕ) (g : Option Gather) → MovesAlone y z n (with_gather (y.system.node n) x g) nothing
    → DataInvariant z u
gathers-invariant y z u f n x g alone =
    silent-move y z u f n (with_gather (y.system.node n) x g) alone
    record { me = refl; copies = refl; entries = refl; rows = same-rows (y.system.node n) (with_gather (y.system.node n) x g) refl refl }

-- if a node notes that one has reported, then the invariant stays
pub reports-invariant : (y z : RunState) (u : Witness) (f : DataInvariant y u) (n m : ℕ) → MovesAlone y z n (record (y.system.node n) { reported = with_node m (y.system.node n).reported }) nothing
    → DataInvariant z u
reports-invariant y z u f n m alone =
    silent-move y z u f n (record (y.system.node n) { reported = with_node m (y.system.node n).reported }) alone
    record { me = refl; copies = refl; entries = refl; rows = same-rows (y.system.node n) (record (y.system.node n) { reported = with_node m (y.system.node n).reported }) refl refl }

not_validates : (n to e : ℕ) (p : Proposal) (k : Content) (t : Stamp) (place : Place) → Acknowledges n to e p (Some k) ≡ Validates t place → ⊥
not_validates n to e p k t place is = cc

-- if a node sends letters that it may send without a change of its state, then the invariant stays
pub tells-invariant : (y z : RunState) (u : Witness) (f : DataInvariant y u) (n : ℕ) → MovesAlone y z n (y.system.node n) (IsTellable (y.system.node n))
    → DataInvariant z u
tells-invariant y z u f n alone =
    quiet-move y z u f n (y.system.node n) (IsTellable (y.system.node n)) alone
    record { me = refl; copies = refl; entries = refl; rows = same-rows (y.system.node n) (y.system.node n) refl refl }
    (λ x l from to e p k tellable i.
    not_validates from to e p k (entry (y.system.node n) x).stamp (entry (y.system.node n) x).place
    (tellable-says (y.system.node n) x l (Acknowledges from to e p (Some k)) tellable i))

-- ---- acknowledgements of entries

pending-noted : (ps : List Pending) (i j from : ℕ) → IsSamePending (nth no_pending ps j) (nth no_pending (put no_pending ps i (acked_pending (nth no_pending ps i) from)) j)
pending-noted ps i j from = elim (same_or_not i j) [
  | inl same ↦ rw (← same, nth-put_same no_pending ps i (acked_pending (nth no_pending ps i) from)) record { id = refl; reply = refl; named = refl; followers = refl; writes = refl }
  | inr other ↦ rw (nth-put_other no_pending ps i j (acked_pending (nth no_pending ps i) from) other) (same-pending (nth no_pending ps j))
]

kept-noted : (ks : List Kept) (i j from : ℕ) → entry_of (nth no_kept (put no_kept ks i (acked_kept (nth no_kept ks i) from)) j) ≡ entry_of (nth no_kept ks j)
kept-noted ks i j from = elim (same_or_not i j) [
  | inl same ↦ rw (← same, nth-put_same no_kept ks i (acked_kept (nth no_kept ks i) from)) refl
  | inr other ↦ rw (nth-put_other no_kept ks i j (acked_kept (nth no_kept ks i) from) other) refl
]

abbrev noted_slot : Node → ℕ → ℕ → ℕ → Slot
noted_slot n s i from = record {
  current = (slot n s).current;
  done = (slot n s).done;
  pending = put no_pending (slot n s).pending i (acked_pending (nth no_pending (slot n s).pending i) from);
}

abbrev noted_log : Node → Stream → ℕ → ℕ → StreamLog
noted_log n t i from = record {
  done = (log n t).done;
  kept = put no_kept (log n t).kept i (acked_kept (nth no_kept (log n t).kept i) from);
}

own-noted : (n : Node) (s i from : ℕ) → i < length (slot n s).pending → SameRows n (with_slot n s (noted_slot n s i from))
own-noted n s i from inside = record {
  current = λ r. elim (same_or_not s r) [
    | inl same ↦ rw (← same, with_slot-same n s (noted_slot n s i from)) refl
    | inr other ↦ rw (with_slot-other n s r (noted_slot n s i from) other) refl
  ];
  done = λ r. elim (same_or_not s r) [
    | inl same ↦ rw (← same, with_slot-same n s (noted_slot n s i from)) refl
    | inr other ↦ rw (with_slot-other n s r (noted_slot n s i from) other) refl
  ];
  count = λ r. elim (same_or_not s r) [
    | inl same ↦ rw (← same, with_slot-same n s (noted_slot n s i from)) (length-put no_pending (slot n s).pending i (acked_pending (nth no_pending (slot n s).pending i) from) inside)
    | inr other ↦ rw (with_slot-other n s r (noted_slot n s i from) other) refl
  ];
  pending = λ r j. elim (same_or_not s r) [
    | inl same ↦ rw (← same, with_slot-same n s (noted_slot n s i from)) (pending-noted (slot n s).pending i j from)
    | inr other ↦ rw (with_slot-other n s r (noted_slot n s i from) other) (same-pending (nth no_pending (slot n r).pending j))
  ];
  log_done = λ t. refl;
  log_count = λ t. refl;
  log_kept = λ t j. refl;
}

-- if a node notes an acknowledgement of its own stream, then the invariant stays
pub notes_own-invariant : (y z : RunState) (u : Witness) (f : DataInvariant y u) (n s i from : ℕ) → i < length (slot (y.system.node n) s).pending → MovesAlone y z n (with_slot (y.system.node n) s (noted_slot (y.system.node n) s i from)) nothing
    → DataInvariant z u
notes_own-invariant y z u f n s i from inside alone =
    silent-move y z u f n (with_slot (y.system.node n) s (noted_slot (y.system.node n) s i from)) alone
    record { me = refl; copies = refl; entries = refl; rows = own-noted (y.system.node n) s i from inside }

log-noted : (n : Node) (t : Stream) (i from : ℕ) → i < length (log n t).kept → SameRows n (with_log n t (noted_log n t i from))
log-noted n t i from inside = record {
  current = λ r. refl;
  done = λ r. refl;
  count = λ r. refl;
  pending = λ r j. same-pending (nth no_pending (slot n r).pending j);
  log_done = λ r. elim (stream_cases t r) [
    | inl same ↦ rw (← same, with_log-same n t (noted_log n t i from)) refl
    | inr other ↦ rw (with_log-other n t r (noted_log n t i from) other) refl
  ];
  log_count = λ r. elim (stream_cases t r) [
    | inl same ↦ rw (← same, with_log-same n t (noted_log n t i from)) (length-put no_kept (log n t).kept i (acked_kept (nth no_kept (log n t).kept i) from) inside)
    | inr other ↦ rw (with_log-other n t r (noted_log n t i from) other) refl
  ];
  log_kept = λ r j. elim (stream_cases t r) [
    | inl same ↦ rw (← same, with_log-same n t (noted_log n t i from)) (kept-noted (log n t).kept i j from)
    | inr other ↦ rw (with_log-other n t r (noted_log n t i from) other) refl
  ];
}

-- if a node notes an acknowledgement of the stored stream of another node, then the invariant stays
pub notes_kept-invariant : (y z : RunState) (u : Witness) (f : DataInvariant y u) (n i from : ℕ) (t : Stream) → i < length (log (y.system.node n) t).kept → MovesAlone y z n (with_log (y.system.node n) t (noted_log (y.system.node n) t i from)) nothing
    → DataInvariant z u
notes_kept-invariant y z u f n i from t inside alone =
    silent-move y z u f n (with_log (y.system.node n) t (noted_log (y.system.node n) t i from)) alone
    record { me = refl; copies = refl; entries = refl; rows = log-noted (y.system.node n) t i from inside }

-- ---- views

-- a member of the first view stays one when a view is made
first-stays : (y z : SystemState) (set : List ℕ) (n : ℕ) → z.views ≡ y.views ++ set ∷ [] → has n (view y 1) ≡ true → has n (view z 1) ≡ true
unfolding has
first-stays y z set n views h =
    elim (cases_lt 0 (length y.views)) [
      | inl some ↦ rw (views, nth-append [] y.views (set ∷ []) 0 some) h
      | inr none ↦
          let past : nth [] y.views 0 ≡ [] = nth-past [] y.views 0 none in
          let no : false ≡ true = rw past at h in
          absurd cc
    ]

-- if a view is made, then the invariant stays
pub makes_view-invariant : (y z : RunState) (u : Witness) (f : DataInvariant y u) (set : List ℕ) → Move y.system z.system → NewView y.system z.system set
    → z.txs ≡ y.txs → z.book ≡ y.book → DataInvariant z u
makes_view-invariant y z u f set move v txs book =
    framed-invariant y z u u.chain f frame rows move
    (λ x within. inl record { place = place-same y z u u x v.config refl; copies = λ n live. rw (v.nodes n) refl })
    (λ x within. still-ownership (object y.system x) (object z.system x) (u.chain x) (f.ownership x within)
    (λ m. rw (same_entry_as y.system z.system x m v.config (v.nodes m)) ((f.ownership x within).settled m).ver)
    (object_sees_move y.system z.system x (u.chain x) (numbered y u f) (f.ownership x within) move))
    (λ n. rw (v.nodes n) record { owned = λ a i x inside names own. own })
    (λ m x e p k within given last. f.entered.given m x e p k within (given-before y.system z.system x nothing v.sends (λ l from to e2 p2 k2 none i. none) m e p k given) last)
  where
    rows : (n : ℕ) → SameRows (y.system.node n) (z.system.node n)
    rows n = rw (v.nodes n) (same-rows (y.system.node n) (y.system.node n) refl refl)

    frame : IsFramed y z u
    frame = record {
      config = v.config;
      txs = txs;
      book = book;
      live = λ n live. rw (v.nodes n) at live;
      slots = λ n. same-slots (y.system.node n) (z.system.node n) (rows n);
      dones = rows-done y.system z.system rows;
      ends = rows-end y.system z.system rows;
      seen = λ t. stream_sees_move y.system z.system t (u.passed t) (numbered y u f) (f.replication t) move;
      first = λ n h. first-stays y.system z.system set n v.views h;
    }
