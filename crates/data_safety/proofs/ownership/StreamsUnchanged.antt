-- Moves that leave what the nodes keep of the streams, but for acknowledgements.
use Rattle.std.specs.Prelude.{ℕ, ◌≡◌, ◌-◌, ◌<◌, List, [], length}
use Rattle.std.proofs.Common.{arith, refl, sym, ap, ◌∙◌, inl, inr, le_refl}
use Rattle.zeus_base.specs.declared.order.Stream.{Stream}
use Rattle.zeus_packet.specs.declared.write.Write.{Write}
use Rattle.zeus_model.specs.Tables.{nth}
use Rattle.zeus_model.specs.State.{Node, Slot, StreamLog, no_slot, no_log, slot, log}
use Rattle.zeus_model.specs.Commit.{no_kept, no_pending}
use Rattle.zeus_model.specs.declared.state.Kept.{Kept}
use Rattle.zeus_model.specs.declared.state.Pending.{Pending}
use Rattle.machine_moves.specs.SystemState.{SystemState}
use Rattle.machine_moves.specs.Move.{own_kept}
use Rattle.replication_safety.specs.StreamState.{StreamState, Entry, Stores, In, Has, IsAlive, end, kept_at, entry_of}
use Rattle.replication_safety.specs.Moves as moves
use Rattle.replication_safety.specs.ReplicationInvariant.{ReplicationInvariant}
use Rattle.replication_safety.proofs.Acks.{keeps_NotesAck}
use Rattle.replication_safety.proofs.Alive.{alive_NewView, alive_Stops, alive_Installs, alive_ReportsItself, alive_Hears, alive_Tells, alive_Raises, alive_PassesFirst, alive_NotesAck, alive_StoresNext, alive_Commits}
use Rattle.replication_safety.proofs.Appends.{keeps_Commits, keeps_StoresNext}
use Rattle.replication_safety.proofs.Basics.{silent-only}
use Rattle.replication_safety.proofs.Drops.{keeps_Raises}
use Rattle.replication_safety.proofs.Entries.{tells-repeats}
use Rattle.replication_safety.proofs.Letters.{keeps_Tells}
use Rattle.replication_safety.proofs.Reports.{keeps_ReportsItself, keeps_Hears}
use Rattle.replication_safety.proofs.Views.{keeps_Stops, keeps_Installs, keeps_NewView}
use Rattle.invariants.specs.Streams.{stream_state}
use Rattle.invariants.proofs.StreamFrames.{stream-home}
use Rattle.invariants.proofs.StreamSeen.{Seen, viewed, stopped, installed, told, reports_itself, heard, committed_by, stored_next, raised, noted, passed_first, own_done_is, own_kept_is, log_done_is, log_kept_is}
use Rattle.invariants.proofs.ObjectSeen.{same_or_not}
use Rattle.data_safety.proofs.Consequences.{nth-kept, own-length}

-- ---- streams

-- where no node learns of a passed entry, what holds of the stream holds for the same count
pub still-replication : (old new : StreamState) (passed : ℕ) → ReplicationInvariant old passed → ((m : ℕ) → new.done m ≡ old.done m) → Seen old new passed → ReplicationInvariant new passed
still-replication old new passed r still (viewed set v) = keeps_NewView old new passed set r v
still-replication old new passed r still (stopped n s) = keeps_Stops old new passed n r s
still-replication old new passed r still (installed n e i) = keeps_Installs old new passed n e r i
still-replication old new passed r still (told n t) = keeps_Tells old new passed n r t
still-replication old new passed r still (reports_itself n p) = keeps_ReportsItself old new passed n r p
still-replication old new passed r still (heard n m h) = keeps_Hears old new passed n m r h
still-replication old new passed r still (committed_by x c) = keeps_Commits old new passed x r c
still-replication old new passed r still (stored_next n x s) = keeps_StoresNext old new passed n x r s
still-replication old new passed r still (raised n d s) = keeps_Raises old new passed n d r s
still-replication old new passed r still (noted n k a s) = keeps_NotesAck old new passed n k a r s
still-replication old new passed r still (passed_first n s) = absurd (omega (arith, still n, s.done))

-- and what can still pass could before
pub still-alive : (old new : StreamState) (passed k : ℕ) → ReplicationInvariant old passed → ((m : ℕ) → new.done m ≡ old.done m) → end new ≡ end old → Seen old new passed → IsAlive new passed k → IsAlive old passed k
unfolding IsAlive
still-alive old new passed k r still ends (viewed set v) alive = alive_NewView old new passed passed k set v (le_refl passed) alive
still-alive old new passed k r still ends (stopped n s) alive = alive_Stops old new passed passed k n s (le_refl passed) alive
still-alive old new passed k r still ends (installed n e i) alive = alive_Installs old new passed passed k n e i (le_refl passed) alive
still-alive old new passed k r still ends (told n t) alive = alive_Tells old new passed passed k n t (le_refl passed) alive
still-alive old new passed k r still ends (reports_itself n p) alive = alive_ReportsItself old new passed passed k n p (le_refl passed) alive
still-alive old new passed k r still ends (heard n m h) alive = alive_Hears old new passed passed k n m h (le_refl passed) alive
still-alive old new passed k r still ends (committed_by x c) alive = elim (alive_Commits old new passed passed k x c (le_refl passed) alive) [
  | inl before ↦ before
  | inr now ↦ absurd (omega (arith, now, ends, alive.1))
]
still-alive old new passed k r still ends (stored_next n x s) alive = alive_StoresNext old new passed passed k n x r s (le_refl passed) alive
still-alive old new passed k r still ends (raised n d s) alive = alive_Raises old new passed passed k n d s (le_refl passed) alive
still-alive old new passed k r still ends (noted n j a s) alive = alive_NotesAck old new passed passed k n j a s (le_refl passed) alive
still-alive old new passed k r still ends (passed_first n s) alive = alive_PassesFirst old new passed passed k n s (le_refl passed) alive

-- the entry stood in a letter before
abbrev pub WasSent : StreamState → ℕ → Entry → Type 0
WasSent l k x = (sender receiver epoch done : ℕ) × In (Stores sender receiver epoch k done x) l.letters

silent-sent : (old new : StreamState) (from to e k d : ℕ) (x : Entry) → moves.Sends old new moves.nothing → In (Stores from to e k d x) new.letters → WasSent old k x
silent-sent old new from to e k d x s i = (from, to, e, d, silent-only old new (Stores from to e k d x) s i)

-- a letter with an entry that has passed repeats an earlier one
pub still-sent : (old new : StreamState) (passed from to e k d : ℕ) (x : Entry) → ReplicationInvariant old passed → Seen old new passed → In (Stores from to e k d x) new.letters → k < passed → WasSent old k x
still-sent old new passed from to e k d x r (viewed set v) i below = silent-sent old new from to e k d x v.sends i
still-sent old new passed from to e k d x r (stopped n s) i below = silent-sent old new from to e k d x s.sends i
still-sent old new passed from to e k d x r (installed n f s) i below = silent-sent old new from to e k d x s.sends i
still-sent old new passed from to e k d x r (told n t) i below = tells-repeats old new passed n from to e k d x r t i below
still-sent old new passed from to e k d x r (reports_itself n p) i below = silent-sent old new from to e k d x p.sends i
still-sent old new passed from to e k d x r (heard n m h) i below = silent-sent old new from to e k d x h.sends i
still-sent old new passed from to e k d x r (committed_by z c) i below = silent-sent old new from to e k d x c.acts.sends i
still-sent old new passed from to e k d x r (stored_next n z s) i below = silent-sent old new from to e k d x s.acts.sends i
still-sent old new passed from to e k d x r (raised n f s) i below = silent-sent old new from to e k d x s.acts.sends i
still-sent old new passed from to e k d x r (noted n j a s) i below = silent-sent old new from to e k d x s.acts.sends i
still-sent old new passed from to e k d x r (passed_first n s) i below = silent-sent old new from to e k d x s.acts.sends i

-- ---- rows

-- a pending entry that is the same but for its acknowledgements
pub record IsSamePending (before after : Pending) : Type 0 where
  pub id : after.id ≡ before.id
  pub reply : after.reply ≡ before.reply
  pub named : after.named ≡ before.named
  pub followers : after.followers ≡ before.followers
  pub writes : after.writes ≡ before.writes

-- a pending entry is the same as itself
pub same-pending : (p : Pending) → IsSamePending p p
same-pending p = record { id = refl; reply = refl; named = refl; followers = refl; writes = refl }

-- a node whose slots are the same but for acknowledgements
pub record SameSlots (before after : Node) : Type 0 where
  pub current : (s : ℕ) → (slot after s).current ≡ (slot before s).current
  pub done : (s : ℕ) → (slot after s).done ≡ (slot before s).done
  pub count : (s : ℕ) → length (slot after s).pending ≡ length (slot before s).pending
  pub pending : (s i : ℕ) → IsSamePending (nth no_pending (slot before s).pending i) (nth no_pending (slot after s).pending i)

-- a node whose slots and logs are the same but for acknowledgements
pub record SameRows (before after : Node) : Type 0 where
  pub current : (s : ℕ) → (slot after s).current ≡ (slot before s).current
  pub done : (s : ℕ) → (slot after s).done ≡ (slot before s).done
  pub count : (s : ℕ) → length (slot after s).pending ≡ length (slot before s).pending
  pub pending : (s i : ℕ) → IsSamePending (nth no_pending (slot before s).pending i) (nth no_pending (slot after s).pending i)
  pub log_done : (t : Stream) → (log after t).done ≡ (log before t).done
  pub log_count : (t : Stream) → length (log after t).kept ≡ length (log before t).kept
  pub log_kept : (t : Stream) (i : ℕ) → entry_of (nth no_kept (log after t).kept i) ≡ entry_of (nth no_kept (log before t).kept i)

-- if a node keeps its streams but for acknowledgements, then so does each of its slots
pub same-slots : (before after : Node) → SameRows before after → SameSlots before after
same-slots before after r = record { current = r.current; done = r.done; count = r.count; pending = r.pending }

-- if a node keeps its slots and logs, then it keeps its streams
pub same-rows : (before after : Node) → after.slots ≡ before.slots → after.logs ≡ before.logs → SameRows before after
same-rows before after slots logs =
    record {
      current = λ s. ap (λ (z : List Slot). (nth no_slot z s).current) slots;
      done = λ s. ap (λ (z : List Slot). (nth no_slot z s).done) slots;
      count = λ s. ap (λ (z : List Slot). length (nth no_slot z s).pending) slots;
      pending = λ s i. rw slots (same-pending (nth no_pending (slot before s).pending i));
      log_done = λ t. ap (λ (z : List (List StreamLog)). (nth no_log (nth [] z t.node) t.slot).done) logs;
      log_count = λ t. ap (λ (z : List (List StreamLog)). length (nth no_log (nth [] z t.node) t.slot).kept) logs;
      log_kept = λ t i. ap (λ (z : List (List StreamLog)). entry_of (nth no_kept (nth no_log (nth [] z t.node) t.slot).kept i)) logs;
    }

module _ (old new : SystemState) (rows : (n : ℕ) → SameRows (old.node n) (new.node n)) where
  -- if nodes keep their streams but for acknowledgements, then the count of what has passed stays
  pub rows-done : (t : Stream) (m : ℕ) → (stream_state new t).done m ≡ (stream_state old t).done m
  rows-done t m = elim (same_or_not m t.node) [
    | inl own ↦ own_done_is new t m own ∙ (rows m).done t.slot ∙ sym (own_done_is old t m own)
    | inr other ↦ log_done_is new t m other ∙ (rows m).log_done t ∙ sym (log_done_is old t m other)
  ]

  -- if nodes keep their streams but for acknowledgements, then a node has as many entries of each as before
  pub rows-count : (t : Stream) (m : ℕ) → length ((stream_state new t).kept m) ≡ length ((stream_state old t).kept m)
  rows-count t m = elim (same_or_not m t.node) [
    | inl own ↦
        ap (λ (ks : List Kept). length ks) (own_kept_is new t m own) ∙ own-length (new.node m) t.slot ∙ (rows m).count t.slot
        ∙ sym (own-length (old.node m) t.slot) ∙ sym (ap (λ (ks : List Kept). length ks) (own_kept_is old t m own))
    | inr other ↦
        ap (λ (ks : List Kept). length ks) (log_kept_is new t m other) ∙ (rows m).log_count t ∙ sym (ap (λ (ks : List Kept). length ks) (log_kept_is old t m other))
  ]

  entry_from : List ℕ → List Write → Entry
  entry_from followers writes = record { followers = followers; writes = writes }

  own-entry : (m s i : ℕ) → entry_of (nth no_kept (own_kept (new.node m) s) i) ≡ entry_of (nth no_kept (own_kept (old.node m) s) i)
  unfolding own_kept entry_from
  own-entry m s i =
      let p = (rows m).pending s i in
      ap entry_of (nth-kept (slot (new.node m) s).pending i)
      ∙ ap (λ (f : List ℕ). entry_from f (nth no_pending (slot (new.node m) s).pending i).writes) p.followers
      ∙ ap (λ (w : List Write). entry_from (nth no_pending (slot (old.node m) s).pending i).followers w) p.writes
      ∙ sym (ap entry_of (nth-kept (slot (old.node m) s).pending i))

  -- if nodes keep their streams but for acknowledgements, then each entry says what it said
  pub rows-kept : (t : Stream) (m i : ℕ) → entry_of (nth no_kept ((stream_state new t).kept m) i) ≡ entry_of (nth no_kept ((stream_state old t).kept m) i)
  rows-kept t m i = elim (same_or_not m t.node) [
    | inl own ↦
        ap (λ (ks : List Kept). entry_of (nth no_kept ks i)) (own_kept_is new t m own) ∙ own-entry m t.slot i
        ∙ sym (ap (λ (ks : List Kept). entry_of (nth no_kept ks i)) (own_kept_is old t m own))
    | inr other ↦
        ap (λ (ks : List Kept). entry_of (nth no_kept ks i)) (log_kept_is new t m other) ∙ (rows m).log_kept t i
        ∙ sym (ap (λ (ks : List Kept). entry_of (nth no_kept ks i)) (log_kept_is old t m other))
  ]

  -- if nodes keep their streams but for acknowledgements, then the end of each stays
  pub rows-end : (t : Stream) → end (stream_state new t) ≡ end (stream_state old t)
  rows-end t = rw (stream-home new t, stream-home old t, rows-done t t.node, rows-count t t.node) refl

  -- an entry that a node has after such a move it had before
  pub rows-had : (t : Stream) (m k : ℕ) → Has (stream_state new t) m k → Has (stream_state old t) m k
  rows-had t m k h = (omega (arith, rows-done t m, h.0), omega (arith, rows-done t m, rows-count t m, h.1))

  -- an entry that a node had before such a move it still has
  pub rows-has : (t : Stream) (m k : ℕ) → Has (stream_state old t) m k → Has (stream_state new t) m k
  rows-has t m k h = (omega (arith, rows-done t m, h.0), omega (arith, rows-done t m, rows-count t m, h.1))

  -- the entry of a number that a node has says what it said before such a move
  pub rows-entry : (t : Stream) (m k : ℕ) → entry_of (kept_at (stream_state new t) m k) ≡ entry_of (kept_at (stream_state old t) m k)
  rows-entry t m k = rows-kept t m (k - (stream_state new t).done m) ∙ ap (λ (d : ℕ). entry_of (nth no_kept ((stream_state old t).kept m) (k - d))) (rows-done t m)
