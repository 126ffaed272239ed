-- An acknowledgement that is noted keeps what holds of a stream.
use Rattle.std.specs.Prelude.{ℕ, ◌≡◌, ◌≢◌, ◌-◌, length}
use Rattle.std.proofs.Common.{arith, sym, ap, ◌∙◌, inl, inr}
use Rattle.std.proofs.lemmas.Bool.{cases_eq}
use Rattle.zeus_base.specs.NodeLaws.{has-with_other}
use Rattle.zeus_base.specs.TableLaws.{nth-put_same, nth-put_other, length-put}
use Rattle.zeus_model.specs.Commit.{no_kept, acked_kept}
use Rattle.replication_safety.specs.StreamState.{StreamState, IsLive, Has, top, kept_at, entry_of}
use Rattle.replication_safety.specs.Moves.{NotesAck}
use Rattle.replication_safety.specs.ReplicationInvariant.{ReplicationInvariant}
use Rattle.replication_safety.proofs.Basics.{agree}
use Rattle.replication_safety.proofs.PreservesReplication.{Grows, WasKept, PreservesKept, PreservesReplication, carried}
use Rattle.replication_safety.proofs.Same.{view-same, acts-live, acts-epoch}
use Rattle.replication_safety.proofs.Appends.{acting-says}

notes-done : (old new : StreamState) (n k a m : ℕ) → NotesAck old new n k a → new.done m ≡ old.done m
notes-done old new n k a m s = agree new.done old.done n s.acts.acts.others.done s.done m

notes-length : (old new : StreamState) (n k a m : ℕ) → NotesAck old new n k a → length (new.kept m) ≡ length (old.kept m)
notes-length old new n k a m s =
    elim (cases_eq m n) [
      | inl same ↦ rw (same, s.kept) (length-put no_kept (old.kept n) (k - old.done n) (acked_kept (kept_at old n k) a) (omega (arith, s.has.0, s.has.1)))
      | inr other ↦ ap length (s.acts.acts.others.kept m other)
    ]

-- noting an acknowledgement leaves the number of each node's next entry
pub notes-top : (old new : StreamState) (n k a m : ℕ) → NotesAck old new n k a → top new m ≡ top old m
notes-top old new n k a m s = omega (arith, notes-done old new n k a m s, notes-length old new n k a m s)

-- if a node keeps an entry after an acknowledgement is noted, then it kept it before
pub notes-has_before : (old new : StreamState) (n k a m j : ℕ) → NotesAck old new n k a → Has new m j → Has old m j
notes-has_before old new n k a m j s h = omega (arith, h.0, h.1, notes-done old new n k a m s, notes-top old new n k a m s)

notes-entry : (old new : StreamState) (n k a : ℕ) → NotesAck old new n k a → kept_at new n k ≡ acked_kept (kept_at old n k) a
notes-entry old new n k a s =
    rw (s.done, s.kept) (nth-put_same no_kept (old.kept n) (k - old.done n) (acked_kept (kept_at old n k) a))

notes-other_entry : (old new : StreamState) (n k a j : ℕ) → NotesAck old new n k a → Has old n j → j ≢ k → kept_at new n j ≡ kept_at old n j
notes-other_entry old new n k a j s h other =
    rw (s.done, s.kept) (nth-put_other no_kept (old.kept n) (k - old.done n) (j - old.done n) (acked_kept (kept_at old n k) a) (λ e. other (omega (arith, h.0, s.has.0))))

-- the entry has one acknowledgement more, which was sent
notes-kept_here : (old new : StreamState) (n k a j : ℕ) → NotesAck old new n k a → Has old n j → WasKept old new n j
notes-kept_here old new n k a j s h =
    elim (cases_eq j k) [
      | inl same ↦
          let is : kept_at new n j ≡ acked_kept (kept_at old n j) a = rw same (notes-entry old new n k a s) in
          record {
            kept = h;
            same = ap entry_of is;
            acks = λ b noted.
                elim (cases_eq b a) [
                  | inl sender ↦ inr (rw (sender, same) s.sent)
                  | inr another ↦ inl (sym (has-with_other b a (kept_at old n j).acks another) ∙ (rw is at noted))
                ];
          }
      | inr other ↦
          let is : kept_at new n j ≡ kept_at old n j = notes-other_entry old new n k a j s h other in
          record { kept = h; same = ap entry_of is; acks = λ b noted. inl (rw is at noted) }
    ]

notes-kept : (old new : StreamState) (n k a m j : ℕ) → NotesAck old new n k a → Has old m j → WasKept old new m j
notes-kept old new n k a m j s h =
    elim (cases_eq m n) [
      | inl same ↦ rw same (notes-kept_here old new n k a j s (rw same at h))
      | inr other ↦
          let is : kept_at new m j ≡ kept_at old m j = rw (s.acts.acts.others.done m other, s.acts.acts.others.kept m other) in
          record { kept = h; same = ap entry_of is; acks = λ b noted. inl (rw is at noted) }
    ]

-- noting an acknowledgement takes nothing back
pub grows_NotesAck : (old new : StreamState) (n k a : ℕ) → NotesAck old new n k a → Grows old new
grows_NotesAck old new n k a s =
    let home : new.home ≡ old.home = s.acts.acts.setting.home in
    record {
      home = home;
      view = λ e _. view-same old new e s.acts.acts.setting;
      live = λ m. acts-live old new n m s.acts.acts;
      epoch = λ m. omega (arith, acts-epoch old new n m s.acts.acts);
      done = λ m. omega (arith, notes-done old new n k a m s);
      top = λ m. omega (arith, notes-top old new n k a m s);
      entry = λ j above below.
          let done : new.done new.home ≡ old.done old.home = rw home (notes-done old new n k a old.home s) in
          let h : Has old old.home j = (omega arith, below) in
          rw home (notes-kept old new n k a old.home j s h).same;
      stay = s.acts.sends.stay;
    }

notes-keeps : (old new : StreamState) (passed n k a : ℕ) → ReplicationInvariant old passed → NotesAck old new n k a → PreservesKept old new passed passed
notes-keeps old new passed n k a r s =
    let home : new.home ≡ old.home = s.acts.acts.setting.home in
    record {
      rises = omega arith;
      most = λ m. omega (arith, notes-done old new n k a m s, r.most m);
      known = (r.known.0, notes-done old new n k a r.known.0 s ∙ r.known.1);
      own_first = λ live.
          let before : IsLive old old.home = acts-live old new n old.home s.acts.acts (rw home at live) in
          r.own_first before ∙ sym (notes-done old new n k a old.home s) ∙ sym (ap new.done home);
      committed = rw home (omega (arith, r.committed, notes-top old new n k a old.home s));
      sizes = λ m. omega (arith, r.sizes m, notes-length old new n k a m s);
      kept = λ m j h. inl (notes-kept old new n k a m j s (notes-has_before old new n k a m j s h));
      first = λ from to e j d g x m above below. absurd (omega arith);
    }

notes-preserves : (old new : StreamState) (passed n k a : ℕ) → ReplicationInvariant old passed → NotesAck old new n k a → PreservesReplication old new passed passed
notes-preserves old new passed n k a r s =
    record {
      grows = grows_NotesAck old new n k a s;
      keeps = notes-keeps old new passed n k a r s;
      says = acting-says old new passed passed n r s.acts;
    }

-- if the replication invariant holds, then it holds after an acknowledgement is noted
pub keeps_NotesAck : (old new : StreamState) (passed n k a : ℕ) → ReplicationInvariant old passed → NotesAck old new n k a → ReplicationInvariant new passed
keeps_NotesAck old new passed n k a r s = carried old new passed passed r (notes-preserves old new passed n k a r s)
