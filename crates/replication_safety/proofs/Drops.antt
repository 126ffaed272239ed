-- Acknowledgements that are noted, and entries that pass or are known to have passed, keep what holds of a stream.
use Rattle.std.specs.Prelude.{ℕ, ◌≡◌, ◌≢◌, ◌+◌, ◌-◌, ◌<◌, ◌≤◌, length, drop}
use Rattle.std.proofs.Common.{arith, sym, ap, ◌∙◌, inl, inr}
use Rattle.std.proofs.lemmas.Bool.{cases_eq}
use Rattle.std.proofs.lemmas.List.{length-drop}
use Rattle.zeus_model.specs.Tables.{nth}
use Rattle.zeus_base.specs.TableLaws.{nth-drop}
use Rattle.zeus_model.specs.Commit.{no_kept}
use Rattle.replication_safety.specs.StreamState.{StreamState, IsLive, Has, top, kept_at, entry_of}
use Rattle.replication_safety.specs.Moves.{ActsOnKept, Raises}
use Rattle.replication_safety.specs.ReplicationInvariant.{ReplicationInvariant}
use Rattle.replication_safety.proofs.PreservesReplication.{Grows, WasKept, PreservesKept, PreservesReplication, carried}
use Rattle.replication_safety.proofs.Same.{view-same, acts-live, acts-epoch}
use Rattle.replication_safety.proofs.Appends.{acting-says}

-- ---- a node knows that more entries have passed, and drops them

pub record Drops (old new : StreamState) (n d : ℕ) : Type 0 where
  pub acts : ActsOnKept old new n
  pub above : old.done n < d
  pub done : new.done n ≡ d
  pub kept : new.kept n ≡ drop (d - old.done n) (old.kept n)

drops-length : (old new : StreamState) (n d : ℕ) → Drops old new n d → length (new.kept n) ≡ length (old.kept n) - (d - old.done n)
drops-length old new n d s = ap length s.kept ∙ length-drop (d - old.done n) (old.kept n)

-- if a node drops the entries below a count, then no node's count of passed entries falls
pub drops-done : (old new : StreamState) (n d m : ℕ) → Drops old new n d → old.done m ≤ new.done m
drops-done old new n d m s =
    elim (cases_eq m n) [
      | inl same ↦ rw same (omega (arith, s.done, s.above))
      | inr other ↦ omega (arith, s.acts.acts.others.done m other)
    ]

-- if a node drops entries, then the number of the next entry stays at each other node
pub drops-top_other : (old new : StreamState) (n d m : ℕ) → Drops old new n d → m ≢ n → top new m ≡ top old m
drops-top_other old new n d m s other = rw (s.acts.acts.others.done m other, s.acts.acts.others.kept m other)

-- if a node drops entries, then the number of no node's next entry falls
pub drops-top : (old new : StreamState) (n d m : ℕ) → Drops old new n d → top old m ≤ top new m
drops-top old new n d m s =
    elim (cases_eq m n) [
      | inl same ↦ rw same (omega (arith, s.done, s.above, drops-length old new n d s))
      | inr other ↦ omega (arith, drops-top_other old new n d m s other)
    ]

drops-has_here : (old new : StreamState) (n d k : ℕ) → Drops old new n d → Has new n k → Has old n k × (d ≤ k)
drops-has_here old new n d k s h = omega (arith, s.done, s.above, drops-length old new n d s, h.0, h.1)

-- if a node keeps an entry after entries are dropped, then it kept it before
pub drops-has_before : (old new : StreamState) (n d m k : ℕ) → Drops old new n d → Has new m k → Has old m k
drops-has_before old new n d m k s h =
    elim (cases_eq m n) [
      | inl same ↦ rw same (drops-has_here old new n d k s (rw same at h)).0
      | inr other ↦ omega (arith, h.0, h.1, drops-top_other old new n d m s other, s.acts.acts.others.done m other)
    ]

drops-kept_here : (old new : StreamState) (n d k : ℕ) → Drops old new n d → Has new n k → kept_at new n k ≡ kept_at old n k
drops-kept_here old new n d k s h =
    let place : (k - d) + (d - old.done n) ≡ k - old.done n = omega (arith, s.done, s.above, h.0) in
    rw (s.done, s.kept) (nth-drop no_kept (d - old.done n) (old.kept n) (k - d) ∙ ap (λ (i : ℕ). nth no_kept (old.kept n) i) place)

-- if a node keeps an entry after entries are dropped, then it is the same as before
pub drops-kept_at : (old new : StreamState) (n d m k : ℕ) → Drops old new n d → Has new m k → kept_at new m k ≡ kept_at old m k
drops-kept_at old new n d m k s h =
    elim (cases_eq m n) [
      | inl same ↦ rw same (drops-kept_here old new n d k s (rw same at h))
      | inr other ↦ rw (s.acts.acts.others.done m other, s.acts.acts.others.kept m other)
    ]

-- if a node keeps an entry after entries are dropped, then it kept the same before, and each acknowledgement is an old or a sent one
pub drops-kept : (old new : StreamState) (n d m k : ℕ) → Drops old new n d → Has new m k → WasKept old new m k
drops-kept old new n d m k s h =
    record {
      kept = drops-has_before old new n d m k s h;
      same = ap entry_of (drops-kept_at old new n d m k s h);
      acks = λ b is. inl (rw (drops-kept_at old new n d m k s h) at is);
    }

-- if a node drops entries, then no node keeps more than before
pub drops-sizes : (old new : StreamState) (n d m : ℕ) → Drops old new n d → length (new.kept m) ≤ length (old.kept m)
drops-sizes old new n d m s =
    elim (cases_eq m n) [
      | inl same ↦ rw same (omega (arith, drops-length old new n d s))
      | inr other ↦ rw (s.acts.acts.others.kept m other) (omega arith)
    ]

-- dropping entries takes nothing back
pub drops-grows : (old new : StreamState) (n d : ℕ) → Drops old new n d → Grows old new
drops-grows old new n d s =
    let home : new.home ≡ old.home = s.acts.acts.setting.home in
    record {
      home = home;
      view = λ e _. view-same old new e s.acts.acts.setting;
      live = λ m. acts-live old new n m s.acts.acts;
      epoch = λ m. omega (arith, acts-epoch old new n m s.acts.acts);
      done = λ m. drops-done old new n d m s;
      top = λ m. drops-top old new n d m s;
      entry = λ k above below.
          let same : new.done new.home ≡ new.done old.home = ap new.done home in
          let h : Has new old.home k = (omega arith, omega (arith, drops-top old new n d old.home s)) in
          rw home (ap entry_of (drops-kept_at old new n d old.home k s h));
      stay = s.acts.sends.stay;
    }

-- ---- a node learns what has passed

-- a node that learns how many entries have passed drops those
pub raises-drops : (old new : StreamState) (passed n d : ℕ) → Raises old new passed n d → Drops old new n d
raises-drops old new passed n d s = record { acts = s.acts; above = s.above; done = s.done; kept = s.kept }

raises-most : (old new : StreamState) (passed n d m : ℕ) → ReplicationInvariant old passed → Raises old new passed n d → new.done m ≤ passed
raises-most old new passed n d m r s =
    elim (cases_eq m n) [
      | inl same ↦ rw same (omega (arith, s.done, s.known))
      | inr other ↦ omega (arith, s.acts.acts.others.done m other, r.most m)
    ]

-- who knew the most is another
raises-known : (old new : StreamState) (passed n d : ℕ) → ReplicationInvariant old passed → Raises old new passed n d → (m : ℕ) × (new.done m ≡ passed)
raises-known old new passed n d r s =
    let other : r.known.0 ≢ n = λ same. let is : old.done n ≡ passed = sym (ap old.done same) ∙ r.known.1 in omega (arith, s.above, s.known) in
    (r.known.0, s.acts.acts.others.done r.known.0 other ∙ r.known.1)

raises-own_first : (old new : StreamState) (passed n d : ℕ) → ReplicationInvariant old passed → Raises old new passed n d → IsLive new new.home → passed ≡ new.done new.home
raises-own_first old new passed n d r s live =
    let home : new.home ≡ old.home = s.acts.acts.setting.home in
    let before : IsLive old old.home = acts-live old new n old.home s.acts.acts (rw home at live) in
    let stays : new.done old.home ≡ old.done old.home = s.acts.acts.others.done old.home (λ same. s.foreign (sym same)) in
    r.own_first before ∙ sym stays ∙ sym (ap new.done home)

raises-keeps : (old new : StreamState) (passed n d : ℕ) → ReplicationInvariant old passed → Raises old new passed n d → PreservesKept old new passed passed
raises-keeps old new passed n d r s =
    let g : Drops old new n d = raises-drops old new passed n d s in
    record {
      rises = omega arith;
      most = λ m. raises-most old new passed n d m r s;
      known = raises-known old new passed n d r s;
      own_first = raises-own_first old new passed n d r s;
      committed = rw s.acts.acts.setting.home (omega (arith, r.committed, drops-top old new n d old.home g));
      sizes = λ m. omega (arith, r.sizes m, drops-sizes old new n d m g);
      kept = λ m k h. inl (drops-kept old new n d m k g h);
      first = λ from to e k f a x m above below. absurd (omega arith);
    }

-- learning how many entries have passed takes nothing back
pub grows_Raises : (old new : StreamState) (passed n d : ℕ) → Raises old new passed n d → Grows old new
grows_Raises old new passed n d s = drops-grows old new n d (raises-drops old new passed n d s)

raises-preserves : (old new : StreamState) (passed n d : ℕ) → ReplicationInvariant old passed → Raises old new passed n d → PreservesReplication old new passed passed
raises-preserves old new passed n d r s =
    record {
      grows = grows_Raises old new passed n d s;
      keeps = raises-keeps old new passed n d r s;
      says = acting-says old new passed passed n r s.acts;
    }

-- if the replication invariant holds, then it holds after a node learns how many entries have passed
pub keeps_Raises : (old new : StreamState) (passed n d : ℕ) → ReplicationInvariant old passed → Raises old new passed n d → ReplicationInvariant new passed
keeps_Raises old new passed n d r s = carried old new passed passed r (raises-preserves old new passed n d r s)
