-- The letters that a node sends by itself keep what holds of a stream.
use Rattle.std.specs.Prelude.{ℕ, ◌≡◌, ◌≢◌, ◌<◌, ◌≤◌, true, length, ◌⊎◌}
use Rattle.std.proofs.Common.{arith, refl, sym, ap, ◌∙◌, inl, inr}
use Rattle.std.proofs.lemmas.Bool.{cases_eq}
use Rattle.zeus_base.specs.Nodes.{has}
use Rattle.replication_safety.specs.StreamState.{StreamState, Entry, Stores, Stored, Passes, Reports, In, IsView, IsLive, IsOut, Has, HasReported, view, top, kept_at, entry_of, entry}
use Rattle.replication_safety.specs.Moves.{Tells, IsTellable, entry as entry_told, stored as stored_told, passed as passed_told, reported as reported_told}
use Rattle.replication_safety.specs.ReplicationInvariant.{IsViewed, IsCopy, IsWitnessed, ReplicationInvariant}
use Rattle.replication_safety.proofs.Basics.{agree, IsOut-stopped}
use Rattle.replication_safety.proofs.PreservesReplication.{Grows, IsTold, PreservesSaid, PreservesReplication, carried, IsCopy-grows, witness-grows}
use Rattle.replication_safety.proofs.Same.{SameKept, acts-grows, same-kept, same-has, same-top, IsView-same, view-same, quiet-reports, acts-live, acts-epoch, acts-speaks}

-- ---- what may be told

-- a letter with an entry that the node keeps
pub record IsItsEntry (old : StreamState) (n from to e k d : ℕ) (x : Entry) : Type 0 where
  pub sender : from ≡ n
  pub epoch : e ≡ old.epoch n
  pub done : d ≡ old.done n
  pub entry : x ≡ entry_of (kept_at old n k)
  pub kept : Has old n k
  pub may : (n ≡ old.home) ⊎ IsOut old (old.epoch n) old.home
  pub follower : has to x.followers ≡ true

-- if a node may send an entry by itself, then it keeps that entry
pub tellable-entry : (old : StreamState) (n from to e k d : ℕ) (x : Entry) → IsTellable old n (Stores from to e k d x) → IsItsEntry old n from to e k d x
tellable-entry old n from to e k d x (entry_told _ _ h may f m other) =
    record { sender = refl; epoch = refl; done = refl; entry = refl; kept = h; may = may; follower = f }

tellable-stored : (old : StreamState) (n from k : ℕ) → IsTellable old n (Stored from k) → (from ≡ n) × (k < top old n)
tellable-stored old n from k (stored_told _ foreign below) = (refl, below)

tellable-passed : (old : StreamState) (n to d : ℕ) → IsTellable old n (Passes to d) → (d ≤ old.done n) × (to ≢ old.home)
tellable-passed old n to d (passed_told _ _ below foreign) = (below, foreign)

tellable-reported : (old : StreamState) (n from e : ℕ) → IsTellable old n (Reports from e) → (from ≡ n) × (e ≡ old.epoch n) × (has n (old.reported n) ≡ true)
tellable-reported old n from e (reported_told is) = (refl, refl, is)

-- ---- a told entry

-- the stream's own node sends what it keeps, none of which has passed
own-copy : (old : StreamState) (passed to k : ℕ) → ReplicationInvariant old passed → IsLive old old.home → Has old old.home k → has to (entry old k).followers ≡ true
    → IsCopy old passed to k (old.done old.home) (entry old k)
own-copy old passed to k r live h f =
    let first : passed ≡ old.done old.home = r.own_first live in
    let size : length (old.kept old.home) ≤ 16 = r.sizes old.home in
    record {
      follower = f;
      foreign = r.home_foreign k h;
      done_below = h.0;
      near = omega (arith, h.1);
      committed = h.1;
      done_passed = r.most old.home;
      same = λ _. refl;
      safe = λ below. absurd (omega (arith, h.0));
    }

-- another node sends what it stored from such a letter
replay-copy : (old : StreamState) (passed n to k : ℕ) → ReplicationInvariant old passed → n ≢ old.home → Has old n k → has to (kept_at old n k).followers ≡ true
    → IsCopy old passed to k (old.done n) (entry_of (kept_at old n k))
replay-copy old passed n to k r foreign h f =
    let size : length (old.kept n) ≤ 16 = r.sizes n in
    let o = r.from_letters n k h foreign in
    let c : IsCopy old passed n k o.2 (entry_of (kept_at old n k)) = r.copies o.0 n o.1 k o.2 (entry_of (kept_at old n k)) o.3 in
    record {
      follower = f;
      foreign = c.foreign;
      done_below = h.0;
      near = omega (arith, h.1);
      committed = c.committed;
      done_passed = r.most n;
      same = c.same;
      safe = c.safe;
    }

told-copy : (old : StreamState) (passed n to k d : ℕ) (x : Entry) → ReplicationInvariant old passed → IsLive old n → Has old n k → x ≡ entry_of (kept_at old n k) → d ≡ old.done n
    → has to x.followers ≡ true → IsCopy old passed to k d x
told-copy old passed n to k d x r live h is done f =
    let g : has to (kept_at old n k).followers ≡ true = rw (ap (λ (y : Entry). y.followers) is) at f in
    elim (cases_eq n old.home) [
      | inl same ↦
          let own : has to (entry old k).followers ≡ true = rw same at g in
          let c : IsCopy old passed to k (old.done n) (entry_of (kept_at old n k)) = rw same (own-copy old passed to k r (rw same at live) (rw same at h) own) in
          rw (is, done) c
      | inr foreign ↦ rw (is, done) (replay-copy old passed n to k r foreign h g)
    ]

-- ---- a node says what it may

-- if a node sends letters by itself, then each node keeps what it kept
pub tells-kept : (old new : StreamState) (n : ℕ) → Tells old new n → SameKept old new
tells-kept old new n s =
    record {
      home = s.acts.setting.home;
      done = agree new.done old.done n s.acts.others.done s.done;
      kept = agree new.kept old.kept n s.acts.others.kept s.kept;
    }

-- sending letters takes nothing back
pub grows_Tells : (old new : StreamState) (n : ℕ) → Tells old new n → Grows old new
grows_Tells old new n s = acts-grows old new n (tells-kept old new n s) s.acts s.sends.stay

tells-reported : (old new : StreamState) (n m : ℕ) → Tells old new n → new.reported m ≡ old.reported m
tells-reported old new n m s = agree new.reported old.reported n s.acts.others.reported s.reported m

-- who says that it has reported knows it
tells-silent : (old new : StreamState) (n m e : ℕ) → Tells old new n → HasReported new m e → HasReported old m e
tells-silent old new n m e s is =
    elim is [
      | inl sent ↦
          elim (s.sends.only (Reports m e) sent) [
            | inl before ↦ inl before
            | inr now ↦
                let t = tellable-reported old n m e now in
                let knows : has m (old.reported m) ≡ true = rw t.0 t.2 in
                inr (ap old.epoch t.0 ∙ sym t.1, knows)
          ]
      | inr knows ↦ inr (sym (acts-epoch old new n m s.acts) ∙ knows.0, rw (tells-reported old new n m s) at knows.1)
    ]

tells-witnessed : (old new : StreamState) (passed n e k : ℕ) → ReplicationInvariant old passed → Tells old new n → Has old n k → IsView new e → IsOut new e new.home → passed ≤ k → IsWitnessed new e k
tells-witnessed old new passed n e k r s h v out above =
    let before : IsView old e = IsView-same old new e s.acts.setting v in
    let views : view new e ≡ view old e = view-same old new e s.acts.setting in
    let home : new.home ≡ old.home = s.acts.setting.home in
    let left : IsOut old e old.home = cc in
    let foreign : n ≢ old.home = λ here. IsOut-stopped old e old.home r.viewed before left (rw here at s.acts.live) in
    witness-grows old new e k (grows_Tells old new n s) before
    (λ m. same-has old new m k (tells-kept old new n s))
    (λ m _. tells-silent old new n m e s)
    (r.kept_barrier e k n before left above (r.viewed.live n e s.acts.live before) foreign h)

tells-told : (old new : StreamState) (passed n from to e k d : ℕ) (x : Entry) → ReplicationInvariant old passed → Tells old new n → IsItsEntry old n from to e k d x → IsTold new passed to e k d x
tells-told old new passed n from to e k d x r s t =
    record {
      copy = IsCopy-grows old new passed passed to k d x (grows_Tells old new n s) (omega arith) (λ above below. absurd (omega arith))
          (told-copy old passed n to k d x r s.acts.live t.kept t.entry t.done t.follower);
      witnessed = λ f v out above le. tells-witnessed old new passed n f k r s t.kept v out above;
    }

tells-entries : (old new : StreamState) (passed n from to e k d : ℕ) (x : Entry) → ReplicationInvariant old passed → Tells old new n → In (Stores from to e k d x) new.letters
    → In (Stores from to e k d x) old.letters ⊎ IsTold new passed to e k d x
tells-entries old new passed n from to e k d x r s m =
    elim (s.sends.only (Stores from to e k d x) m) [
      | inl before ↦ inl before
      | inr now ↦ inr (tells-told old new passed n from to e k d x r s (tellable-entry old n from to e k d x now))
    ]

tells-stored : (old new : StreamState) (n m k : ℕ) → Tells old new n → In (Stored m k) new.letters → In (Stored m k) old.letters ⊎ (k < top new m)
tells-stored old new n m k s is =
    elim (s.sends.only (Stored m k) is) [
      | inl before ↦ inl before
      | inr now ↦
          let t = tellable-stored old n m k now in
          let below : k < top old m = rw t.0 t.1 in
          inr (omega (arith, same-top old new m (tells-kept old new n s)))
    ]

tells-passed : (old new : StreamState) (passed n to d : ℕ) → ReplicationInvariant old passed → Tells old new n → In (Passes to d) new.letters → In (Passes to d) old.letters ⊎ ((d ≤ passed) × (to ≢ new.home))
tells-passed old new passed n to d r s is =
    elim (s.sends.only (Passes to d) is) [
      | inl before ↦ inl before
      | inr now ↦
          let t = tellable-passed old n to d now in
          inr (omega (arith, t.0, r.most n), λ here. t.1 (here ∙ s.acts.setting.home))
    ]

tells-viewed : (old new : StreamState) (n : ℕ) → IsViewed old → Tells old new n → IsViewed new
tells-viewed old new n v s =
    acts-speaks old new n v s.acts
    (λ from to e k d x m.
    elim (s.sends.only (Stores from to e k d x) m) [
      | inl before ↦ inl before
      | inr now ↦ let t = tellable-entry old n from to e k d x now in inr (rw t.sender s.acts.live, t.epoch ∙ sym (ap old.epoch t.sender))
    ])
    (λ from e m.
    elim (s.sends.only (Reports from e) m) [
      | inl before ↦ inl before
      | inr now ↦ let t = tellable-reported old n from e now in inr (rw t.0 s.acts.live, t.1 ∙ sym (ap old.epoch t.0))
    ])

tells-says : (old new : StreamState) (passed n : ℕ) → ReplicationInvariant old passed → Tells old new n → PreservesSaid old new passed
tells-says old new passed n r s =
    record {
      viewed = tells-viewed old new n r.viewed s;
      entries = λ from to e k d x. tells-entries old new passed n from to e k d x r s;
      stored = λ m k. tells-stored old new n m k s;
      told = λ to d. tells-passed old new passed n to d r s;
      reports = λ m a. quiet-reports old new passed m a r s.sends.stay (acts-live old new n m s.acts) (acts-epoch old new n m s.acts) (tells-reported old new n m s);
      silent = λ m e k is out h. tells-silent old new n m e s;
      views = λ e v. inl (IsView-same old new e s.acts.setting v);
    }

tells-preserves : (old new : StreamState) (passed n : ℕ) → ReplicationInvariant old passed → Tells old new n → PreservesReplication old new passed passed
tells-preserves old new passed n r s =
    record {
      grows = grows_Tells old new n s;
      keeps = same-kept old new passed r (tells-kept old new n s) (λ m. acts-live old new n m s.acts);
      says = tells-says old new passed n r s;
    }

-- if the replication invariant holds, then it holds after a node sends letters by itself
pub keeps_Tells : (old new : StreamState) (passed n : ℕ) → ReplicationInvariant old passed → Tells old new n → ReplicationInvariant new passed
keeps_Tells old new passed n r s = carried old new passed passed r (tells-preserves old new passed n r s)
