-- New views, stops and installs keep what holds of a stream.
use Rattle.std.specs.Prelude.{ℕ, suc, ◌≡◌, ◌-◌, ◌≤◌, true, false, List, [], ◌∷◌, length, ◌⊎◌}
use Rattle.std.proofs.Common.{arith, ap, inl, inr}
use Rattle.std.proofs.lemmas.Bool.{cases_lt, cases_eq}
use Rattle.std.proofs.lemmas.List.{length-append}
use Rattle.zeus_base.specs.Nodes.{has, is_subset}
use Rattle.zeus_base.specs.TableLaws.{nth-append, nth-last}
use Rattle.replication_safety.specs.StreamState.{StreamState, Stores, Stored, Passes, Reports, In, IsView, IsLive, IsMember, HasReported, view}
use Rattle.replication_safety.specs.Moves.{NewView, Stops, Installs}
use Rattle.replication_safety.specs.ReplicationInvariant.{IsViewed, ReplicationInvariant}
use Rattle.replication_safety.proofs.Basics.{silent-only, agree}
use Rattle.replication_safety.proofs.PreservesReplication.{Grows, IsFresh, PreservesSaid, PreservesReplication, carried}
use Rattle.replication_safety.proofs.Same.{SameKept, same-grows, same-kept, speaks-viewed, view-same, silent-says, quiet-silent, quiet-reports}

-- ---- a node stops

-- if a node stops, then each node keeps what it kept
pub stops-kept : (old new : StreamState) (n : ℕ) → Stops old new n → SameKept old new
stops-kept old new n s =
    record {
      home = s.setting.home;
      done = agree new.done old.done n s.others.done s.done;
      kept = agree new.kept old.kept n s.others.kept s.kept;
    }

-- if a node is live after another stops, then it was live before
pub stops-live : (old new : StreamState) (n m : ℕ) → Stops old new n → IsLive new m → IsLive old m
stops-live old new n m s h =
    elim (cases_eq m n) [
      | inl same ↦ let none : new.stopped m ≡ true = rw same s.stopped in absurd cc
      | inr other ↦ let same : new.stopped m ≡ old.stopped m = s.others.stopped m other in cc
    ]

stops-epoch : (old new : StreamState) (n m : ℕ) → Stops old new n → new.epoch m ≡ old.epoch m
stops-epoch old new n m s = agree new.epoch old.epoch n s.others.epoch s.epoch m

stops-reported : (old new : StreamState) (n m : ℕ) → Stops old new n → new.reported m ≡ old.reported m
stops-reported old new n m s = agree new.reported old.reported n s.others.reported s.reported m

stops-viewed : (old new : StreamState) (n : ℕ) → IsViewed old → Stops old new n → IsViewed new
stops-viewed old new n v s =
    speaks-viewed old new v
    record {
      setting = s.setting;
      live = λ m. stops-live old new n m s;
      later = λ m. omega (arith, stops-epoch old new n m s);
      bounded = λ m. omega (arith, stops-epoch old new n m s, v.bounded m);
      entries = λ from to e k d x m. inl (silent-only old new (Stores from to e k d x) s.sends m);
      reports = λ from e m. inl (silent-only old new (Reports from e) s.sends m);
    }

-- a stop takes nothing back
pub grows_Stops : (old new : StreamState) (n : ℕ) → Stops old new n → Grows old new
grows_Stops old new n s =
    same-grows old new (stops-kept old new n s) (λ e _. view-same old new e s.setting) (λ m. stops-live old new n m s) (λ m. omega (arith, stops-epoch old new n m s)) s.sends.stay

stops-preserves : (old new : StreamState) (passed n : ℕ) → ReplicationInvariant old passed → Stops old new n → PreservesReplication old new passed passed
stops-preserves old new passed n r s =
    record {
      grows = grows_Stops old new n s;
      keeps = same-kept old new passed r (stops-kept old new n s) (λ m. stops-live old new n m s);
      says = silent-says old new passed s.setting s.sends (stops-viewed old new n r.viewed s)
          (λ m a. quiet-reports old new passed m a r s.sends.stay (stops-live old new n m s) (stops-epoch old new n m s) (stops-reported old new n m s))
          (λ m e k is out h. quiet-silent old new m e s.sends (stops-epoch old new n m s) (stops-reported old new n m s));
    }

-- if the replication invariant holds, then it holds after a node stops
pub keeps_Stops : (old new : StreamState) (passed n : ℕ) → ReplicationInvariant old passed → Stops old new n → ReplicationInvariant new passed
keeps_Stops old new passed n r s = carried old new passed passed r (stops-preserves old new passed n r s)

-- ---- a node installs a later view

-- if a node installs a view, then each node keeps what it kept
pub installs-kept : (old new : StreamState) (n e : ℕ) → Installs old new n e → SameKept old new
installs-kept old new n e s =
    record {
      home = s.setting.home;
      done = agree new.done old.done n s.others.done s.done;
      kept = agree new.kept old.kept n s.others.kept s.kept;
    }

-- if a node is live after one installs a view, then it was live before
pub installs-live : (old new : StreamState) (n e m : ℕ) → Installs old new n e → IsLive new m → IsLive old m
installs-live old new n e m s h =
    let same : new.stopped m ≡ old.stopped m = agree new.stopped old.stopped n s.others.stopped s.stopped m in
    cc

installs-epoch : (old new : StreamState) (n e m : ℕ) → Installs old new n e → (old.epoch m ≤ new.epoch m) × (old.epoch m ≤ length old.views → new.epoch m ≤ length old.views)
installs-epoch old new n e m s =
    elim (cases_eq m n) [
      | inl same ↦ rw same (omega (arith, s.epoch, s.later), λ _. omega (arith, s.epoch, s.viewed))
      | inr other ↦ let stays : new.epoch m ≡ old.epoch m = s.others.epoch m other in (omega arith, λ h. omega arith)
    ]

-- the node knows of no report
installs-knows_none : (old new : StreamState) (n e m : ℕ) → Installs old new n e → has m (new.reported n) ≡ true → ⊥
unfolding has
installs-knows_none old new n e m s h =
    let none : has m (new.reported n) ≡ false = rw s.reported in
    absurd cc

installs-viewed : (old new : StreamState) (n e : ℕ) → IsViewed old → Installs old new n e → IsViewed new
installs-viewed old new n e v s =
    speaks-viewed old new v
    record {
      setting = s.setting;
      live = λ m. installs-live old new n e m s;
      later = λ m. (installs-epoch old new n e m s).0;
      bounded = λ m. (installs-epoch old new n e m s).1 (v.bounded m);
      entries = λ from to f k d x m. inl (silent-only old new (Stores from to f k d x) s.sends m);
      reports = λ from f m. inl (silent-only old new (Reports from f) s.sends m);
    }

installs-silent : (old new : StreamState) (n e m f : ℕ) → Installs old new n e → HasReported new m f → HasReported old m f
installs-silent old new n e m f s h =
    elim (cases_eq m n) [
      | inl same ↦
          elim h [
            | inl sent ↦ inl (silent-only old new (Reports m f) s.sends sent)
            | inr knows ↦ absurd (installs-knows_none old new n e m s (rw (ap new.reported same) at knows.1))
          ]
      | inr other ↦ quiet-silent old new m f s.sends (s.others.epoch m other) (s.others.reported m other) h
    ]

installs-reports : (old new : StreamState) (passed n e m a : ℕ) → ReplicationInvariant old passed → Installs old new n e → IsLive new m → has a (new.reported m) ≡ true
    → (new.epoch m ≡ 1) ⊎ ((a ≡ m) ⊎ In (Reports a (new.epoch m)) new.letters)
installs-reports old new passed n e m a r s live h =
    elim (cases_eq m n) [
      | inl same ↦ absurd (installs-knows_none old new n e a s (rw (ap new.reported same) at h))
      | inr other ↦
          quiet-reports old new passed m a r s.sends.stay (installs-live old new n e m s) (s.others.epoch m other) (s.others.reported m other) live h
    ]

-- installing a view takes nothing back
pub grows_Installs : (old new : StreamState) (n e : ℕ) → Installs old new n e → Grows old new
grows_Installs old new n e s =
    same-grows old new (installs-kept old new n e s) (λ f _. view-same old new f s.setting) (λ m. installs-live old new n e m s) (λ m. (installs-epoch old new n e m s).0) s.sends.stay

installs-preserves : (old new : StreamState) (passed n e : ℕ) → ReplicationInvariant old passed → Installs old new n e → PreservesReplication old new passed passed
installs-preserves old new passed n e r s =
    record {
      grows = grows_Installs old new n e s;
      keeps = same-kept old new passed r (installs-kept old new n e s) (λ m. installs-live old new n e m s);
      says = silent-says old new passed s.setting s.sends (installs-viewed old new n e r.viewed s)
          (λ m a. installs-reports old new passed n e m a r s)
          (λ m f k is out h. installs-silent old new n e m f s);
    }

-- if the replication invariant holds, then it holds after a node installs a view
pub keeps_Installs : (old new : StreamState) (passed n e : ℕ) → ReplicationInvariant old passed → Installs old new n e → ReplicationInvariant new passed
keeps_Installs old new passed n e r s = carried old new passed passed r (installs-preserves old new passed n e r s)

-- ---- a new view

-- if a new view comes, then each node keeps what it kept
pub viewed-kept : (old new : StreamState) (set : List ℕ) → NewView old new set → SameKept old new
viewed-kept old new set s = record { home = s.home; done = s.done; kept = s.kept }

view-length : (old new : StreamState) (set : List ℕ) → NewView old new set → length new.views ≡ suc (length old.views)
view-length old new set s = omega (arith, ap length s.views, length-append old.views (set ∷ []))

view-old : (old new : StreamState) (set : List ℕ) (e : ℕ) → NewView old new set → IsView old e → view new e ≡ view old e
view-old old new set e s v = rw s.views (nth-append [] old.views (set ∷ []) (e - 1) (omega (arith, v.0, v.1)))

view-last : (old new : StreamState) (set : List ℕ) (e : ℕ) → NewView old new set → e ≡ suc (length old.views) → view new e ≡ set
view-last old new set e s last =
    let place : e - 1 ≡ length old.views = omega arith in
    rw (s.views, place) (nth-last [] old.views set)

view-cases : (old new : StreamState) (set : List ℕ) (e : ℕ) → NewView old new set → IsView new e → IsView old e ⊎ (e ≡ suc (length old.views))
view-cases old new set e s v =
    let more : length new.views ≡ suc (length old.views) = view-length old new set s in
    elim (cases_lt e (suc (length old.views))) [
      | inl before ↦ inl (v.0, omega arith)
      | inr after ↦ inr (omega arith)
    ]

view-stays : (old new : StreamState) (set : List ℕ) (e : ℕ) → NewView old new set → IsView old e → IsView new e
view-stays old new set e s v = (v.0, omega (arith, v.1, view-length old new set s))

-- if a node is live after a new view, then it was live before
pub view-live : (old new : StreamState) (set : List ℕ) (n : ℕ) → NewView old new set → IsLive new n → IsLive old n
view-live old new set n s h = let same : new.stopped n ≡ old.stopped n = s.stopped n in cc

view-shrinking : (old new : StreamState) (set : List ℕ) (e : ℕ) → IsViewed old → NewView old new set → IsView new e → IsView new (suc e) → is_subset (view new (suc e)) (view new e) ≡ true
view-shrinking old new set e v s low high =
    elim (view-cases old new set (suc e) s high) [
      | inl before ↦
          let first : IsView old e = (low.0, omega (arith, before.1)) in
          rw (view-old old new set (suc e) s before, view-old old new set e s first) (v.shrinking e first before)
      | inr last ↦
          let here : e ≡ length old.views = omega arith in
          let first : IsView old e = (low.0, omega arith) in
          let below : is_subset set (view old e) ≡ true = rw here s.subset in
          rw (view-last old new set (suc e) s last, view-old old new set e s first) below
    ]

view-members : (old new : StreamState) (set : List ℕ) (n e : ℕ) → IsViewed old → NewView old new set → IsLive new n → IsView new e → IsMember new e n
view-members old new set n e v s live is =
    elim (view-cases old new set e s is) [
      | inl before ↦ rw (view-old old new set e s before) (v.live n e (view-live old new set n s live) before)
      | inr last ↦ rw (view-last old new set e s last) (s.live n (view-live old new set n s live))
    ]

-- who spoke in an epoch of before spoke in one of now
view-speaker : (old new : StreamState) (set : List ℕ) (n e : ℕ) → NewView old new set → IsView old e × (e ≤ old.epoch n) × IsMember old e n → IsView new e × (e ≤ new.epoch n) × IsMember new e n
view-speaker old new set n e s o =
    (view-stays old new set e s o.0, omega (arith, s.epoch n, o.1), rw (view-old old new set e s o.0) o.2)

view-viewed : (old new : StreamState) (set : List ℕ) → IsViewed old → NewView old new set → IsViewed new
view-viewed old new set v s =
    record {
      shrinking = λ e. view-shrinking old new set e v s;
      live = λ n e. view-members old new set n e v s;
      epochs = λ n live. rw (s.epoch n) (view-stays old new set (old.epoch n) s (v.epochs n (view-live old new set n s live)));
      bounded = λ n. omega (arith, s.epoch n, v.bounded n, view-length old new set s);
      entries = λ from to e k d x m. view-speaker old new set from e s (v.entries from to e k d x (silent-only old new (Stores from to e k d x) s.sends m));
      reports = λ from e m. view-speaker old new set from e s (v.reports from e (silent-only old new (Reports from e) s.sends m));
    }

-- nothing was said in the new epoch
view-fresh : (old new : StreamState) (set : List ℕ) (e : ℕ) → IsViewed old → NewView old new set → e ≡ suc (length old.views) → IsFresh new e
view-fresh old new set e v s last =
    record {
      unreported = λ n h.
          elim h [
            | inl sent ↦
                let is : IsView old e = (v.reports n e (silent-only old new (Reports n e) s.sends sent)).0 in
                omega (arith, is.1)
            | inr knows ↦ omega (arith, knows.0, s.epoch n, v.bounded n)
          ];
      unsent = λ from to f k d x le m.
          let is : IsView old f = (v.entries from to f k d x (silent-only old new (Stores from to f k d x) s.sends m)).0 in
          omega (arith, is.1);
    }

view-views : (old new : StreamState) (set : List ℕ) (e : ℕ) → IsViewed old → NewView old new set → IsView new e → IsView old e ⊎ IsFresh new e
view-views old new set e v s is =
    elim (view-cases old new set e s is) [ inl before ↦ inl before | inr last ↦ inr (view-fresh old new set e v s last) ]

view-says : (old new : StreamState) (passed : ℕ) (set : List ℕ) → ReplicationInvariant old passed → NewView old new set → PreservesSaid old new passed
view-says old new passed set r s =
    record {
      viewed = view-viewed old new set r.viewed s;
      entries = λ from to e k d x m. inl (silent-only old new (Stores from to e k d x) s.sends m);
      stored = λ n k m. inl (silent-only old new (Stored n k) s.sends m);
      told = λ to d m. inl (silent-only old new (Passes to d) s.sends m);
      reports = λ n m. quiet-reports old new passed n m r s.sends.stay (view-live old new set n s) (s.epoch n) (s.reported n);
      silent = λ n e k is out h. quiet-silent old new n e s.sends (s.epoch n) (s.reported n);
      views = λ e. view-views old new set e r.viewed s;
    }

-- a new view takes nothing back
pub grows_NewView : (old new : StreamState) (set : List ℕ) → NewView old new set → Grows old new
grows_NewView old new set s =
    same-grows old new (viewed-kept old new set s) (λ e. view-old old new set e s) (λ n. view-live old new set n s) (λ n. omega (arith, s.epoch n)) s.sends.stay

view-preserves : (old new : StreamState) (passed : ℕ) (set : List ℕ) → ReplicationInvariant old passed → NewView old new set → PreservesReplication old new passed passed
view-preserves old new passed set r s =
    record {
      grows = grows_NewView old new set s;
      keeps = same-kept old new passed r (viewed-kept old new set s) (λ n. view-live old new set n s);
      says = view-says old new passed set r s;
    }

-- if the replication invariant holds, then it holds after a new view
pub keeps_NewView : (old new : StreamState) (passed : ℕ) (set : List ℕ) → ReplicationInvariant old passed → NewView old new set → ReplicationInvariant new passed
keeps_NewView old new passed set r s = carried old new passed passed r (view-preserves old new passed set r s)
