-- Moves that leave what the nodes keep: views, stops, installs, reports and letters.
use Rattle.std.specs.Prelude.{ℕ, suc, ◌≡◌, ◌≤◌, true, length, ◌⊎◌}
use Rattle.std.proofs.Common.{arith, sym, ◌∙◌, inl, inr}
use Rattle.zeus_base.specs.Nodes.{has}
use Rattle.replication_safety.specs.StreamState.{StreamState, Letter, Entry, Stores, Stored, Passes, Reports, In, IsView, IsLive, IsMember, IsOut, Has, HasReported, view, top, end, kept_at, entry}
use Rattle.replication_safety.specs.Moves.{SameSetting, Sends, nothing, Acts}
use Rattle.replication_safety.specs.ReplicationInvariant.{IsViewed, ReplicationInvariant}
use Rattle.replication_safety.proofs.Basics.{silent-only, agree}
use Rattle.replication_safety.proofs.PreservesReplication.{Grows, PreservesKept, PreservesSaid}

-- what the nodes keep stays
pub record SameKept (old new : StreamState) : Type 0 where
  pub home : new.home ≡ old.home
  pub done : (n : ℕ) → new.done n ≡ old.done n
  pub kept : (n : ℕ) → new.kept n ≡ old.kept n

-- if each node keeps what it kept, then the number of its next entry stays
pub same-top : (old new : StreamState) (n : ℕ) → SameKept old new → top new n ≡ top old n
same-top old new n s = rw (s.done n, s.kept n)

-- if each node keeps what it kept, then the count of committed entries stays
pub same-end : (old new : StreamState) → SameKept old new → end new ≡ end old
same-end old new s = rw s.home (same-top old new old.home s)

-- if each node keeps what it kept, then a node that keeps an entry after it kept it before
pub same-has_before : (old new : StreamState) (n k : ℕ) → SameKept old new → Has new n k → Has old n k
same-has_before old new n k s h = let t : top new n ≡ top old n = same-top old new n s in omega (arith, s.done n)

-- if each node keeps what it kept, then a node that kept an entry before keeps it after
pub same-has : (old new : StreamState) (n k : ℕ) → SameKept old new → Has old n k → Has new n k
same-has old new n k s h = let t : top new n ≡ top old n = same-top old new n s in omega (arith, s.done n)

-- if each node keeps what it kept, then so does it at each number
pub same-kept_at : (old new : StreamState) (n k : ℕ) → SameKept old new → kept_at new n k ≡ kept_at old n k
same-kept_at old new n k s = rw (s.done n, s.kept n)

-- if each node keeps what it kept, then each entry stays the same
pub same-entry : (old new : StreamState) (k : ℕ) → SameKept old new → entry new k ≡ entry old k
same-entry old new k s = rw (same-kept_at old new new.home k s, s.home)

-- if each node keeps what it kept, views and letters stay, no epoch falls and nobody revives, then nothing is taken back
pub same-grows : (old new : StreamState) → SameKept old new → ((e : ℕ) → IsView old e → view new e ≡ view old e)
    → ((n : ℕ) → IsLive new n → IsLive old n) → ((n : ℕ) → old.epoch n ≤ new.epoch n) → ((l : Letter) → In l old.letters → In l new.letters) → Grows old new
same-grows old new s views live later stay =
    record {
      home = s.home;
      view = views;
      live = live;
      epoch = later;
      done = λ n. omega (arith, s.done n);
      top = λ n. omega (arith, same-top old new n s);
      entry = λ k above below. same-entry old new k s;
      stay = stay;
    }

same-own_first : (old new : StreamState) (passed : ℕ) → ReplicationInvariant old passed → SameKept old new → (IsLive new new.home → IsLive old new.home) → IsLive new new.home → passed ≡ new.done new.home
same-own_first old new passed r s live h =
    let home : new.home ≡ old.home = s.home in
    let alive : IsLive old old.home = rw home at (live h) in
    let first : passed ≡ old.done old.home = r.own_first alive in
    let same : new.done new.home ≡ old.done new.home = s.done new.home in
    cc

-- if each node keeps what it kept and nobody revives, then all that the nodes keep is accounted for
pub same-kept : (old new : StreamState) (passed : ℕ) → ReplicationInvariant old passed → SameKept old new → ((n : ℕ) → IsLive new n → IsLive old n) → PreservesKept old new passed passed
same-kept old new passed r s live =
    record {
      rises = omega arith;
      most = λ n. omega (arith, s.done n, r.most n);
      known = (r.known.0, s.done r.known.0 ∙ r.known.1);
      own_first = λ h. same-own_first old new passed r s (live new.home) h;
      committed = omega (arith, same-end old new s, r.committed);
      sizes = λ n. rw (s.kept n) (r.sizes n);
      kept = λ n k h. inl record { kept = same-has_before old new n k s h; same = rw (same-kept_at old new n k s); acks = λ a is. inl (rw (same-kept_at old new n k s) at is) };
      first = λ from to e k d g x m above below. absurd (omega arith);
    }

-- ---- who is in which epoch, and which letters there are

-- views and letters of a stream whose views stay, where no epoch falls
pub record Speaks (old new : StreamState) : Type 0 where
  pub setting : SameSetting old new
  pub live : (n : ℕ) → IsLive new n → IsLive old n
  pub later : (n : ℕ) → old.epoch n ≤ new.epoch n
  pub bounded : (n : ℕ) → new.epoch n ≤ length old.views
  pub entries : (from to e k d : ℕ) (x : Entry) → In (Stores from to e k d x) new.letters
      → In (Stores from to e k d x) old.letters ⊎ (IsLive old from × (e ≡ old.epoch from))
  pub reports : (from e : ℕ) → In (Reports from e) new.letters → In (Reports from e) old.letters ⊎ (IsLive old from × (e ≡ old.epoch from))

-- if the views stay, then an epoch that has a view after had one before
pub IsView-same : (old new : StreamState) (e : ℕ) → SameSetting old new → IsView new e → IsView old e
IsView-same old new e s v = rw s.views at v

-- if the views stay, then an epoch that had a view before has one after
pub IsView-stays : (old new : StreamState) (e : ℕ) → SameSetting old new → IsView old e → IsView new e
IsView-stays old new e s v = rw s.views v

-- if the views stay, then each epoch has the same view
pub view-same : (old new : StreamState) (e : ℕ) → SameSetting old new → view new e ≡ view old e
view-same old new e s = rw s.views

-- a live node is a member of its epoch, and of each other view
speaker : (old new : StreamState) (n e : ℕ) → IsViewed old → Speaks old new → IsLive old n → e ≡ old.epoch n → IsView new e × (e ≤ new.epoch n) × IsMember new e n
speaker old new n e v s live is =
    let own : IsView old e = rw is (v.epochs n live) in
    (IsView-stays old new e s.setting own, omega (arith, s.later n), rw (view-same old new e s.setting) (v.live n e live own))

speaks-entries : (old new : StreamState) (from to e k d : ℕ) (x : Entry) → IsViewed old → Speaks old new → In (Stores from to e k d x) new.letters → IsView new e × (e ≤ new.epoch from) × IsMember new e from
speaks-entries old new from to e k d x v s m =
    elim (s.entries from to e k d x m) [
      | inl before ↦
          let o : IsView old e × (e ≤ old.epoch from) × IsMember old e from = v.entries from to e k d x before in
          (IsView-stays old new e s.setting o.0, omega (arith, s.later from), rw (view-same old new e s.setting) o.2)
      | inr now ↦ speaker old new from e v s now.0 now.1
    ]

speaks-reports : (old new : StreamState) (from e : ℕ) → IsViewed old → Speaks old new → In (Reports from e) new.letters → IsView new e × (e ≤ new.epoch from) × IsMember new e from
speaks-reports old new from e v s m =
    elim (s.reports from e m) [
      | inl before ↦
          let o : IsView old e × (e ≤ old.epoch from) × IsMember old e from = v.reports from e before in
          (IsView-stays old new e s.setting o.0, omega (arith, s.later from), rw (view-same old new e s.setting) o.2)
      | inr now ↦ speaker old new from e v s now.0 now.1
    ]

-- if each new letter comes from a live node in its epoch and no epoch falls, then views and epochs stay in order
pub speaks-viewed : (old new : StreamState) → IsViewed old → Speaks old new → IsViewed new
speaks-viewed old new v s =
    record {
      shrinking = λ e low high. rw (view-same old new e s.setting, view-same old new (suc e) s.setting) (v.shrinking e (IsView-same old new e s.setting low) (IsView-same old new (suc e) s.setting high));
      live = λ n e live is. rw (view-same old new e s.setting) (v.live n e (s.live n live) (IsView-same old new e s.setting is));
      epochs = λ n live. let before : IsView old (old.epoch n) = v.epochs n (s.live n live) in IsView-stays old new (new.epoch n) s.setting (omega (arith, s.later n), s.bounded n);
      bounded = λ n. rw s.setting.views (s.bounded n);
      entries = λ from to e k d x. speaks-entries old new from to e k d x v s;
      reports = λ from e. speaks-reports old new from e v s;
    }

-- ---- moves that send nothing

-- what is said stays, where only views and reports are left to account for
pub silent-says : (old new : StreamState) (now : ℕ) → SameSetting old new → Sends old new nothing → IsViewed new
    → ((n m : ℕ) → IsLive new n → has m (new.reported n) ≡ true → (new.epoch n ≡ 1) ⊎ ((m ≡ n) ⊎ In (Reports m (new.epoch n)) new.letters))
    → ((n e k : ℕ) → IsView old e → IsOut old e old.home → Has old n k → HasReported new n e → HasReported old n e)
    → PreservesSaid old new now
silent-says old new now s sends v reports silent =
    record {
      viewed = v;
      entries = λ from to e k d x m. inl (silent-only old new (Stores from to e k d x) sends m);
      stored = λ n k m. inl (silent-only old new (Stored n k) sends m);
      told = λ to d m. inl (silent-only old new (Passes to d) sends m);
      reports = reports;
      silent = silent;
      views = λ e is. inl (IsView-same old new e s is);
    }

-- a node that knows of the same reports in the same epoch
pub quiet-silent : (old new : StreamState) (n e : ℕ) → Sends old new nothing → new.epoch n ≡ old.epoch n → new.reported n ≡ old.reported n → HasReported new n e → HasReported old n e
quiet-silent old new n e sends epoch reported h =
    elim h [
      | inl sent ↦ inl (silent-only old new (Reports n e) sends sent)
      | inr knows ↦ inr (sym epoch ∙ knows.0, rw reported at knows.1)
    ]

-- if a node's epoch and what it knows of reports stay, then each report that it knows is still its own or a sent one
pub quiet-reports : (old new : StreamState) (passed n m : ℕ) → ReplicationInvariant old passed → ((l : Letter) → In l old.letters → In l new.letters)
    → (IsLive new n → IsLive old n) → new.epoch n ≡ old.epoch n → new.reported n ≡ old.reported n
    → IsLive new n → has m (new.reported n) ≡ true → (new.epoch n ≡ 1) ⊎ ((m ≡ n) ⊎ In (Reports m (new.epoch n)) new.letters)
quiet-reports old new passed n m r stay live epoch reported is h =
    elim (r.reports n m (live is) (rw reported at h)) [
      | inl one ↦ inl (epoch ∙ one)
      | inr other ↦ elim other [ inl own ↦ inr (inl own) | inr sent ↦ inr (inr (rw epoch (stay (Reports m (old.epoch n)) sent))) ]
    ]

-- ---- moves of a live node in its epoch

-- if a node acts, then who has stopped stays
pub acts-stopped : (old new : StreamState) (n m : ℕ) → Acts old new n → new.stopped m ≡ old.stopped m
acts-stopped old new n m a = agree new.stopped old.stopped n a.others.stopped a.stopped m

-- if a node acts, then each node's epoch stays
pub acts-epoch : (old new : StreamState) (n m : ℕ) → Acts old new n → new.epoch m ≡ old.epoch m
acts-epoch old new n m a = agree new.epoch old.epoch n a.others.epoch a.epoch m

-- if a node acts, then who lives after it lived before
pub acts-live : (old new : StreamState) (n m : ℕ) → Acts old new n → IsLive new m → IsLive old m
acts-live old new n m a h = let same : new.stopped m ≡ old.stopped m = acts-stopped old new n m a in cc

-- if a node acts and each new letter comes from a live node in its epoch, then views and epochs stay in order
pub acts-speaks : (old new : StreamState) (n : ℕ) → IsViewed old → Acts old new n
    → ((from to e k d : ℕ) (x : Entry) → In (Stores from to e k d x) new.letters → In (Stores from to e k d x) old.letters ⊎ (IsLive old from × (e ≡ old.epoch from)))
    → ((from e : ℕ) → In (Reports from e) new.letters → In (Reports from e) old.letters ⊎ (IsLive old from × (e ≡ old.epoch from)))
    → IsViewed new
acts-speaks old new n v a entries reports =
    speaks-viewed old new v
    record {
      setting = a.setting;
      live = λ m. acts-live old new n m a;
      later = λ m. omega (arith, acts-epoch old new n m a);
      bounded = λ m. omega (arith, acts-epoch old new n m a, v.bounded m);
      entries = entries;
      reports = reports;
    }

-- if a node acts and sends no letter, then views and epochs stay in order
pub acts-viewed : (old new : StreamState) (n : ℕ) → IsViewed old → Acts old new n → Sends old new nothing → IsViewed new
acts-viewed old new n v a s =
    acts-speaks old new n v a
    (λ from to e k d x m. inl (silent-only old new (Stores from to e k d x) s m))
    (λ from e m. inl (silent-only old new (Reports from e) s m))

-- if a node acts, each node keeps what it kept, and the letters stay, then nothing is taken back
pub acts-grows : (old new : StreamState) (n : ℕ) → SameKept old new → Acts old new n → ((l : Letter) → In l old.letters → In l new.letters) → Grows old new
acts-grows old new n s a stay =
    same-grows old new s (λ e _. view-same old new e a.setting) (λ m. acts-live old new n m a) (λ m. omega (arith, acts-epoch old new n m a)) stay
