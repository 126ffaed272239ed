-- Commits, and entries that are stored, keep what holds of a stream.
use Rattle.std.specs.Prelude.{ℕ, suc, ◌≡◌, ◌≢◌, ◌-◌, ◌<◌, ◌≤◌, true, false, [], ◌∷◌, ◌++◌, length, ◌⊎◌}
use Rattle.std.proofs.Common.{arith, refl, sym, ap, ◌∙◌, inl, inr}
use Rattle.std.proofs.lemmas.Bool.{cases_lt, cases_eq}
use Rattle.std.proofs.lemmas.List.{length-append}
use Rattle.zeus_base.specs.Nodes.{has}
use Rattle.zeus_base.specs.TableLaws.{nth-append, nth-last}
use Rattle.zeus_model.specs.Commit.{no_kept}
use Rattle.zeus_model.specs.declared.state.Kept.{Kept}
use Rattle.replication_safety.specs.StreamState.{StreamState, Entry, Stores, IsView, IsLive, IsOut, Has, HasReported, view, top, kept_at, entry_of}
use Rattle.replication_safety.specs.Moves.{ActsOnKept, Commits, StoresNext}
use Rattle.replication_safety.specs.ReplicationInvariant.{IsCopy, IsWitnessed, ReplicationInvariant}
use Rattle.replication_safety.proofs.Basics.{agree}
use Rattle.replication_safety.proofs.PreservesReplication.{Grows, WasKept, IsAdded, IsOrphaned, IsKeptByOther, PreservesKept, PreservesSaid, PreservesReplication, carried, witness-grows}
use Rattle.replication_safety.proofs.Same.{IsView-same, view-same, quiet-reports, quiet-silent, silent-says, acts-live, acts-epoch, acts-viewed}

-- ---- a node acts on what it keeps

acting-reported : (old new : StreamState) (n m : ℕ) → ActsOnKept old new n → new.reported m ≡ old.reported m
acting-reported old new n m a = agree new.reported old.reported n a.acts.others.reported a.reported m

-- if a node acts on what it keeps, then who has reported after it had reported before
pub acting-silent : (old new : StreamState) (n m e : ℕ) → ActsOnKept old new n → HasReported new m e → HasReported old m e
acting-silent old new n m e a = quiet-silent old new m e a.sends (acts-epoch old new n m a.acts) (acting-reported old new n m a)

-- if a node acts on what it keeps, then what the nodes have said stays accounted for
pub acting-says : (old new : StreamState) (passed now n : ℕ) → ReplicationInvariant old passed → ActsOnKept old new n → PreservesSaid old new now
acting-says old new passed now n r a =
    silent-says old new now a.acts.setting a.sends (acts-viewed old new n r.viewed a.acts a.sends)
    (λ m b. quiet-reports old new passed m b r a.sends.stay (acts-live old new n m a.acts) (acts-epoch old new n m a.acts) (acting-reported old new n m a))
    (λ m e k is out h. acting-silent old new n m e a)

-- ---- a node keeps one entry more

abbrev pub unacked : Entry → Kept
unacked x = record { followers = x.followers; writes = x.writes; acks = [] }

pub record Appends (old new : StreamState) (n : ℕ) (x : Entry) : Type 0 where
  pub acts : ActsOnKept old new n
  pub done : new.done n ≡ old.done n
  pub kept : new.kept n ≡ old.kept n ++ unacked x ∷ []

appends-done : (old new : StreamState) (n m : ℕ) (x : Entry) → Appends old new n x → new.done m ≡ old.done m
appends-done old new n m x a = agree new.done old.done n a.acts.acts.others.done a.done m

-- if a node appends an entry, then the number of its next entry rises by one
pub appends-top : (old new : StreamState) (n : ℕ) (x : Entry) → Appends old new n x → top new n ≡ suc (top old n)
appends-top old new n x a =
    omega (arith, a.done, ap length a.kept, length-append (old.kept n) (unacked x ∷ []))

-- if a node appends an entry, then the number of the next entry stays at each other node
pub appends-top_other : (old new : StreamState) (n m : ℕ) (x : Entry) → Appends old new n x → m ≢ n → top new m ≡ top old m
appends-top_other old new n m x a other = rw (a.acts.acts.others.done m other, a.acts.acts.others.kept m other)

appends-rises : (old new : StreamState) (n m : ℕ) (x : Entry) → Appends old new n x → top old m ≤ top new m
appends-rises old new n m x a =
    elim (cases_eq m n) [
      | inl same ↦ rw same (omega (arith, appends-top old new n x a))
      | inr other ↦ omega (arith, appends-top_other old new n m x a other)
    ]

-- if a node keeps an entry, then it keeps it after one is appended
pub appends-has : (old new : StreamState) (n m k : ℕ) (x : Entry) → Appends old new n x → Has old m k → Has new m k
appends-has old new n m k x a h = omega (arith, h.0, h.1, appends-done old new n m x a, appends-rises old new n m x a)

-- if a node keeps an entry after one is appended, then it kept it before, or it is the node and the entry appended
pub appends-has_before : (old new : StreamState) (n m k : ℕ) (x : Entry) → Appends old new n x → Has new m k → Has old m k ⊎ ((m ≡ n) × (k ≡ top old n))
appends-has_before old new n m k x a h =
    let done : new.done m ≡ old.done m = appends-done old new n m x a in
    elim (cases_lt k (top old m)) [
      | inl below ↦ inl (omega (arith, h.0), below)
      | inr above ↦
          elim (cases_eq m n) [
            | inl same ↦
                let last : top new m ≡ suc (top old n) = ap (λ (j : ℕ). top new j) same ∙ appends-top old new n x a in
                let before : top old m ≡ top old n = ap (λ (j : ℕ). top old j) same in
                inr (same, omega (arith, h.1))
            | inr other ↦ absurd (omega (arith, h.1, appends-top_other old new n m x a other))
          ]
    ]

-- the entries of before stand where they stood
appends-old_here : (old new : StreamState) (n k : ℕ) (x : Entry) → Appends old new n x → Has old n k → kept_at new n k ≡ kept_at old n k
appends-old_here old new n k x a h =
    rw (a.done, a.kept) (nth-append no_kept (old.kept n) (unacked x ∷ []) (k - old.done n) (omega (arith, h.0, h.1)))

-- if a node keeps an entry, then it keeps the same after one is appended
pub appends-old : (old new : StreamState) (n m k : ℕ) (x : Entry) → Appends old new n x → Has old m k → kept_at new m k ≡ kept_at old m k
appends-old old new n m k x a h =
    elim (cases_eq m n) [
      | inl same ↦ rw same (appends-old_here old new n k x a (rw same at h))
      | inr other ↦ rw (a.acts.acts.others.done m other, a.acts.acts.others.kept m other)
    ]

-- the entry that was appended is kept without acknowledgements
pub appends-new : (old new : StreamState) (n : ℕ) (x : Entry) → Appends old new n x → kept_at new n (top old n) ≡ unacked x
appends-new old new n x a =
    let place : top old n - old.done n ≡ length (old.kept n) = omega arith in
    rw (a.done, a.kept, place) (nth-last no_kept (old.kept n) (unacked x))

appends-kept : (old new : StreamState) (passed n m k : ℕ) (x : Entry) → Appends old new n x → IsAdded new passed n (top old n) → Has new m k → WasKept old new m k ⊎ IsAdded new passed m k
appends-kept old new passed n m k x a added h =
    elim (appends-has_before old new n m k x a h) [
      | inl before ↦
          inl record {
            kept = before;
            same = ap entry_of (appends-old old new n m k x a before);
            acks = λ b is. inl (rw (appends-old old new n m k x a before) at is);
          }
      | inr now ↦ inr (rw (now.0, now.1) added)
    ]

appends-sizes : (old new : StreamState) (passed n m : ℕ) (x : Entry) → ReplicationInvariant old passed → Appends old new n x → length (old.kept n) < 16 → length (new.kept m) ≤ 16
appends-sizes old new passed n m x r a room =
    elim (cases_eq m n) [
      | inl same ↦ rw same (omega (arith, ap length a.kept, length-append (old.kept n) (unacked x ∷ [])))
      | inr other ↦ rw (a.acts.acts.others.kept m other) (r.sizes m)
    ]

-- appending an entry takes nothing back
pub appends-grows : (old new : StreamState) (n : ℕ) (x : Entry) → Appends old new n x → Grows old new
appends-grows old new n x a =
    let home : new.home ≡ old.home = a.acts.acts.setting.home in
    record {
      home = home;
      view = λ e _. view-same old new e a.acts.acts.setting;
      live = λ m. acts-live old new n m a.acts.acts;
      epoch = λ m. omega (arith, acts-epoch old new n m a.acts.acts);
      done = λ m. omega (arith, appends-done old new n m x a);
      top = λ m. appends-rises old new n m x a;
      entry = λ k above below.
          let done : new.done new.home ≡ old.done new.home = appends-done old new n new.home x a in
          let same : old.done new.home ≡ old.done old.home = ap old.done home in
          let h : Has old old.home k = (omega arith, below) in
          rw home (ap entry_of (appends-old old new n old.home k x a h));
      stay = a.acts.sends.stay;
    }

-- if there is room for an appended entry and it is accounted for, then all that the nodes keep is accounted for
pub appends-keeps : (old new : StreamState) (passed n : ℕ) (x : Entry) → ReplicationInvariant old passed → Appends old new n x → length (old.kept n) < 16 → IsAdded new passed n (top old n)
    → PreservesKept old new passed passed
appends-keeps old new passed n x r a room added =
    let home : new.home ≡ old.home = a.acts.acts.setting.home in
    record {
      rises = omega arith;
      most = λ m. omega (arith, appends-done old new n m x a, r.most m);
      known = (r.known.0, appends-done old new n r.known.0 x a ∙ r.known.1);
      own_first = λ live.
          let before : IsLive old old.home = acts-live old new n old.home a.acts.acts (rw home at live) in
          r.own_first before ∙ sym (appends-done old new n old.home x a) ∙ sym (ap new.done home);
      committed = rw home (omega (arith, r.committed, appends-rises old new n old.home x a));
      sizes = λ m. appends-sizes old new passed n m x r a room;
      kept = λ m k. appends-kept old new passed n m k x a added;
      first = λ from to e k d g y m above below. absurd (omega arith);
    }

-- ---- the stream's own node adds an entry

-- a commit appends an entry at the stream's own node
pub commits-appends : (old new : StreamState) (x : Entry) → Commits old new x → Appends old new old.home x
commits-appends old new x s = record { acts = s.acts; done = s.done; kept = s.kept }

commits-added : (old new : StreamState) (passed : ℕ) (x : Entry) → Commits old new x → IsAdded new passed old.home (top old old.home)
unfolding has
commits-added old new passed x s =
    let home : new.home ≡ old.home = s.acts.acts.setting.home in
    let is : kept_at new old.home (top old old.home) ≡ unacked x = appends-new old new old.home x (commits-appends old new x s) in
    record {
      foreign = λ _. rw (is, home) s.foreign;
      letter = λ foreign. absurd (foreign (sym home));
      acks = λ a. rw is refl;
      witnessed = λ e v out above m foreign. absurd (foreign (sym home));
    }

-- a commit takes nothing back
pub grows_Commits : (old new : StreamState) (x : Entry) → Commits old new x → Grows old new
grows_Commits old new x s = appends-grows old new old.home x (commits-appends old new x s)

commits-preserves : (old new : StreamState) (passed : ℕ) (x : Entry) → ReplicationInvariant old passed → Commits old new x → PreservesReplication old new passed passed
commits-preserves old new passed x r s =
    record {
      grows = grows_Commits old new x s;
      keeps = appends-keeps old new passed old.home x r (commits-appends old new x s) s.room (commits-added old new passed x s);
      says = acting-says old new passed passed old.home r s.acts;
    }

-- if the replication invariant holds, then it holds after a commit
pub keeps_Commits : (old new : StreamState) (passed : ℕ) (x : Entry) → ReplicationInvariant old passed → Commits old new x → ReplicationInvariant new passed
keeps_Commits old new passed x r s = carried old new passed passed r (commits-preserves old new passed x r s)

-- ---- a node stores the next entry

-- a node that stores the next entry appends it
pub stores-appends : (old new : StreamState) (n : ℕ) (x : Entry) → StoresNext old new n x → Appends old new n x
stores-appends old new n x s = record { acts = s.acts; done = s.done; kept = s.kept }

-- who gets a letter with an entry is not the stream's own node
pub receiver-foreign : (old : StreamState) (passed to k d : ℕ) (x : Entry) → IsCopy old passed to k d x → to ≢ old.home
receiver-foreign old passed to k d x c here =
    let is : has to x.followers ≡ true = c.follower in
    let none : has to x.followers ≡ false = rw here c.foreign in
    absurd cc

-- and has room for the entry, where it is the next one there and the node has reached its done
pub receiver-room : (old : StreamState) (passed to k d : ℕ) (x : Entry) → IsCopy old passed to k d x → d ≤ old.done to → k ≡ top old to → length (old.kept to) < 16
receiver-room old passed to k d x c reached next = omega (arith, c.near)

-- who kept the entry before keeps it still, or the node that stores it now does and has not reported in a later epoch
stores-witnessed : (old new : StreamState) (passed n e : ℕ) (x : Entry) → ReplicationInvariant old passed → StoresNext old new n x → IsOrphaned new passed e (top old n) → IsKeptByOther new e n (top old n)
    → IsWitnessed new e (top old n)
stores-witnessed old new passed n e x r s o keeper =
    let a : Appends old new n x = stores-appends old new n x s in
    let before : IsView old e = IsView-same old new e s.acts.acts.setting o.viewed in
    let views : view new e ≡ view old e = view-same old new e s.acts.acts.setting in
    let home : new.home ≡ old.home = s.acts.acts.setting.home in
    let out : IsOut new e new.home = o.out in
    let left : IsOut old e old.home = cc in
    elim (cases_lt (old.epoch n) e) [
      | inl later ↦ (
        n,
        keeper.member,
        keeper.foreign,
        keeper.kept,
        λ reported.
            elim (acting-silent old new n n e s.acts reported) [
              | inl said ↦ omega (arith, (r.viewed.reports n e said).1)
              | inr knows ↦ omega (arith, knows.0)
            ],
      )
      | inr earlier ↦
          witness-grows old new e (top old n) (appends-grows old new n x a) before
          (λ b. appends-has old new n b (top old n) x a)
          (λ b _. acting-silent old new n b e s.acts)
          (r.sent_barrier e (top old n) s.sent.0 n (old.epoch n) s.sent.1 x before left o.unpassed earlier s.sent.3)
    ]

stores-added : (old new : StreamState) (passed n : ℕ) (x : Entry) → ReplicationInvariant old passed → (s : StoresNext old new n x) → IsCopy old passed n (top old n) s.sent.1 x → IsAdded new passed n (top old n)
unfolding has
stores-added old new passed n x r s c =
    let a : Appends old new n x = stores-appends old new n x s in
    let home : new.home ≡ old.home = s.acts.acts.setting.home in
    let foreign : n ≢ new.home = λ here. receiver-foreign old passed n (top old n) s.sent.1 x c (here ∙ home) in
    let is : kept_at new n (top old n) ≡ unacked x = appends-new old new n x a in
    let kept : Has new n (top old n) = (omega (arith, a.done), omega (arith, appends-top old new n x a)) in
    record {
      foreign = λ here. absurd (foreign here);
      letter = λ _. (s.sent.0, old.epoch n, s.sent.1, rw is (s.acts.sends.stay (Stores s.sent.0 n (old.epoch n) (top old n) s.sent.1 x) s.sent.3));
      acks = λ b. rw is refl;
      witnessed = λ e v out above m _.
          stores-witnessed old new passed n e x r s record { viewed = v; out = out; unpassed = above } record { member = m; foreign = foreign; kept = kept };
    }

-- storing the next entry takes nothing back
pub grows_StoresNext : (old new : StreamState) (n : ℕ) (x : Entry) → StoresNext old new n x → Grows old new
grows_StoresNext old new n x s = appends-grows old new n x (stores-appends old new n x s)

stores-preserves : (old new : StreamState) (passed n : ℕ) (x : Entry) → ReplicationInvariant old passed → StoresNext old new n x → PreservesReplication old new passed passed
stores-preserves old new passed n x r s =
    let c : IsCopy old passed n (top old n) s.sent.1 x = r.copies s.sent.0 n (old.epoch n) (top old n) s.sent.1 x s.sent.3 in
    let room : length (old.kept n) < 16 = receiver-room old passed n (top old n) s.sent.1 x c s.sent.2 refl in
    record {
      grows = grows_StoresNext old new n x s;
      keeps = appends-keeps old new passed n x r (stores-appends old new n x s) room (stores-added old new passed n x r s c);
      says = acting-says old new passed passed n r s.acts;
    }

-- if the replication invariant holds, then it holds after a node stores the next entry
pub keeps_StoresNext : (old new : StreamState) (passed n : ℕ) (x : Entry) → ReplicationInvariant old passed → StoresNext old new n x → ReplicationInvariant new passed
keeps_StoresNext old new passed n x r s = carried old new passed passed r (stores-preserves old new passed n x r s)
