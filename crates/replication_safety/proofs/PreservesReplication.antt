-- What a move owes so that what holds of the stream before it holds after it: it takes nothing back, and accounts for what is new.
use Rattle.std.specs.Prelude.{ℕ, ◌≡◌, ◌≢◌, ◌<◌, ◌≤◌, true, false, length, ◌⊎◌}
use Rattle.std.proofs.Common.{arith, refl, sym, ap, ◌∙◌, inl, inr}
use Rattle.std.proofs.lemmas.Bool.{cases_lt}
use Rattle.zeus_base.specs.Nodes.{has}
use Rattle.replication_safety.specs.StreamState.{StreamState, Letter, Entry, Stores, Stored, Passes, Reports, In, IsView, IsLive, IsMember, IsOut, Has, HasReported, view, top, end, kept_at, entry_of, entry}
use Rattle.replication_safety.specs.ReplicationInvariant.{IsViewed, Holds, IsCopy, IsWitnessed, ReplicationInvariant}
use Rattle.replication_safety.proofs.Basics.{Holds-top, top-Holds}

-- nothing is taken back
pub record Grows (old new : StreamState) : Type 0 where
  pub home : new.home ≡ old.home
  pub view : (e : ℕ) → IsView old e → view new e ≡ view old e
  pub live : (n : ℕ) → IsLive new n → IsLive old n
  pub epoch : (n : ℕ) → old.epoch n ≤ new.epoch n
  pub done : (n : ℕ) → old.done n ≤ new.done n
  pub top : (n : ℕ) → top old n ≤ top new n
  pub entry : (k : ℕ) → new.done new.home ≤ k → k < end old → entry new k ≡ entry old k
  pub stay : (l : Letter) → In l old.letters → In l new.letters

-- the entry was kept before, and each acknowledgement of it that is new was sent
pub record WasKept (old new : StreamState) (n k : ℕ) : Type 0 where
  pub kept : Has old n k
  pub same : entry_of (kept_at new n k) ≡ entry_of (kept_at old n k)
  pub acks : (a : ℕ) → has a (kept_at new n k).acks ≡ true → (has a (kept_at old n k).acks ≡ true) ⊎ In (Stored a k) old.letters

-- what is owed for an entry that is kept from now on
pub record IsAdded (new : StreamState) (passed n k : ℕ) : Type 0 where
  pub foreign : n ≡ new.home → has new.home (kept_at new n k).followers ≡ false
  pub letter : n ≢ new.home → (from e d : ℕ) × In (Stores from n e k d (entry_of (kept_at new n k))) new.letters
  pub acks : (a : ℕ) → has a (kept_at new n k).acks ≡ false
  pub witnessed : (e : ℕ) → IsView new e → IsOut new e new.home → passed ≤ k → IsMember new e n → n ≢ new.home → IsWitnessed new e k

-- what is owed for a letter with an entry that is sent now
pub record IsTold (new : StreamState) (passed to e k d : ℕ) (x : Entry) : Type 0 where
  pub copy : IsCopy new passed to k d x
  pub witnessed : (f : ℕ) → IsView new f → IsOut new f new.home → passed ≤ k → f ≤ e → IsWitnessed new f k

-- nobody has reported in the epoch, and no entry was sent in it or later
pub record IsFresh (l : StreamState) (e : ℕ) : Type 0 where
  pub unreported : (n : ℕ) → HasReported l n e → ⊥
  pub unsent : (from to f k d : ℕ) (x : Entry) → e ≤ f → In (Stores from to f k d x) l.letters → ⊥

-- what is owed for what the nodes keep, from the count of passed entries before to the one now
pub record PreservesKept (old new : StreamState) (passed now : ℕ) : Type 0 where
  pub rises : passed ≤ now
  pub most : (n : ℕ) → new.done n ≤ now
  pub known : (n : ℕ) × (new.done n ≡ now)
  pub own_first : IsLive new new.home → now ≡ new.done new.home
  pub committed : now ≤ end new
  pub sizes : (n : ℕ) → length (new.kept n) ≤ 16
  pub kept : (n k : ℕ) → Has new n k → WasKept old new n k ⊎ IsAdded new now n k
  -- what passes now is known to be stored
  pub first : (from to e k d g : ℕ) (x : Entry) → In (Stores from to e k d x) old.letters → passed ≤ k → k < now
      → IsLive new g → has g x.followers ≡ true → k < top new g

-- what is owed for what the nodes have said, and know of reports
pub record PreservesSaid (old new : StreamState) (now : ℕ) : Type 0 where
  pub viewed : IsViewed new
  pub entries : (from to e k d : ℕ) (x : Entry) → In (Stores from to e k d x) new.letters
      → In (Stores from to e k d x) old.letters ⊎ IsTold new now to e k d x
  pub stored : (n k : ℕ) → In (Stored n k) new.letters → In (Stored n k) old.letters ⊎ (k < top new n)
  pub told : (to d : ℕ) → In (Passes to d) new.letters → In (Passes to d) old.letters ⊎ ((d ≤ now) × (to ≢ new.home))
  pub reports : (n m : ℕ) → IsLive new n → has m (new.reported n) ≡ true → (new.epoch n ≡ 1) ⊎ ((m ≡ n) ⊎ In (Reports m (new.epoch n)) new.letters)
  -- of a stream whose node is no member, nobody who keeps an entry reports
  pub silent : (n e k : ℕ) → IsView old e → IsOut old e old.home → Has old n k → HasReported new n e → HasReported old n e
  pub views : (e : ℕ) → IsView new e → IsView old e ⊎ IsFresh new e

pub record PreservesReplication (old new : StreamState) (passed now : ℕ) : Type 0 where
  pub grows : Grows old new
  pub keeps : PreservesKept old new passed now
  pub says : PreservesSaid old new now

-- ---- who is no member, and who keeps an unpassed entry

-- the view of the epoch leaves the stream's own node out, and the entry has not passed
pub record IsOrphaned (l : StreamState) (passed e k : ℕ) : Type 0 where
  pub viewed : IsView l e
  pub out : IsOut l e l.home
  pub unpassed : passed ≤ k

-- a member in the epoch, other than the stream's own node, keeps the entry
pub record IsKeptByOther (l : StreamState) (e n k : ℕ) : Type 0 where
  pub member : IsMember l e n
  pub foreign : n ≢ l.home
  pub kept : Has l n k

-- an entry of this number was sent in the epoch or later
record IsSentSince (l : StreamState) (e k : ℕ) : Type 0 where
  from : ℕ
  to : ℕ
  epoch : ℕ
  done : ℕ
  content : Entry
  since : e ≤ epoch
  letter : In (Stores from to epoch k done content) l.letters

IsOut-before : (old new : StreamState) (e : ℕ) → Grows old new → IsView old e → IsOut new e new.home → IsOut old e old.home
IsOut-before old new e g v out =
    let same : view new e ≡ view old e = g.view e v in
    let home : new.home ≡ old.home = g.home in
    cc

IsMember-before : (old new : StreamState) (e n : ℕ) → Grows old new → IsView old e → IsMember new e n → IsMember old e n
IsMember-before old new e n g v m =
    let same : view new e ≡ view old e = g.view e v in
    cc

-- a witness stays one while it keeps the entry and says nothing
pub witness-grows : (old new : StreamState) (e k : ℕ) → Grows old new → IsView old e → ((n : ℕ) → Has old n k → Has new n k)
    → ((n : ℕ) → Has old n k → HasReported new n e → HasReported old n e) → IsWitnessed old e k → IsWitnessed new e k
witness-grows old new e k g v stays silent w =
    let same : view new e ≡ view old e = g.view e v in
    let m : IsMember new e w.0 = rw same w.1 in
    (w.0, m, λ here. w.2 (here ∙ g.home), stays w.0 w.3, λ r. w.4 (silent w.0 w.3 r))

orphaned-before : (old new : StreamState) (passed now e k : ℕ) → PreservesReplication old new passed now → IsView old e → IsOrphaned new now e k → IsOrphaned old now e k
orphaned-before old new passed now e k c v o = record { viewed = v; out = IsOut-before old new e c.grows v o.out; unpassed = o.unpassed }

witness-stays : (old new : StreamState) (passed now e k : ℕ) → PreservesReplication old new passed now → IsOrphaned old now e k → IsWitnessed old e k → IsWitnessed new e k
witness-stays old new passed now e k c o w =
    witness-grows old new e k c.grows o.viewed
    (λ n h. (omega (arith, c.keeps.most n, o.unpassed), omega (arith, c.grows.top n, h.1)))
    (λ n. c.says.silent n e k o.viewed o.out) w

-- ---- each field

-- what holds of a letter with an entry holds on, where each entry that passes now is stored at its live followers
pub IsCopy-grows : (old new : StreamState) (passed now to k d : ℕ) (x : Entry) → Grows old new → passed ≤ now
    → (passed ≤ k → k < now → (g : ℕ) → IsLive new g → has g x.followers ≡ true → k < top new g)
    → IsCopy old passed to k d x → IsCopy new now to k d x
IsCopy-grows old new passed now to k d x grows rises first o =
    let home : new.home ≡ old.home = grows.home in
    let ends : end old ≤ end new = rw (ap (λ (n : ℕ). top new n) home) (grows.top old.home) in
    let dones : old.done old.home ≤ new.done new.home = rw home (grows.done old.home) in
    record {
      follower = o.follower;
      foreign = rw home o.foreign;
      done_below = o.done_below;
      near = o.near;
      committed = omega (arith, o.committed);
      done_passed = omega (arith, o.done_passed);
      same = λ h. o.same (omega arith) ∙ sym (grows.entry k h o.committed);
      safe = λ h g live f.
          elim (cases_lt k passed) [
            | inl before ↦ top-Holds new g k (omega (arith, grows.top g, Holds-top old g k (o.safe before g (grows.live g live) f)))
            | inr now_passed ↦ top-Holds new g k (first now_passed h g live f)
          ];
    }

carried-copies : (old new : StreamState) (passed now from to e k d : ℕ) (x : Entry) → ReplicationInvariant old passed → PreservesReplication old new passed now
    → In (Stores from to e k d x) new.letters → IsCopy new now to k d x
carried-copies old new passed now from to e k d x r c m =
    elim (c.says.entries from to e k d x m) [
      | inl before ↦
          IsCopy-grows old new passed now to k d x c.grows c.keeps.rises
          (λ above below g. c.keeps.first from to e k d g x before above below)
          (r.copies from to e k d x before)
      | inr told ↦ told.copy
    ]

carried-home_foreign : (old new : StreamState) (passed now k : ℕ) → ReplicationInvariant old passed → PreservesReplication old new passed now → Has new new.home k → has new.home (entry new k).followers ≡ false
carried-home_foreign old new passed now k r c h =
    elim (c.keeps.kept new.home k h) [
      | inl was ↦
          let home : new.home ≡ old.home = c.grows.home in
          let kept : Has old old.home k = rw home at was.kept in
          let same : (entry new k).followers ≡ (kept_at old new.home k).followers = ap (λ (x : Entry). x.followers) was.same in
          let before : has old.home (kept_at old old.home k).followers ≡ false = r.home_foreign k kept in
          cc
      | inr added ↦ added.foreign refl
    ]

carried-from_letters : (old new : StreamState) (passed now n k : ℕ) → ReplicationInvariant old passed → PreservesReplication old new passed now → Has new n k → n ≢ new.home
    → (from e d : ℕ) × In (Stores from n e k d (entry_of (kept_at new n k))) new.letters
carried-from_letters old new passed now n k r c h foreign =
    elim (c.keeps.kept n k h) [
      | inl was ↦
          let home : new.home ≡ old.home = c.grows.home in
          let o = r.from_letters n k was.kept (λ here. foreign (here ∙ sym home)) in
          (o.0, o.1, o.2, rw was.same (c.grows.stay (Stores o.0 n o.1 k o.2 (entry_of (kept_at old n k))) o.3))
      | inr added ↦ added.letter foreign
    ]

carried-acks : (old new : StreamState) (passed now n k a : ℕ) → ReplicationInvariant old passed → PreservesReplication old new passed now → Has new n k → has a (kept_at new n k).acks ≡ true → In (Stored a k) new.letters
carried-acks old new passed now n k a r c h is =
    elim (c.keeps.kept n k h) [
      | inl was ↦
          elim (was.acks a is) [
            | inl before ↦ c.grows.stay (Stored a k) (r.acks n k a was.kept before)
            | inr sent ↦ c.grows.stay (Stored a k) sent
          ]
      | inr added ↦ let none : has a (kept_at new n k).acks ≡ false = added.acks a in absurd cc
    ]

carried-stored : (old new : StreamState) (passed now n k : ℕ) → ReplicationInvariant old passed → PreservesReplication old new passed now → In (Stored n k) new.letters → Holds new n k
carried-stored old new passed now n k r c m =
    elim (c.says.stored n k m) [
      | inl before ↦ top-Holds new n k (omega (arith, c.grows.top n, Holds-top old n k (r.stored n k before)))
      | inr said ↦ top-Holds new n k said
    ]

carried-told : (old new : StreamState) (passed now to d : ℕ) → ReplicationInvariant old passed → PreservesReplication old new passed now → In (Passes to d) new.letters → (d ≤ now) × (to ≢ new.home)
carried-told old new passed now to d r c m =
    elim (c.says.told to d m) [
      | inl before ↦
          let o : (d ≤ passed) × (to ≢ old.home) = r.told to d before in
          (omega (arith, c.keeps.rises), λ here. o.1 (here ∙ c.grows.home))
      | inr said ↦ said
    ]

carried-kept_barrier : (old new : StreamState) (passed now e k n : ℕ) → ReplicationInvariant old passed → PreservesReplication old new passed now → IsOrphaned new now e k → IsKeptByOther new e n k → IsWitnessed new e k
carried-kept_barrier old new passed now e k n r c o keeper =
    elim (c.says.views e o.viewed) [
      | inr fresh ↦ (n, keeper.member, keeper.foreign, keeper.kept, fresh.unreported n)
      | inl before ↦
          elim (c.keeps.kept n k keeper.kept) [
            | inl was ↦
                let left = orphaned-before old new passed now e k c before o in
                witness-stays old new passed now e k c left
                (r.kept_barrier e k n before left.out (omega (arith, c.keeps.rises, o.unpassed)) (IsMember-before old new e n c.grows before keeper.member) (λ here. keeper.foreign (here ∙ sym c.grows.home)) was.kept)
            | inr added ↦ added.witnessed e o.viewed o.out o.unpassed keeper.member keeper.foreign
          ]
    ]

carried-sent_barrier : (old new : StreamState) (passed now e k : ℕ) → ReplicationInvariant old passed → PreservesReplication old new passed now → IsOrphaned new now e k → IsSentSince new e k → IsWitnessed new e k
carried-sent_barrier old new passed now e k r c o sent =
    elim (c.says.views e o.viewed) [
      | inr fresh ↦ absurd (fresh.unsent sent.from sent.to sent.epoch k sent.done sent.content sent.since sent.letter)
      | inl before ↦
          elim (c.says.entries sent.from sent.to sent.epoch k sent.done sent.content sent.letter) [
            | inl early ↦
                let left = orphaned-before old new passed now e k c before o in
                witness-stays old new passed now e k c left
                (r.sent_barrier e k sent.from sent.to sent.epoch sent.done sent.content before left.out (omega (arith, c.keeps.rises, o.unpassed)) sent.since early)
            | inr told ↦ told.witnessed e o.viewed o.out o.unpassed sent.since
          ]
    ]

-- ---- all of them

-- if a move pays what it owes, then the replication invariant holds after it as before
pub carried : (old new : StreamState) (passed now : ℕ) → ReplicationInvariant old passed → PreservesReplication old new passed now → ReplicationInvariant new now
carried old new passed now r c =
    record {
      viewed = c.says.viewed;
      most = c.keeps.most;
      known = c.keeps.known;
      own_first = c.keeps.own_first;
      committed = c.keeps.committed;
      sizes = c.keeps.sizes;
      home_foreign = λ k. carried-home_foreign old new passed now k r c;
      copies = λ from to e k d x. carried-copies old new passed now from to e k d x r c;
      from_letters = λ n k. carried-from_letters old new passed now n k r c;
      acks = λ n k a. carried-acks old new passed now n k a r c;
      stored = λ n k. carried-stored old new passed now n k r c;
      told = λ to d. carried-told old new passed now to d r c;
      reports = c.says.reports;
      kept_barrier = λ e k n v out above m foreign h.
          carried-kept_barrier old new passed now e k n r c record { viewed = v; out = out; unpassed = above } record { member = m; foreign = foreign; kept = h };
      sent_barrier = λ e k from to f d x v out above le m.
          carried-sent_barrier old new passed now e k r c record { viewed = v; out = out; unpassed = above }
          record { from = from; to = to; epoch = f; done = d; content = x; since = le; letter = m };
    }
