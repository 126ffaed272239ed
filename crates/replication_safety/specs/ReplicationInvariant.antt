-- What holds of every stream at every moment.
use Rattle.std.specs.Prelude.{ℕ, suc, ◌≡◌, ◌≢◌, ◌+◌, ◌<◌, ◌≤◌, true, false, length, ◌⊎◌}
use Rattle.zeus_base.specs.Nodes.{has, is_subset}
use Rattle.replication_safety.specs.StreamState.{StreamState, Entry, Stores, Stored, Passes, Reports, In, IsView, IsLive, IsMember, IsOut, Has, HasReported, view, end, kept_at, entry_of, entry}

-- views shrink, live nodes are in all of them and in one of their epochs, no node is past the last epoch, and letters
-- come from members of their epoch
pub record IsViewed (l : StreamState) : Type 0 where
  pub shrinking : (e : ℕ) → IsView l e → IsView l (suc e) → is_subset (view l (suc e)) (view l e) ≡ true
  pub live : (n e : ℕ) → IsLive l n → IsView l e → IsMember l e n
  pub epochs : (n : ℕ) → IsLive l n → IsView l (l.epoch n)
  pub bounded : (n : ℕ) → l.epoch n ≤ length l.views
  pub entries : (from to e k d : ℕ) (x : Entry) → In (Stores from to e k d x) l.letters → IsView l e × (e ≤ l.epoch from) × IsMember l e from
  pub reports : (from e : ℕ) → In (Reports from e) l.letters → IsView l e × (e ≤ l.epoch from) × IsMember l e from

-- the node keeps the entry, or knows that it has passed
abbrev pub Holds : StreamState → ℕ → ℕ → Type 0
Holds l n k = Has l n k ⊎ (k < l.done n)

-- what holds of each letter with an entry
pub record IsCopy (l : StreamState) (passed to k d : ℕ) (x : Entry) : Type 0 where
  pub follower : has to x.followers ≡ true
  pub foreign : has l.home x.followers ≡ false
  pub done_below : d ≤ k
  pub near : k < d + 16
  pub committed : k < end l
  pub done_passed : d ≤ passed
  pub same : l.done l.home ≤ k → x ≡ entry l k
  pub safe : k < passed → (g : ℕ) → IsLive l g → has g x.followers ≡ true → Holds l g k

-- where a member other than the stream's own node, which is none, keeps an entry that has not passed, or such an entry
-- was sent in this epoch or later, some member that has not reported in the epoch keeps it
abbrev pub IsWitnessed : StreamState → ℕ → ℕ → Type 0
IsWitnessed l e k = (n : ℕ) × IsMember l e n × (n ≢ l.home) × Has l n k × (HasReported l n e → ⊥)

pub record ReplicationInvariant (l : StreamState) (passed : ℕ) : Type 0 where
  pub viewed : IsViewed l
  -- the count of passed entries is the greatest that any node knows
  pub most : (n : ℕ) → l.done n ≤ passed
  pub known : (n : ℕ) × (l.done n ≡ passed)
  pub own_first : IsLive l l.home → passed ≡ l.done l.home
  pub committed : passed ≤ end l
  pub sizes : (n : ℕ) → length (l.kept n) ≤ 16
  pub home_foreign : (k : ℕ) → Has l l.home k → has l.home (entry l k).followers ≡ false
  pub copies : (from to e k d : ℕ) (x : Entry) → In (Stores from to e k d x) l.letters → IsCopy l passed to k d x
  pub from_letters : (n k : ℕ) → Has l n k → n ≢ l.home
      → (from e d : ℕ) × In (Stores from n e k d (entry_of (kept_at l n k))) l.letters
  pub acks : (n k a : ℕ) → Has l n k → has a (kept_at l n k).acks ≡ true → In (Stored a k) l.letters
  pub stored : (n k : ℕ) → In (Stored n k) l.letters → Holds l n k
  pub told : (to d : ℕ) → In (Passes to d) l.letters → (d ≤ passed) × (to ≢ l.home)
  pub reports : (n m : ℕ) → IsLive l n → has m (l.reported n) ≡ true → (l.epoch n ≡ 1) ⊎ ((m ≡ n) ⊎ In (Reports m (l.epoch n)) l.letters)
  -- the barrier: nothing of a non-member's stream is left out by those who have reported
  pub kept_barrier : (e k n : ℕ) → IsView l e → IsOut l e l.home → passed ≤ k → IsMember l e n → n ≢ l.home → Has l n k → IsWitnessed l e k
  pub sent_barrier : (e k from to f d : ℕ) (x : Entry) → IsView l e → IsOut l e l.home → passed ≤ k → e ≤ f
      → In (Stores from to f k d x) l.letters → IsWitnessed l e k
