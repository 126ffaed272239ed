-- What may happen to a stream, one move at a time. Every rule of the machine is a sequence of these; they allow more than it does.
use Rattle.std.specs.Prelude.{ℕ, suc, ◌≡◌, ◌≢◌, ◌-◌, ◌<◌, ◌≤◌, true, false, List, [], ◌∷◌, ◌++◌, length, drop, ◌⊎◌}
use Rattle.zeus_base.specs.Nodes.{has, with_node, without, meet, is_subset}
use Rattle.zeus_model.specs.Tables.{put}
use Rattle.zeus_model.specs.Commit.{no_kept, acked_kept}
use Rattle.replication_safety.specs.StreamState.{StreamState, Letter, Entry, Stores, Stored, Passes, Reports, In, IsLive, IsMember, IsOut, Has, view, top, kept_at, entry_of}

-- what does not depend on the nodes stays
pub record SameSetting (old new : StreamState) : Type 0 where
  pub home : new.home ≡ old.home
  pub views : new.views ≡ old.views

-- all nodes but one stay as they are
pub record SameOthers (old new : StreamState) (n : ℕ) : Type 0 where
  pub stopped : (m : ℕ) → m ≢ n → new.stopped m ≡ old.stopped m
  pub epoch : (m : ℕ) → m ≢ n → new.epoch m ≡ old.epoch m
  pub reported : (m : ℕ) → m ≢ n → new.reported m ≡ old.reported m
  pub done : (m : ℕ) → m ≢ n → new.done m ≡ old.done m
  pub kept : (m : ℕ) → m ≢ n → new.kept m ≡ old.kept m

-- the letters stay, and each new one is allowed
pub record Sends (old new : StreamState) (allowed : Letter → Type 0) : Type 0 where
  pub stay : (l : Letter) → In l old.letters → In l new.letters
  pub only : (l : Letter) → In l new.letters → In l old.letters ⊎ allowed l

abbrev pub nothing : Letter → Type 0
nothing l = ⊥

-- a live node acts in its epoch
pub record Acts (old new : StreamState) (n : ℕ) : Type 0 where
  pub setting : SameSetting old new
  pub others : SameOthers old new n
  pub live : IsLive old n
  pub stopped : new.stopped n ≡ old.stopped n
  pub epoch : new.epoch n ≡ old.epoch n

-- a live node acts on what it keeps, and knows of reports as before
pub record ActsOnKept (old new : StreamState) (n : ℕ) : Type 0 where
  pub acts : Acts old new n
  pub reported : new.reported n ≡ old.reported n
  pub sends : Sends old new nothing

-- a view with at least one member, all of the last view, that leaves out no live node
pub record NewView (old new : StreamState) (set : List ℕ) : Type 0 where
  pub home : new.home ≡ old.home
  pub views : new.views ≡ old.views ++ set ∷ []
  pub subset : is_subset set (view old (length old.views)) ≡ true
  pub live : (n : ℕ) → IsLive old n → has n set ≡ true
  pub stopped : (m : ℕ) → new.stopped m ≡ old.stopped m
  pub epoch : (m : ℕ) → new.epoch m ≡ old.epoch m
  pub reported : (m : ℕ) → new.reported m ≡ old.reported m
  pub done : (m : ℕ) → new.done m ≡ old.done m
  pub kept : (m : ℕ) → new.kept m ≡ old.kept m
  pub sends : Sends old new nothing

-- a node stops
pub record Stops (old new : StreamState) (n : ℕ) : Type 0 where
  pub setting : SameSetting old new
  pub others : SameOthers old new n
  pub stopped : new.stopped n ≡ true
  pub epoch : new.epoch n ≡ old.epoch n
  pub reported : new.reported n ≡ old.reported n
  pub done : new.done n ≡ old.done n
  pub kept : new.kept n ≡ old.kept n
  pub sends : Sends old new nothing

-- a live node goes on to a later view, and forgets who reported
pub record Installs (old new : StreamState) (n e : ℕ) : Type 0 where
  pub setting : SameSetting old new
  pub others : SameOthers old new n
  pub live : IsLive old n
  pub later : old.epoch n < e
  pub viewed : e ≤ length old.views
  pub stopped : new.stopped n ≡ old.stopped n
  pub epoch : new.epoch n ≡ e
  pub reported : new.reported n ≡ []
  pub done : new.done n ≡ old.done n
  pub kept : new.kept n ≡ old.kept n
  pub sends : Sends old new nothing

-- a live node reports, where it keeps no entry of a stream whose node is no member
pub record ReportsItself (old new : StreamState) (n : ℕ) : Type 0 where
  pub acts : Acts old new n
  pub empty : IsOut old (old.epoch n) old.home → old.kept n ≡ []
  pub reported : new.reported n ≡ with_node n (old.reported n)
  pub done : new.done n ≡ old.done n
  pub kept : new.kept n ≡ old.kept n
  pub sends : Sends old new nothing

-- a live node hears that another has reported in its epoch
pub record Hears (old new : StreamState) (n m : ℕ) : Type 0 where
  pub acts : Acts old new n
  pub sent : In (Reports m (old.epoch n)) old.letters
  pub reported : new.reported n ≡ with_node m (old.reported n)
  pub done : new.done n ≡ old.done n
  pub kept : new.kept n ≡ old.kept n
  pub sends : Sends old new nothing

-- the letters that a live node may send without a change of what it keeps
pub data IsTellable (old : StreamState) (n : ℕ) : Letter → Type 0 where
  -- its own entries, and those of a stream whose node is no member, to member followers
  entry : (to k : ℕ) → Has old n k → (n ≡ old.home) ⊎ IsOut old (old.epoch n) old.home
      → has to (kept_at old n k).followers ≡ true → IsMember old (old.epoch n) to → to ≢ n
      → IsTellable old n (Stores n to (old.epoch n) k (old.done n) (entry_of (kept_at old n k)))
  -- that it keeps an entry or knows that it has passed
  stored : (k : ℕ) → n ≢ old.home → k < top old n → IsTellable old n (Stored n k)
  -- how many entries have passed, to others than the stream's own node
  passed : (to d : ℕ) → d ≤ old.done n → to ≢ old.home → IsTellable old n (Passes to d)
  -- that it has reported
  reported : has n (old.reported n) ≡ true → IsTellable old n (Reports n (old.epoch n))

-- a live node says what it may
pub record Tells (old new : StreamState) (n : ℕ) : Type 0 where
  pub acts : Acts old new n
  pub reported : new.reported n ≡ old.reported n
  pub done : new.done n ≡ old.done n
  pub kept : new.kept n ≡ old.kept n
  pub sends : Sends old new (IsTellable old n)

-- the stream's own node adds an entry, which it does not follow itself
pub record Commits (old new : StreamState) (x : Entry) : Type 0 where
  pub acts : ActsOnKept old new old.home
  pub room : length (old.kept old.home) < 16
  pub foreign : has old.home x.followers ≡ false
  pub done : new.done old.home ≡ old.done old.home
  pub kept : new.kept old.home ≡ old.kept old.home ++ record { followers = x.followers; writes = x.writes; acks = [] } ∷ []

-- a live node stores the next entry from a letter of its epoch, whose done it has reached
pub record StoresNext (old new : StreamState) (n : ℕ) (x : Entry) : Type 0 where
  pub acts : ActsOnKept old new n
  pub sent : (from d : ℕ) × (d ≤ old.done n) × In (Stores from n (old.epoch n) (top old n) d x) old.letters
  pub done : new.done n ≡ old.done n
  pub kept : new.kept n ≡ old.kept n ++ record { followers = x.followers; writes = x.writes; acks = [] } ∷ []

-- a live node learns that all entries below d have passed
pub record Raises (old new : StreamState) (passed n d : ℕ) : Type 0 where
  pub acts : ActsOnKept old new n
  pub foreign : n ≢ old.home
  pub above : old.done n < d
  pub known : d ≤ passed
  pub done : new.done n ≡ d
  pub kept : new.kept n ≡ drop (d - old.done n) (old.kept n)

-- a live node notes an acknowledgement of an entry that it keeps
pub record NotesAck (old new : StreamState) (n k a : ℕ) : Type 0 where
  pub acts : ActsOnKept old new n
  pub sent : In (Stored a k) old.letters
  pub has : Has old n k
  pub done : new.done n ≡ old.done n
  pub kept : new.kept n ≡ put no_kept (old.kept n) (k - old.done n) (acked_kept (kept_at old n k) a)

-- a live node passes its first entry: the stream's own node, or any where that is no member
pub record PassesFirst (old new : StreamState) (n : ℕ) : Type 0 where
  pub acts : ActsOnKept old new n
  pub some : 0 < length (old.kept n)
  pub may : (n ≡ old.home) ⊎ IsOut old (old.epoch n) old.home
  pub complete : is_subset (without n (meet (kept_at old n (old.done n)).followers (view old (old.epoch n)))) (kept_at old n (old.done n)).acks ≡ true
  pub done : new.done n ≡ suc (old.done n)
  pub kept : new.kept n ≡ drop 1 (old.kept n)
