-- What the nodes keep and have said of one stream of entries, apart from everything else in the world.
use Rattle.std.specs.Prelude.{ℕ, ◌≡◌, ◌+◌, ◌-◌, ◌<◌, ◌≤◌, Bool, true, false, List, [], length, ◌⊎◌}
use Rattle.zeus_base.specs.Nodes.{has}
use Rattle.zeus_packet.specs.declared.write.Write.{Write}
pub use Rattle.zeus_model.specs.In.{In, here, there}
use Rattle.zeus_model.specs.Tables.{nth}
use Rattle.zeus_model.specs.Commit.{no_kept}
use Rattle.zeus_model.specs.declared.state.Kept.{Kept}

-- what an entry is, wherever it stands: who is to store it, and what it writes
pub record Entry : Type 0 where
  pub followers : List ℕ
  pub writes : List Write

-- a letter about the stream; the word that a node has reported is one about every stream
pub data Letter : Type 0 where
  -- sender, receiver, epoch, number, done, entry
  Stores : (from to epoch number done : ℕ) → Entry → Letter
  -- sender, number
  Stored : (from number : ℕ) → Letter
  -- receiver, done
  Passes : (to done : ℕ) → Letter
  -- sender, epoch
  Reports : (from epoch : ℕ) → Letter

pub record StreamState : Type 0 where
  -- the node whose stream it is
  pub home : ℕ
  -- by epoch, from 1
  pub views : List (List ℕ)
  -- by node
  pub stopped : ℕ → Bool
  pub epoch : ℕ → ℕ
  pub reported : ℕ → List ℕ
  -- how many entries the node knows to have passed, and those behind these: pending at home, stored elsewhere
  pub done : ℕ → ℕ
  pub kept : ℕ → List Kept
  -- all letters about the stream that were ever sent
  pub letters : List Letter

abbrev pub view : StreamState → ℕ → List ℕ
view l e = nth [] l.views (e - 1)

abbrev pub IsView : StreamState → ℕ → Type 0
IsView l e = (1 ≤ e) × (e ≤ length l.views)

abbrev pub IsLive : StreamState → ℕ → Type 0
IsLive l n = l.stopped n ≡ false

abbrev pub IsMember : StreamState → ℕ → ℕ → Type 0
IsMember l e n = has n (view l e) ≡ true

-- the node is no member of the epoch
abbrev pub IsOut : StreamState → ℕ → ℕ → Type 0
IsOut l e n = has n (view l e) ≡ false

-- the number of the next entry at a node
abbrev pub top : StreamState → ℕ → ℕ
top l n = l.done n + length (l.kept n)

-- the node keeps the entry of this number
abbrev pub Has : StreamState → ℕ → ℕ → Type 0
Has l n k = (l.done n ≤ k) × (k < top l n)

-- how many entries were ever committed
abbrev pub end : StreamState → ℕ
end l = top l l.home

abbrev pub kept_at : StreamState → ℕ → ℕ → Kept
kept_at l n k = nth no_kept (l.kept n) (k - l.done n)

abbrev pub entry_of : Kept → Entry
entry_of k = record { followers = k.followers; writes = k.writes }

-- the entry of this number, which its own node keeps until it has passed it
abbrev pub entry : StreamState → ℕ → Entry
entry l k = entry_of (kept_at l l.home k)

-- the node has said or knows that it has reported in the epoch
abbrev pub HasReported : StreamState → ℕ → ℕ → Type 0
HasReported l n e = In (Reports n e) l.letters ⊎ ((l.epoch n ≡ e) × (has n (l.reported n) ≡ true))

-- a letter with the entry can still be taken by a live node
abbrev pub IsInFlight : StreamState → ℕ → Type 0
IsInFlight l k =
    (f from e d : ℕ) × (x : Entry) × IsLive l f × (l.epoch f ≤ e) × In (Stores from f e k d x) l.letters

-- an entry that has not passed lives while its own node does, while a live node keeps it, or while it is on its way to one
unfoldable pub IsAlive : StreamState → ℕ → ℕ → Type 0
IsAlive l passed k =
    (passed ≤ k) × (k < end l) × (IsLive l l.home ⊎ (((f : ℕ) × IsLive l f × Has l f k) ⊎ IsInFlight l k))
