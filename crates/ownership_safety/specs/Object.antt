-- What the nodes know and have said of one object, apart from everything else in the world.
use Rattle.std.specs.Prelude.{ℕ, zero, suc, ◌≡◌, ◌-◌, ◌<◌, ◌≤◌, Bool, true, false, List, [], length, Option, Some, None, ◌⊎◌}
use Rattle.zeus_base.specs.Nodes.{has}
use Rattle.zeus_base.specs.Order.{is_below}
use Rattle.zeus_base.specs.declared.order.Stamp.{Stamp}
use Rattle.zeus_packet.specs.Place.{source, arbiters, new_place}
use Rattle.zeus_packet.specs.declared.place.Place.{Place}
use Rattle.zeus_packet.specs.declared.place.Proposal.{Proposal}
use Rattle.zeus_packet.specs.declared.place.Want.TheVariants.{Own}
use Rattle.zeus_packet.specs.declared.write.Content.{Content}
pub use Rattle.zeus_model.specs.In.{In, here, there}
use Rattle.zeus_model.specs.Tables.{nth}
use Rattle.zeus_model.specs.declared.state.Entry.{Entry}
use Rattle.zeus_model.specs.declared.state.Gather.{Gather}

-- a letter about the object: its sender, receiver and epoch, and what it says
pub data Letter : Type 0 where
  Invalidates : (from to epoch : ℕ) → Proposal → Letter
  Acknowledges : (from to epoch : ℕ) → Proposal → Option Content → Letter
  Validates : Stamp → Place → Letter

-- what each node knows of one object, the views, and all letters about it that were ever sent
pub record Object : Type 0 where
  pub directory : List ℕ
  -- the placement that it was declared with
  pub declared : Place
  -- by epoch, from 1
  pub views : List (List ℕ)
  -- by node
  pub stopped : ℕ → Bool
  pub epoch : ℕ → ℕ
  pub entry : ℕ → Entry
  pub gather : ℕ → Option Gather
  -- all letters about the object that were ever sent
  pub letters : List Letter

-- the members of an epoch
abbrev pub view : Object → ℕ → List ℕ
view o e = nth [] o.views (e - 1)

-- the epoch has a view
abbrev pub IsView : Object → ℕ → Type 0
IsView o e = (1 ≤ e) × (e ≤ length o.views)

-- the node is not stopped
abbrev pub IsLive : Object → ℕ → Type 0
IsLive o n = o.stopped n ≡ false

-- the node is a member of the epoch's view
abbrev pub IsMember : Object → ℕ → ℕ → Type 0
IsMember o e n = has n (view o e) ≡ true

-- the node is the source of the placement in the epoch
abbrev pub IsSource : Object → ℕ → Place → ℕ → Type 0
IsSource o e place n = source place (view o e) ≡ Some n

-- the node is an arbiter of the placement in the epoch
abbrev pub IsArbiter : Object → ℕ → Place → ℕ → Type 0
IsArbiter o e place n = has n (arbiters place (view o e) o.directory) ≡ true

-- an invalidation with the proposal was sent in the epoch
abbrev pub HasInvalidated : Object → Proposal → ℕ → Type 0
HasInvalidated o p e = (from : ℕ) × (to : ℕ) × In (Invalidates from to e p) o.letters

-- the node has acknowledged the proposal in the epoch
abbrev pub HasAcked : Object → ℕ → Proposal → ℕ → Type 0
HasAcked o n p e = (to : ℕ) × (c : Option Content) × In (Acknowledges n to e p c) o.letters

-- the node has acknowledged the proposal in the epoch with this content
abbrev pub HasGiven : Object → ℕ → Proposal → Content → ℕ → Type 0
HasGiven o n p c e = (to : ℕ) × In (Acknowledges n to e p (Some c)) o.letters

-- the node has acknowledged a proposal of this stamp in the epoch
abbrev pub HasAckedStamp : Object → ℕ → Stamp → ℕ → Type 0
HasAckedStamp o n t e = (p : Proposal) × (p.stamp ≡ t) × HasAcked o n p e

-- an invalidation or an acknowledgement of the proposal was sent in the epoch
abbrev pub IsSaid : Object → Proposal → ℕ → Type 0
IsSaid o p e = HasInvalidated o p e ⊎ ((n : ℕ) × HasAcked o n p e)

-- the stamp of the proposal that a node holds, else its settled stamp
unfoldable pub entry_rank : Stamp → Option Proposal → Stamp
entry_rank settled None = settled
entry_rank settled (Some p) = p.stamp

-- the rank of a node: the stamp of the proposal that it holds, else its settled stamp
abbrev pub rank : Object → ℕ → Stamp
rank o n = entry_rank (o.entry n).stamp (o.entry n).proposal

-- the proposal is chosen in the epoch: a directory node and a source of its base are members, and every arbiter has acknowledged it
pub record IsChosen (o : Object) (p : Proposal) (e : ℕ) : Type 0 where
  pub viewed : IsView o e
  pub directory : (d : ℕ) × (has d o.directory ≡ true) × IsMember o e d
  pub source : (s : ℕ) × IsSource o e p.base_place s
  pub acked : (a : ℕ) → IsArbiter o e p.base_place a → HasAcked o a p e

-- a live node owns the object: its settled placement names it as owner, and it holds no proposal
pub record IsOwner (o : Object) (n : ℕ) : Type 0 where
  pub live : IsLive o n
  pub free : (o.entry n).proposal ≡ None
  pub owner : (o.entry n).place.owner ≡ n

-- an arbiter has not acknowledged the stamp in the epoch and never will, since it is stopped, past the epoch, or holds a greater one
abbrev pub IsBlocker : Object → Stamp → ℕ → ℕ → Type 0
IsBlocker o t e a =
    (HasAckedStamp o a t e → ⊥) × ((o.stopped a ≡ true) ⊎ ((e < o.epoch a) ⊎ (is_below t (rank o a) ≡ true)))

-- some arbiter of the placement in the epoch blocks the stamp there
unfoldable pub IsBlocked : Object → Stamp → Place → ℕ → Type 0
IsBlocked o t place e = (a : ℕ) × IsArbiter o e place a × IsBlocker o t e a

-- the placement that stands for none
abbrev pub no_place : Place
no_place = record { owner = 0; replicas = [] }

-- the stamp of the declared placement
abbrev pub first_stamp : Stamp
first_stamp = record { ver = 0; driver = 0 }

-- the proposal that stands for none
abbrev pub no_proposal : Proposal
no_proposal = record { stamp = first_stamp; requester = 0; base = first_stamp; base_place = no_place; want = Own }

-- the decided stamps are a chain: one for each version, from that of the declared placement on
unfoldable pub chain_stamp : List Proposal → ℕ → Stamp
chain_stamp chain zero = first_stamp
chain_stamp chain (suc v) = (nth no_proposal chain v).stamp

-- the placements of the chain by version, from the declared one on
unfoldable pub chain_place : Place → List Proposal → ℕ → Place
chain_place declared chain zero = declared
chain_place declared chain (suc v) = new_place (nth no_proposal chain v)

-- the placement of a version: the declared one, or the one that the chain's proposal made
abbrev pub place_at : Object → List Proposal → ℕ → Place
place_at o chain v = chain_place o.declared chain v

-- the latest decided placement
abbrev pub latest : Object → List Proposal → Place
latest o chain = place_at o chain (length chain)
