-- What holds of every object at every moment.
use Rattle.std.specs.Prelude.{ℕ, suc, ◌≡◌, ◌≢◌, ◌<◌, ◌≤◌, true, false, List, length, Option, Some, is_some, ◌⊎◌, ◌↔◌}
use Rattle.zeus_base.specs.Nodes.{has, is_subset}
use Rattle.zeus_base.specs.NodeLaws.{IsRising}
use Rattle.zeus_base.specs.Order.{is_below}
use Rattle.zeus_base.specs.declared.order.Stamp.{Stamp}
use Rattle.zeus_packet.specs.declared.place.Place.{Place}
use Rattle.zeus_packet.specs.declared.place.Proposal.{Proposal}
use Rattle.zeus_packet.specs.declared.write.Content.{Content}
use Rattle.zeus_model.specs.Tables.{nth}
use Rattle.zeus_model.specs.declared.state.Gather.{Gather}
use Rattle.ownership_safety.specs.Object.{Object, Invalidates, Acknowledges, Validates, In, IsView, IsLive, IsMember, IsSource, IsArbiter, IsSaid, HasAcked, IsChosen, IsBlocked, view, rank, no_proposal, chain_stamp, place_at}
use Rattle.ownership_safety.specs.Moves.{MayWant}

-- views shrink, live nodes are in all of them and in one of their epochs, and letters come from members of their epoch
pub record IsViewed (o : Object) : Type 0 where
  pub rising : (e : ℕ) → IsRising (view o e)
  pub shrinking : (e : ℕ) → IsView o e → IsView o (suc e) → is_subset (view o (suc e)) (view o e) ≡ true
  pub live : (n e : ℕ) → IsLive o n → IsView o e → IsMember o e n
  pub epochs : (n : ℕ) → IsLive o n → IsView o (o.epoch n)
  pub invalidations : (from to e : ℕ) (p : Proposal) → In (Invalidates from to e p) o.letters
      → IsView o e × (e ≤ o.epoch from) × IsMember o e from
  pub acknowledgements : (from to e : ℕ) (p : Proposal) (c : Option Content) → In (Acknowledges from to e p c) o.letters
      → IsView o e × (e ≤ o.epoch from) × IsMember o e from

-- a placement's owner is one of its replicas
pub record IsPlaced (place : Place) : Type 0 where
  pub owner : has place.owner place.replicas ≡ true
  pub rising : IsRising place.replicas

-- what holds of each proposal that was said
pub record IsProposal (o : Object) (chain : List Proposal) (p : Proposal) : Type 0 where
  pub next : p.stamp.ver ≡ suc p.base.ver
  pub placed : IsPlaced p.base_place
  pub want : MayWant p.want p.requester p.base_place
  pub driver : (is_below (rank o p.stamp.driver) p.stamp ≡ false)
  -- its base is decided
  pub decided : p.base.ver ≤ length chain
  pub base : p.base ≡ chain_stamp chain p.base.ver
  pub base_place : p.base_place ≡ place_at o chain p.base.ver

-- what holds of each acknowledgement
pub record IsAck (o : Object) (from to e : ℕ) (p : Proposal) (c : Option Content) : Type 0 where
  pub rank : is_below (rank o from) p.stamp ≡ false
  pub arbiter : IsArbiter o e p.base_place from
  pub content : (is_some c ≡ true) ↔ IsSource o e p.base_place from
  pub to_requester : IsMember o e p.requester → to ≡ p.requester

-- a held proposal is on the settled placement, and its holder has acknowledged it
pub record IsHeld (o : Object) (n : ℕ) (p : Proposal) : Type 0 where
  pub base : (o.entry n).stamp ≡ p.base
  pub base_place : (o.entry n).place ≡ p.base_place
  pub acked : (e : ℕ) × (e ≤ o.epoch n) × HasAcked o n p e

-- a gather is above the settled stamp, and holds acknowledgements of its node's epoch
pub record IsGather (o : Object) (n : ℕ) (g : Gather) : Type 0 where
  pub above : is_below (o.entry n).stamp g.proposal.stamp ≡ true
  pub some : (a : ℕ) × (has a g.acks ≡ true)
  pub acks : (a : ℕ) → has a g.acks ≡ true → (c : Option Content) × In (Acknowledges a n (o.epoch n) g.proposal c) o.letters
  pub content : (c : Content) → g.content ≡ Some c → (a : ℕ) × In (Acknowledges a n (o.epoch n) g.proposal (Some c)) o.letters

-- a link of the chain: the proposal of that version, on the one before it, chosen, and known to its requester
pub record IsLink (o : Object) (chain : List Proposal) (v : ℕ) (p : Proposal) : Type 0 where
  pub ver : p.stamp.ver ≡ suc v
  pub base : p.base ≡ chain_stamp chain v
  pub base_place : p.base_place ≡ place_at o chain v
  pub placed : IsPlaced p.base_place
  pub want : MayWant p.want p.requester p.base_place
  pub chosen : (e : ℕ) × IsChosen o p e
  pub requester : (o.stopped p.requester ≡ true) ⊎ (is_below (o.entry p.requester).stamp p.stamp ≡ false)

-- a stamp and a placement that are decided
pub record IsDecided (o : Object) (chain : List Proposal) (t : Stamp) (there : Place) : Type 0 where
  pub ver : t.ver ≤ length chain
  pub stamp : t ≡ chain_stamp chain t.ver
  pub place : there ≡ place_at o chain t.ver

-- who has said a proposal in an epoch blocks every other one of its version with a lesser ballot, that is of an earlier
-- epoch, or of the same epoch and a lower stamp
abbrev pub IsLesser : ℕ → Stamp → ℕ → Stamp → Type 0
IsLesser e t e1 s = (e < e1) ⊎ ((e ≡ e1) × (is_below t s ≡ true))

-- what holds of an object and the chain of its decided proposals, after each move
pub record OwnershipInvariant (o : Object) (chain : List Proposal) : Type 0 where
  pub viewed : IsViewed o
  pub declared : IsPlaced o.declared
  -- one proposal has a stamp
  pub one_stamp : (p q : Proposal) (e f : ℕ) → IsSaid o p e → IsSaid o q f → p.stamp ≡ q.stamp → p ≡ q
  pub proposals : (p : Proposal) (e : ℕ) → IsSaid o p e → IsProposal o chain p
  pub acks : (from to e : ℕ) (p : Proposal) (c : Option Content) → In (Acknowledges from to e p c) o.letters → IsAck o from to e p c
  -- invalidations go to arbiters
  pub to_arbiters : (from to e : ℕ) (p : Proposal) → In (Invalidates from to e p) o.letters → IsArbiter o e p.base_place to
  pub held : (n : ℕ) (p : Proposal) → (o.entry n).proposal ≡ Some p → IsHeld o n p
  pub blocks : (p : Proposal) (e1 : ℕ) (t : Stamp) (e : ℕ) → IsSaid o p e1 → t.ver ≡ p.stamp.ver → t ≢ p.stamp → 1 ≤ e
      → IsLesser e t e1 p.stamp → IsBlocked o t p.base_place e
  -- a node acknowledges in the order of stamps
  pub ack_order : (n : ℕ) (p q : Proposal) (e f : ℕ) → HasAcked o n p e → HasAcked o n q f → is_below q.stamp p.stamp ≡ true → f ≤ e
  pub gathers : (n : ℕ) (g : Gather) → o.gather n ≡ Some g → IsGather o n g
  -- the chain of decided placements
  pub links : (v : ℕ) → v < length chain → IsLink o chain v (nth no_proposal chain v)
  pub known : (n : ℕ) × ((o.entry n).stamp ≡ chain_stamp chain (length chain))
  pub settled : (n : ℕ) → IsDecided o chain (o.entry n).stamp (o.entry n).place
  pub told : (t : Stamp) (place : Place) → In (Validates t place) o.letters → IsDecided o chain t place
