-- What may happen to an object, one move at a time. Every rule of the machine is a sequence of these; they allow more than it does.
use Rattle.std.specs.Prelude.{ℕ, ◌≡◌, ◌≢◌, ◌+◌, ◌<◌, ◌≤◌, true, false, List, [], ◌∷◌, ◌++◌, length, Option, Some, None, is_some, ◌⊎◌, ◌↔◌}
use Rattle.zeus_base.specs.Nodes.{has, is_subset}
use Rattle.zeus_base.specs.NodeLaws.{IsRising}
use Rattle.zeus_base.specs.Order.{is_below}
use Rattle.zeus_packet.specs.Place.{arbiters, new_place}
use Rattle.zeus_packet.specs.declared.place.Place.{Place}
use Rattle.zeus_packet.specs.declared.place.Proposal.{Proposal}
use Rattle.zeus_packet.specs.declared.place.Want.{Want}
use Rattle.zeus_packet.specs.declared.place.Want.TheVariants.{Leave}
use Rattle.zeus_packet.specs.declared.write.Content.{Content}
use Rattle.zeus_model.specs.Ownership.{settled_entry, gather_above, gather_for, greater_gather, noted}
use Rattle.zeus_model.specs.declared.state.Entry.{Entry}
use Rattle.zeus_model.specs.declared.state.Gather.{Gather}
use Rattle.ownership_safety.specs.Object.{Object, Letter, Invalidates, Acknowledges, Validates, In, IsLive, IsMember, IsSource, IsArbiter, IsSaid, view, chain_stamp, place_at}

-- what does not depend on the nodes stays
pub record SameSetting (old new : Object) : Type 0 where
  pub directory : new.directory ≡ old.directory
  pub declared : new.declared ≡ old.declared
  pub views : new.views ≡ old.views

-- all nodes but one stay as they are
pub record SameOthers (old new : Object) (n : ℕ) : Type 0 where
  pub stopped : (m : ℕ) → m ≢ n → new.stopped m ≡ old.stopped m
  pub epoch : (m : ℕ) → m ≢ n → new.epoch m ≡ old.epoch m
  pub entry : (m : ℕ) → m ≢ n → new.entry m ≡ old.entry m
  pub gather : (m : ℕ) → m ≢ n → new.gather m ≡ old.gather m

-- the letters stay, and each new one is allowed
pub record Sends (old new : Object) (allowed : Letter → Type 0) : Type 0 where
  pub kept : (l : Letter) → In l old.letters → In l new.letters
  pub only : (l : Letter) → In l new.letters → In l old.letters ⊎ allowed l

-- no letter is allowed
abbrev pub nothing : Letter → Type 0
nothing l = ⊥

-- a live node acts in its epoch
pub record Acts (old new : Object) (n : ℕ) : Type 0 where
  pub setting : SameSetting old new
  pub others : SameOthers old new n
  pub live : IsLive old n
  pub stopped : new.stopped n ≡ old.stopped n
  pub epoch : new.epoch n ≡ old.epoch n

-- the node's acknowledgement has a content exactly where it is the source of the base
abbrev pub IsAsSource : Object → ℕ → Proposal → Option Content → Type 0
IsAsSource o n p c = (is_some c ≡ true) ↔ IsSource o (o.epoch n) p.base_place n

-- invalidations go to arbiters of the base
pub data IsInvalidation (o : Object) (n : ℕ) (p : Proposal) : Letter → Type 0 where
  to_arbiter : (to : ℕ) → IsArbiter o (o.epoch n) p.base_place to → IsInvalidation o n p (Invalidates n to (o.epoch n) p)

-- an acknowledgement goes to the requester where that is a member
pub data IsAcknowledgement (o : Object) (n : ℕ) (p : Proposal) : Letter → Type 0 where
  to_collector : (to : ℕ) (c : Option Content) → (IsMember o (o.epoch n) p.requester → to ≡ p.requester) → IsAsSource o n p c
      → IsAcknowledgement o n p (Acknowledges n to (o.epoch n) p c)

-- the letter is the node's invalidation or acknowledgement of the proposal, in its epoch
abbrev pub IsAboutProposal : Object → ℕ → Proposal → Letter → Type 0
IsAboutProposal o n p l = IsInvalidation o n p l ⊎ IsAcknowledgement o n p l

-- the entry holds the proposal
abbrev pub holds : Entry → Proposal → Entry
holds e p = record { stamp = e.stamp; place = e.place; proposal = Some p }

-- a view with at least one member, all of the last view, that leaves out no live node
pub record NewView (old new : Object) (set : List ℕ) : Type 0 where
  pub directory : new.directory ≡ old.directory
  pub declared : new.declared ≡ old.declared
  pub views : new.views ≡ old.views ++ set ∷ []
  pub rising : IsRising set
  pub subset : is_subset set (view old (length old.views)) ≡ true
  pub live : (n : ℕ) → IsLive old n → has n set ≡ true
  pub stopped : (m : ℕ) → new.stopped m ≡ old.stopped m
  pub epoch : (m : ℕ) → new.epoch m ≡ old.epoch m
  pub entry : (m : ℕ) → new.entry m ≡ old.entry m
  pub gather : (m : ℕ) → new.gather m ≡ old.gather m
  pub sends : Sends old new nothing

-- a node stops
pub record Stops (old new : Object) (n : ℕ) : Type 0 where
  pub setting : SameSetting old new
  pub others : SameOthers old new n
  pub stopped : new.stopped n ≡ true
  pub epoch : new.epoch n ≡ old.epoch n
  pub entry : new.entry n ≡ old.entry n
  pub gather : new.gather n ≡ old.gather n
  pub sends : Sends old new nothing

-- a live node goes on to a later view, and drops what it gathered
pub record Installs (old new : Object) (n e : ℕ) : Type 0 where
  pub setting : SameSetting old new
  pub others : SameOthers old new n
  pub live : IsLive old n
  pub later : old.epoch n < e
  pub viewed : e ≤ length old.views
  pub stopped : new.stopped n ≡ old.stopped n
  pub epoch : new.epoch n ≡ e
  pub entry : new.entry n ≡ old.entry n
  pub gather : new.gather n ≡ None
  pub sends : Sends old new nothing

-- a live node settles a decided stamp above its own
pub record Settles (old new : Object) (chain : List Proposal) (n u : ℕ) : Type 0 where
  pub acts : Acts old new n
  pub first : 1 ≤ u
  pub decided : u ≤ length chain
  pub above : is_below (old.entry n).stamp (chain_stamp chain u) ≡ true
  pub entry : new.entry n ≡ settled_entry (old.entry n) (chain_stamp chain u) (place_at old chain u)
  pub gather : new.gather n ≡ gather_above (chain_stamp chain u) (old.gather n)
  pub sends : Sends old new nothing

-- a leaver is a replica and not the owner
abbrev pub MayWant : Want → ℕ → Place → Type 0
MayWant want requester place = want ≡ Leave → (has requester place.replicas ≡ true) × (place.owner ≢ requester)

-- a live directory node drives a request of a member on its settled placement
pub record Drives (old new : Object) (n : ℕ) (p : Proposal) : Type 0 where
  pub acts : Acts old new n
  pub directory : has n old.directory ≡ true
  pub requester : IsMember old (old.epoch n) p.requester
  pub free : (old.entry n).proposal ≡ None
  pub stamp : p.stamp ≡ record { ver = (old.entry n).stamp.ver + 1; driver = n }
  pub base : p.base ≡ (old.entry n).stamp
  pub base_place : p.base_place ≡ (old.entry n).place
  pub want : MayWant p.want p.requester p.base_place
  pub entry : new.entry n ≡ holds (old.entry n) p
  pub gather : new.gather n ≡ old.gather n
  pub sends : Sends old new (IsAboutProposal old n p)
  pub acked : (to : ℕ) × (c : Option Content) × In (Acknowledges n to (old.epoch n) p c) new.letters

-- a live arbiter holds a proposal that was said in its epoch, above its settled stamp, not below the one that it holds
pub record Accepts (old new : Object) (n : ℕ) (p : Proposal) : Type 0 where
  pub acts : Acts old new n
  pub said : IsSaid old p (old.epoch n)
  pub arbiter : IsArbiter old (old.epoch n) p.base_place n
  pub not_below_base : is_below (old.entry n).stamp p.base ≡ false
  pub below : is_below (old.entry n).stamp p.stamp ≡ true
  pub greatest : (q : Proposal) → (old.entry n).proposal ≡ Some q → is_below p.stamp q.stamp ≡ false
  pub entry : new.entry n ≡ holds (old.entry n) p
  pub gather : new.gather n ≡ old.gather n
  pub sends : Sends old new (IsAboutProposal old n p)
  pub acked : (to : ℕ) × (c : Option Content) × In (Acknowledges n to (old.epoch n) p c) new.letters

-- a live node says again what it holds
pub record Redrives (old new : Object) (n : ℕ) (p : Proposal) : Type 0 where
  pub acts : Acts old new n
  pub held : (old.entry n).proposal ≡ Some p
  pub entry : new.entry n ≡ old.entry n
  pub gather : new.gather n ≡ old.gather n
  pub sends : Sends old new (IsAboutProposal old n p)

-- a live node notes an acknowledgement of its epoch, above its settled stamp, not below what it gathers
pub record Notes (old new : Object) (n : ℕ) (p : Proposal) (a : ℕ) (c : Option Content) : Type 0 where
  pub acts : Acts old new n
  pub sent : In (Acknowledges a n (old.epoch n) p c) old.letters
  pub below : is_below (old.entry n).stamp p.stamp ≡ true
  pub greatest : greater_gather p.stamp (old.gather n) ≡ None
  pub entry : new.entry n ≡ old.entry n
  pub gather : new.gather n ≡ Some (noted (gather_for p (old.gather n)) a c)
  pub sends : Sends old new nothing

-- a live node decides what it has gathered from every arbiter, with a content
pub record Decides (old new : Object) (n : ℕ) (g : Gather) : Type 0 where
  pub acts : Acts old new n
  pub gathered : old.gather n ≡ Some g
  pub directory : (d : ℕ) × (has d old.directory ≡ true) × IsMember old (old.epoch n) d
  pub source : (s : ℕ) × IsSource old (old.epoch n) g.proposal.base_place s
  pub content : is_some g.content ≡ true
  pub complete : is_subset (arbiters g.proposal.base_place (view old (old.epoch n)) old.directory) g.acks ≡ true
  pub entry : new.entry n ≡ settled_entry (old.entry n) g.proposal.stamp (new_place g.proposal)
  pub gather : new.gather n ≡ gather_above g.proposal.stamp (old.gather n)
  pub sends : Sends old new nothing

-- a live node tells its settled placement
pub record Tells (old new : Object) (n : ℕ) : Type 0 where
  pub acts : Acts old new n
  pub entry : new.entry n ≡ old.entry n
  pub gather : new.gather n ≡ old.gather n
  pub sends : Sends old new (λ l. l ≡ Validates (old.entry n).stamp (old.entry n).place)
