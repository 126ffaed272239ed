-- What moves leave of an object, and what a decision makes of the chain.
use Rattle.std.specs.Prelude.{ℕ, suc, ◌≡◌, ◌≢◌, ◌<◌, ◌≤◌, true, false, List, [], ◌∷◌, ◌++◌, length, Option, None, ◌⊎◌}
use Rattle.zeus_base.specs.Nodes.{has}
use Rattle.zeus_base.specs.NodeLaws.{IsRising}
use Rattle.zeus_base.specs.Order.{is_below}
use Rattle.zeus_packet.specs.declared.place.Proposal.{Proposal}
use Rattle.zeus_packet.specs.declared.write.Content.{Content}
use Rattle.zeus_model.specs.Tables.{nth}
use Rattle.ownership_safety.specs.Object.{Object, Letter, Invalidates, Acknowledges, In, IsView, IsLive, view, rank, no_proposal, first_stamp, chain_stamp, latest}
use Rattle.ownership_safety.specs.Moves.{Settles}
use Rattle.ownership_safety.specs.OwnershipInvariant.{OwnershipInvariant, IsPlaced}

-- an object in the beginning: one view, nothing said or gathered, and each node has settled the declared placement
pub record IsStart (o : Object) : Type 0 where
  pub declared : IsPlaced o.declared
  pub members : List ℕ
  pub rising : IsRising members
  pub views : o.views ≡ members ∷ []
  pub letters : o.letters ≡ []
  pub entry : (n : ℕ) → o.entry n ≡ record { stamp = first_stamp; place = o.declared; proposal = None }
  pub gather : (n : ℕ) → o.gather n ≡ None
  pub epoch : (n : ℕ) → IsLive o n → o.epoch n ≡ 1
  pub member : (n : ℕ) → IsLive o n → has n members ≡ true

-- the node is live and in this epoch
pub record IsSpeaker (o : Object) (n e : ℕ) : Type 0 where
  pub live : IsLive o n
  pub epoch : o.epoch n ≡ e

-- the node is live, in this epoch, and its rank is not above the stamp
pub record IsVoter (o : Object) (n : ℕ) (p : Proposal) (e : ℕ) : Type 0 where
  pub live : IsLive o n
  pub epoch : o.epoch n ≡ e
  pub rank : is_below p.stamp (rank o n) ≡ false

-- nothing is taken back: views, letters and stops stay, epochs, ranks and settled stamps do not fall, and who newly speaks is live
-- and speaks in its epoch
pub record Grows (old new : Object) : Type 0 where
  pub directory : new.directory ≡ old.directory
  pub declared : new.declared ≡ old.declared
  pub viewed : (e : ℕ) → IsView old e → IsView new e
  pub views : (e : ℕ) → IsView old e → view new e ≡ view old e
  pub stopped : (n : ℕ) → old.stopped n ≡ true → new.stopped n ≡ true
  pub epoch : (n : ℕ) → old.epoch n ≤ new.epoch n
  pub rank : (n : ℕ) → is_below (rank new n) (rank old n) ≡ false
  pub settled : (n : ℕ) → is_below (new.entry n).stamp (old.entry n).stamp ≡ false
  pub letters : (l : Letter) → In l old.letters → In l new.letters
  pub invalidations : (from to e : ℕ) (p : Proposal) → In (Invalidates from to e p) new.letters
      → In (Invalidates from to e p) old.letters ⊎ IsSpeaker old from e
  pub acks : (from to e : ℕ) (p : Proposal) (c : Option Content) → In (Acknowledges from to e p c) new.letters
      → In (Acknowledges from to e p c) old.letters ⊎ IsVoter old from p e

-- what many moves leave: views, letters and stops stay, and epochs, ranks and settled stamps do not fall
pub record Rises (old new : Object) : Type 0 where
  pub directory : new.directory ≡ old.directory
  pub declared : new.declared ≡ old.declared
  pub viewed : (e : ℕ) → IsView old e → IsView new e
  pub views : (e : ℕ) → IsView old e → view new e ≡ view old e
  pub stopped : (n : ℕ) → old.stopped n ≡ true → new.stopped n ≡ true
  pub epoch : (n : ℕ) → old.epoch n ≤ new.epoch n
  pub rank : (n : ℕ) → is_below (rank new n) (rank old n) ≡ false
  pub settled : (n : ℕ) → is_below (new.entry n).stamp (old.entry n).stamp ≡ false
  pub letters : (l : Letter) → In l old.letters → In l new.letters

-- a decision of what is decided already: another node asked for it, and it settles like any decided stamp
pub record IsAgain (old new : Object) (chain : List Proposal) (n : ℕ) (p : Proposal) : Type 0 where
  pub inside : p.base.ver < length chain
  pub link : p ≡ nth no_proposal chain p.base.ver
  pub requester : p.requester ≢ n
  pub settles : Settles old new chain n p.stamp.ver
  pub ownership : OwnershipInvariant new chain

-- the first decision of a proposal: it stands on the latest placement, and makes the chain one longer
pub record IsFirst (old new : Object) (chain : List Proposal) (n : ℕ) (p : Proposal) : Type 0 where
  pub last : p.base.ver ≡ length chain
  pub ver : p.stamp.ver ≡ suc (length chain)
  pub base : p.base ≡ chain_stamp chain (length chain)
  pub base_place : p.base_place ≡ latest old chain
  pub requester : (p.requester ≡ n) ⊎ (old.stopped p.requester ≡ true)
  pub ownership : OwnershipInvariant new (chain ++ p ∷ [])
