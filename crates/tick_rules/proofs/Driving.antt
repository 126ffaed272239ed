-- What a node says again of a proposal that it holds.
use Rattle.std.proofs.Common.{ℕ, ◌≡◌, Bool, true, false, List, [], ◌∷◌, ◌++◌, Option, Some, None, refl, sym, ap, ◌∙◌}
use Rattle.std.specs.Prelude.{is_none, is_some, if◌then◌else◌}
use Rattle.zeus_packet.specs.Place.{source}
use Rattle.zeus_packet.specs.declared.place.Proposal.{Proposal}
use Rattle.zeus_model.specs.Membership.{letters_of, own_acknowledgement, repeat_proposal, repeat_proposals}
use Rattle.zeus_model.specs.Ownership.{acknowledgement, collector, invalidations, is_source, unready_cause}
use Rattle.zeus_model.specs.State.{Node, entry, is_open}
use Rattle.zeus_model.specs.Tables.{below}

-- ---- one proposal

none_is : {A : Type 0} (o : Option A) (b : Bool) → is_some o ≡ b → is_none o ≡ (if b then false else true)
none_is None true h = absurd cc
none_is None false h = refl
none_is (Some a) true h = refl
none_is (Some a) false h = absurd cc

-- no proposal is held
pub proposal-none : (n : Node) (x : ℕ) (o : Option Proposal) → o ≡ None → repeat_proposal n x o ≡ []
unfolding repeat_proposal
proposal-none n x o is = rw is refl

-- the base has no source
pub proposal-lost : (n : Node) (x : ℕ) (o : Option Proposal) (p : Proposal) → o ≡ Some p → is_some (source p.base_place n.members) ≡ false → repeat_proposal n x o ≡ []
unfolding repeat_proposal
proposal-lost n x o p is lost = rw (is, none_is (source p.base_place n.members) false lost) refl

-- the base has a source
pub proposal-driven : (n : Node) (x : ℕ) (o : Option Proposal) (p : Proposal) → o ≡ Some p → is_some (source p.base_place n.members) ≡ true → repeat_proposal n x o ≡ invalidations n x p ++ own_acknowledgement n x p
unfolding repeat_proposal
proposal-driven n x o p is there = rw (is, none_is (source p.base_place n.members) true there) refl

-- ---- the own acknowledgement

-- the node is a source that is not ready
pub own-silent : (n : Node) (x : ℕ) (p : Proposal) → is_source n p.base_place ≡ true → is_some (unready_cause n x) ≡ true → own_acknowledgement n x p ≡ []
unfolding own_acknowledgement
own-silent n x p source unready = rw (source, unready) refl

-- it is not the source
pub own-beside : (n : Node) (x : ℕ) (p : Proposal) → is_source n p.base_place ≡ false → own_acknowledgement n x p ≡ acknowledgement n (collector n p n.me) x p ∷ []
unfolding own_acknowledgement
own-beside n x p other = rw other refl

-- it is a source that is ready
pub own-ready : (n : Node) (x : ℕ) (p : Proposal) → is_source n p.base_place ≡ true → is_some (unready_cause n x) ≡ false → own_acknowledgement n x p ≡ acknowledgement n (collector n p n.me) x p ∷ []
unfolding own_acknowledgement
own-ready n x p source ready = rw (source, ready) refl

-- ---- all proposals

-- the node is not open
pub proposals-closed : (n : Node) → is_open n ≡ false → repeat_proposals n ≡ []
unfolding repeat_proposals
proposals-closed n closed = rw closed refl

-- it is open
pub proposals-open : (n : Node) → is_open n ≡ true → repeat_proposals n ≡ letters_of (λ x. repeat_proposal n x (entry n x).proposal) (below (Rattle.std.proofs.Common.length n.entries))
unfolding repeat_proposals
proposals-open n open_node = rw open_node refl
