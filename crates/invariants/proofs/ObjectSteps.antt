-- Each move of the machine is a move of each object.
use Rattle.std.specs.Prelude.{ℕ, ◌≡◌, ◌≢◌, true, List, Option, Some, None, is_some, ◌↔◌}
use Rattle.std.proofs.Common.{arith, refl, sym, ap, inl, inr, ◌∙◌, subst}
use Rattle.std.proofs.lemmas.Bool.{cases_Bool, eq-eqb}
use Rattle.std.proofs.lemmas.Bool.Decides.{nat_tests}
use Rattle.zeus_base.specs.Nodes.{has}
use Rattle.zeus_base.specs.Order.{is_below}
use Rattle.zeus_base.specs.declared.order.Stamp.{Stamp}
use Rattle.zeus_packet.specs.Place.{source, arbiters}
use Rattle.zeus_packet.specs.declared.letter.Body.TheVariants.{OAck}
use Rattle.zeus_packet.specs.declared.letter.Cause.{Cause}
use Rattle.zeus_packet.specs.declared.letter.Letter.{Letter}
use Rattle.zeus_packet.specs.declared.place.Place.{Place}
use Rattle.zeus_packet.specs.declared.place.Proposal.{Proposal}
use Rattle.zeus_packet.specs.declared.write.Content.{Content}
use Rattle.zeus_model.specs.In.{In}
use Rattle.zeus_model.specs.Tables.{or_else}
use Rattle.zeus_model.specs.Act.{letter}
use Rattle.zeus_model.specs.State.{Node, entry, copy, holder}
use Rattle.zeus_model.specs.Ownership.{is_node, is_source, own_content, content_of, unready_cause, missing_cause, held_cause, state_cause}
use Rattle.zeus_model.specs.declared.state.Copy.{Copy}
use Rattle.machine_moves.specs.SystemState.{SystemState, IsLive, IsNumbered}
use Rattle.machine_moves.specs.Move.{IsTellable, IsAboutProposal, HasAcked, request, advice, placement, reported, own_entry, kept_entry, stored, own_passed, kept_passed, to_arbiter, to_collector, IsSettling, by_invalidation, by_acknowledgement, by_decision}
use Rattle.ownership_safety.specs.Object.{Object, Invalidates, Acknowledges, Validates, Letter as Said, chain_stamp, place_at, first_stamp}
use Rattle.ownership_safety.specs.Moves as moves
use Rattle.ownership_safety.specs.OwnershipInvariant.{OwnershipInvariant, IsDecided, IsProposal}
use Rattle.invariants.specs.Objects.{object, about, said_of}
use Rattle.invariants.proofs.AboutObjects.{says, says-oinv, says-oack, says-oval, about-in, only_about-from}
use Rattle.invariants.proofs.ObjectMoves.{TellsPlace}

-- ---- what is told of an object

-- what a node tells without a change of its state is at most where it is settled
pub tellable-says : (n : Node) (x : ℕ) (l : Letter) (m : Said) → IsTellable n l → In m (says x l) → TellsPlace n x m
unfolding said_of
tellable-says n x l m (request to y w) i = elim i [ ]
tellable-says n x l m (advice to y t c) i = elim i [ ]
tellable-says n x l m (placement to y) i =
    let found : (y ≡ x) × (m ≡ Validates (entry n y).stamp (entry n y).place) = only_about-from x y m (Validates (entry n y).stamp (entry n y).place) i in
    found.1 ∙ ap (λ (z : ℕ). Validates (entry n z).stamp (entry n z).place) found.0
tellable-says n x l m (reported to r) i = elim i [ ]
tellable-says n x l m (own_entry to s k _ _ _ _) i = elim i [ ]
tellable-says n x l m (kept_entry to k s _ _ _ _ _) i = elim i [ ]
tellable-says n x l m (stored to k s _ _) i = elim i [ ]
tellable-says n x l m (own_passed to s d _ _) i = elim i [ ]
tellable-says n x l m (kept_passed to d s _ _ _) i = elim i [ ]

-- ---- proposals that a node says

-- what a node says of a proposal for one object, another does not hear
pub about_proposal-other : (n : Node) (x y : ℕ) (p : Proposal) (l : Letter) (m : Said) → x ≢ y → IsAboutProposal n x p l → In m (says y l) → ⊥
unfolding said_of
about_proposal-other n x y p l m ne (to_arbiter to h) i =
    let found : (x ≡ y) × (m ≡ Invalidates n.me to n.epoch p) = only_about-from y x m (Invalidates n.me to n.epoch p) i in ne found.0
about_proposal-other n x y p l m ne (to_collector to h r) i =
    let found : (x ≡ y) × (m ≡ Acknowledges n.me to n.epoch p (own_content n x p.base_place)) =
    only_about-from y x m (Acknowledges n.me to n.epoch p (own_content n x p.base_place)) i in
    ne found.0

-- if the test says that an optional node is this one, then it is this one
pub is_node-some : (o : Option ℕ) (n : ℕ) → is_node o n ≡ true → o ≡ Some n
unfolding is_node
is_node-some None n h = cc
is_node-some (Some m) n h = let e : m ≡ n = grind (arith, nat_tests) in ap (λ (k : ℕ). Some k) e

some-is_node : (o : Option ℕ) (n : ℕ) → o ≡ Some n → is_node o n ≡ true
unfolding is_node
some-is_node o n h = rw h (eq-eqb n n refl)

ready-copy : (c : Option Copy) (h s : Option Cause) → or_else (missing_cause c) (or_else h s) ≡ None → is_some (content_of c) ≡ true
unfolding or_else missing_cause content_of
ready-copy None h s e = cc
ready-copy (Some c) h s e = refl

none_some : is_some (let c : Option Content = None in c) ≡ true → ⊥
none_some h = cc

-- a node adds a content exactly where it is the source
pub content-as_source : (n : Node) (x : ℕ) (place : Place) → (is_source n place ≡ true → unready_cause n x ≡ None)
    → (is_some (own_content n x place) ≡ true) ↔ (source place n.members ≡ Some n.me)
unfolding own_content unready_cause
content-as_source n x place ready =
    elim (cases_Bool (is_source n place)) [
      | inl is ↦ (
        λ h. is_node-some (source place n.members) n.me is,
        λ h. rw is (ready-copy (copy n x) (held_cause (holder n x)) (state_cause (copy n x)) (ready is)),
      )
      | inr not_source ↦ (
        λ h. absurd (none_some (rw not_source at h)),
        λ h. let is : is_source n place ≡ true = some-is_node (source place n.members) n.me h in cc,
      )
    ]

-- what is known of the node that acts
pub record IsActor (old : SystemState) (x n : ℕ) : Type 0 where
  pub me : (old.node n).me ≡ n
  pub directory : (old.node n).directory ≡ (object old x).directory
  pub members : (old.node n).members ≡ Rattle.ownership_safety.specs.Object.view (object old x) ((object old x).epoch n)
  pub epoch : (object old x).epoch n ≡ (old.node n).epoch

-- a live node has its number, and the directory, members and epoch that the object sees
pub actor : (old : SystemState) (x n : ℕ) → IsNumbered old → IsLive old n → IsActor old x n
unfolding object
actor old x n numbered live = record {
  me = numbered.me n live;
  directory = numbered.directory n live;
  members = numbered.members n live;
  epoch = refl;
}

-- the members that the object knows of the node's epoch
abbrev pub object_view : SystemState → ℕ → ℕ → List ℕ
object_view s x n = Rattle.ownership_safety.specs.Object.view (object s x) ((object s x).epoch n)

-- a node's letters about a proposal are invalidations to arbiters and acknowledgements to the collector
pub about_proposal-heard : (old : SystemState) (x n : ℕ) (p : Proposal) (l : Letter) (m : Said) → IsNumbered old → IsLive old n
    → IsAboutProposal (old.node n) x p l → In m (says x l) → moves.IsAboutProposal (object old x) n p m
unfolding said_of
about_proposal-heard old x n p l m numbered live (to_arbiter to h) i =
    let a : IsActor old x n = actor old x n numbered live in
    let found : (x ≡ x) × (m ≡ Invalidates (old.node n).me to (old.node n).epoch p) = only_about-from x x m (Invalidates (old.node n).me to (old.node n).epoch p) i in
    let same : Invalidates (old.node n).me to (old.node n).epoch p ≡ Invalidates n to ((object old x).epoch n) p =
    ap (λ (k : ℕ). Invalidates k to (old.node n).epoch p) a.me ∙ ap (λ (k : ℕ). Invalidates n to k p) (sym a.epoch) in
    let arbiter : has to (arbiters p.base_place (object_view old x n) (object old x).directory) ≡ true = rw (← a.directory, ← a.members) h in
    rw (found.1, same) (inl (moves.to_arbiter to arbiter))
about_proposal-heard old x n p l m numbered live (to_collector to h ready) i =
    let a : IsActor old x n = actor old x n numbered live in
    let c : Option Content = own_content (old.node n) x p.base_place in
    let found : (x ≡ x) × (m ≡ Acknowledges (old.node n).me to (old.node n).epoch p c) = only_about-from x x m (Acknowledges (old.node n).me to (old.node n).epoch p c) i in
    let same : Acknowledges (old.node n).me to (old.node n).epoch p c ≡ Acknowledges n to ((object old x).epoch n) p c =
    ap (λ (k : ℕ). Acknowledges k to (old.node n).epoch p c) a.me ∙ ap (λ (k : ℕ). Acknowledges n to k p c) (sym a.epoch) in
    let requester : has p.requester (object_view old x n) ≡ true → to ≡ p.requester = λ r. h (rw a.members r) in
    let content : (is_some c ≡ true) ↔ (source p.base_place (object_view old x n) ≡ Some n) =
    rw (← a.members) (subst (λ (k : ℕ). (is_some c ≡ true) ↔ (source p.base_place (old.node n).members ≡ Some k)) a.me (content-as_source (old.node n) x p.base_place ready)) in
    rw (found.1, same) (inr (moves.to_collector to c requester content))

-- the acknowledgement is among the letters about the object
pub acked-heard : (old new : SystemState) (x n : ℕ) (p : Proposal) → IsNumbered old → IsLive old n → HasAcked new (old.node n) x p
    → (to : ℕ) × (c : Option Content) × In (Acknowledges n to ((object old x).epoch n) p c) (object new x).letters
unfolding object
acked-heard old new x n p numbered live acked =
    let c : Option Content = own_content (old.node n) x p.base_place in
    let said : In (Acknowledges (old.node n).me acked.0 (old.node n).epoch p c) (about x new.letters) =
    about-in x (Acknowledges (old.node n).me acked.0 (old.node n).epoch p c) (letter (old.node n) acked.0 (OAck x p c)) new.letters acked.1
    (says-oack x (old.node n).me acked.0 (old.node n).epoch p c) in
    (acked.0, c, subst (λ (k : ℕ). In (Acknowledges k acked.0 (old.node n).epoch p c) (about x new.letters)) (numbered.me n live) said)

-- ---- settling

-- a stamp above another is not the first
pub above-first : (t s : Stamp) → is_below t s ≡ true → s ≡ first_stamp → ⊥
unfolding is_below
above-first t s h first = let low : is_below t first_stamp ≡ true = rw first at h in grind (arith, nat_tests, low)

-- the letter that a node settles by tells a decided placement
pub settling-decided : (old : SystemState) (x : ℕ) (chain : List Proposal) (stamp : Stamp) (place : Place) (l : Letter)
    → OwnershipInvariant (object old x) chain → In l old.letters → IsSettling x stamp place l → IsDecided (object old x) chain stamp place
unfolding object
settling-decided old x chain stamp place l ownership i (by_invalidation from to e p base at_place) =
    let said : In (Invalidates from to e p) (about x old.letters) = about-in x (Invalidates from to e p) l old.letters i (says-oinv x from to e p) in
    let is : IsProposal (object old x) chain p = ownership.proposals p e (inl (from, to, said)) in
    rw (← base, ← at_place) record { ver = is.decided; stamp = is.base; place = is.base_place }
settling-decided old x chain stamp place l ownership i (by_acknowledgement from to e p c base at_place) =
    let said : In (Acknowledges from to e p c) (about x old.letters) = about-in x (Acknowledges from to e p c) l old.letters i (says-oack x from to e p c) in
    let is : IsProposal (object old x) chain p = ownership.proposals p e (inr (from, (to, c, said))) in
    rw (← base, ← at_place) record { ver = is.decided; stamp = is.base; place = is.base_place }
settling-decided old x chain stamp place l ownership i (by_decision from to e) =
    ownership.told stamp place (about-in x (Validates stamp place) l old.letters i (says-oval x from to e stamp place))
