-- What a node may expect of the letters of a run, whose streams are replicated and whose declared objects are in order.
use Rattle.std.specs.Prelude.{ℕ, ◌≡◌, ◌≢◌, true, false, List, Option, Some, ◌⊎◌}
use Rattle.std.proofs.Common.{refl, sym, ap, ◌∙◌, inl, inr, subst, eq-eqb}
use Rattle.zeus_base.specs.Nodes.{has}
use Rattle.zeus_base.specs.Order.{is_below}
use Rattle.zeus_base.specs.declared.order.Stamp.{Stamp}
use Rattle.zeus_base.specs.declared.order.Stream.{Stream}
use Rattle.zeus_packet.specs.Place.{source, new_place}
use Rattle.zeus_packet.specs.declared.letter.Body.{Body}
use Rattle.zeus_packet.specs.declared.letter.Body.TheVariants.{RInv, RVal, OInv, OAck, OVal}
use Rattle.zeus_packet.specs.declared.letter.Letter.{Letter}
use Rattle.zeus_packet.specs.declared.letter.RInv.{RInv as Invalidation}
use Rattle.zeus_packet.specs.declared.place.Place.{Place}
use Rattle.zeus_packet.specs.declared.place.Proposal.{Proposal}
use Rattle.zeus_packet.specs.declared.write.Content.{Content}
use Rattle.zeus_model.specs.In.{In}
use Rattle.zeus_model.specs.State.{entry}
use Rattle.zeus_model.specs.Ownership.{is_node}
use Rattle.zeus_model.specs.declared.state.Entry.{Entry}
use Rattle.machine_moves.specs.SystemState.{SystemState, IsLive, IsNumbered, IsReceivable, view}
use Rattle.ownership_safety.specs.Object.{Invalidates, Acknowledges, Validates}
use Rattle.ownership_safety.specs.OwnershipInvariant.{OwnershipInvariant}
use Rattle.ownership_safety.proofs.Received.{invalidation-either, base-own_place, told-own_place, ack-collector, ack-own_place}
use Rattle.replication_safety.specs.StreamState.{Stores, Passes}
use Rattle.replication_safety.proofs.Received.{stores-foreign, passes-foreign}
use Rattle.invariants.specs.Objects.{object, said_of}
use Rattle.invariants.specs.Streams.{stream_state, said_of as said_of_stream}
use Rattle.invariants.proofs.AboutObjects.{about-in, says-oinv, says-oack, says-oval, object-entry}
use Rattle.invariants.proofs.AboutStreams.{about-in as about_stream-in, says-rinv, says-rval}
use Rattle.invariants.proofs.StreamKeeps.{IsKept}
use Rattle.invariants.proofs.ObjectMoves.{object-live}
use Rattle.soundness.proofs.NeverCauses.{IsArbiterOf}
use Rattle.soundness.proofs.NeverRows.{KeepsOwner, KeepsOwnerIn, IsCollectorOf, Expected}

-- ---- entries

heard_rinv : (s : SystemState) (l : Letter) (r : Invalidation) → In l s.letters → l.body ≡ RInv r
    → In (Stores l.from l.to l.epoch r.number r.done record { followers = r.followers; writes = r.writes }) (stream_state s r.stream).letters
unfolding stream_state
heard_rinv s l r i is =
    about_stream-in r.stream (Stores l.from l.to l.epoch r.number r.done record { followers = r.followers; writes = r.writes }) l s.letters i
    (subst (λ (b : Body). In (Stores l.from l.to l.epoch r.number r.done record { followers = r.followers; writes = r.writes }) (said_of_stream r.stream l.from l.to l.epoch b))
    (sym is) (says-rinv r.stream l.from l.to l.epoch r refl))

heard_rval : (s : SystemState) (l : Letter) (t : Stream) (d : ℕ) → In l s.letters → l.body ≡ RVal t d → In (Passes l.to d) (stream_state s t).letters
unfolding stream_state
heard_rval s l t d i is =
    about_stream-in t (Passes l.to d) l s.letters i
    (subst (λ (b : Body). In (Passes l.to d) (said_of_stream t l.from l.to l.epoch b)) (sym is) (says-rval t l.from l.to l.epoch d))

stream-home : (s : SystemState) (t : Stream) → (stream_state s t).home ≡ t.node
unfolding stream_state
stream-home s t = refl

-- if a stream is replicated safely, then the letter of an entry that a live node can take is one that it may expect
pub rinv_expected : (s : SystemState) (n : ℕ) (l : Letter) (r : Invalidation) → IsNumbered s → IsLive s n → IsReceivable s n l → l.body ≡ RInv r → IsKept (stream_state s r.stream)
    → Expected (s.node n) (RInv r)
unfolding Expected
rinv_expected s n l r numbered live at is kept =
    let heard = heard_rinv s l r at.2 is in (
      λ h. stores-foreign (stream_state s r.stream) kept.0 l.from l.to l.epoch r.number r.done _ kept.1 heard
          (at.0 ∙ sym (numbered.me n live) ∙ sym h ∙ sym (stream-home s r.stream)),
      (kept.1.copies l.from l.to l.epoch r.number r.done _ heard).near,
    )

-- if a stream is replicated safely, then the letter of passed entries that a live node can take is one that it may expect
pub rval_expected : (s : SystemState) (n : ℕ) (l : Letter) (t : Stream) (d : ℕ) → IsNumbered s → IsLive s n → IsReceivable s n l → l.body ≡ RVal t d → IsKept (stream_state s t)
    → Expected (s.node n) (RVal t d)
unfolding Expected
rval_expected s n l t d numbered live at is kept h =
    passes-foreign (stream_state s t) kept.0 l.to d kept.1 (heard_rval s l t d at.2 is) (at.0 ∙ sym (numbered.me n live) ∙ sym h ∙ sym (stream-home s t))

-- ---- declared objects

heard_oinv : (s : SystemState) (x n : ℕ) (l : Letter) (p : Proposal) → IsReceivable s n l → l.body ≡ OInv x p → In (Invalidates l.from n (s.node n).epoch p) (object s x).letters
unfolding object
heard_oinv s x n l p at is =
    rw (at.0, at.1) at (about-in x (Invalidates l.from l.to l.epoch p) l s.letters at.2
    (subst (λ (b : Body). In (Invalidates l.from l.to l.epoch p) (said_of x l.from l.to l.epoch b)) (sym is) (says-oinv x l.from l.to l.epoch p)))

heard_oack : (s : SystemState) (x n : ℕ) (l : Letter) (p : Proposal) (c : Option Content) → IsReceivable s n l → l.body ≡ OAck x p c
    → In (Acknowledges l.from n (s.node n).epoch p c) (object s x).letters
unfolding object
heard_oack s x n l p c at is =
    rw (at.0, at.1) at (about-in x (Acknowledges l.from l.to l.epoch p c) l s.letters at.2
    (subst (λ (b : Body). In (Acknowledges l.from l.to l.epoch p c) (said_of x l.from l.to l.epoch b)) (sym is) (says-oack x l.from l.to l.epoch p c)))

heard_oval : (s : SystemState) (x : ℕ) (l : Letter) (t : Stamp) (place : Place) → In l s.letters → l.body ≡ OVal x t place → In (Validates t place) (object s x).letters
unfolding object
heard_oval s x l t place i is =
    about-in x (Validates t place) l s.letters i
    (subst (λ (b : Body). In (Validates t place) (said_of x l.from l.to l.epoch b)) (sym is) (says-oval x l.from l.to l.epoch t place))

-- who the node is, and what it knows, as the object sees it
keeps_owner : (s : SystemState) (x n : ℕ) (stamp : Stamp) (place : Place) → IsNumbered s → IsLive s n
    → (is_below ((object s x).entry n).stamp stamp ≡ true → place.owner ≡ n → ((object s x).entry n).place.owner ≡ n) → KeepsOwner (s.node n) x stamp place
keeps_owner s x n stamp place numbered live h below named =
    let there : (object s x).entry n ≡ entry (s.node n) x = object-entry s x n (numbered.within n live) in
    let me : (s.node n).me ≡ n = numbered.me n live in
    ap (λ (e : Entry). e.place.owner) (sym there) ∙ h (rw there below) (named ∙ me) ∙ sym me

keeps_owner_in : (s : SystemState) (x n : ℕ) (p : Proposal) → IsNumbered s → IsLive s n
    → (is_below ((object s x).entry n).stamp p.base ≡ false → is_below ((object s x).entry n).stamp p.stamp ≡ true
    → (new_place p).owner ≡ n → p.requester ≢ n → ((object s x).entry n).place.owner ≡ n)
    → KeepsOwnerIn (s.node n) x p
keeps_owner_in s x n p numbered live h not_below below named other =
    let there : (object s x).entry n ≡ entry (s.node n) x = object-entry s x n (numbered.within n live) in
    let me : (s.node n).me ≡ n = numbered.me n live in
    ap (λ (e : Entry). e.place.owner) (sym there) ∙ h (rw there not_below) (rw there below) (named ∙ me) (λ same. other (same ∙ sym me)) ∙ sym me

some-is_node : (o : Option ℕ) (n : ℕ) → o ≡ Some n → is_node o n ≡ true
unfolding is_node
some-is_node o n h = rw h (eq-eqb n n refl)

-- if a live node is a directory node or the source of a place in its view, then it knows that it is an arbiter
pub arbiter-known : (s : SystemState) (n : ℕ) (place : Place) → IsNumbered s → IsLive s n
    → (has n s.config.directory ≡ true) ⊎ (source place (view s (s.node n).epoch) ≡ Some n) → IsArbiterOf (s.node n) place
arbiter-known s n place numbered live (inl directory) = inl (rw (numbered.me n live, numbered.directory n live) directory)
arbiter-known s n place numbered live (inr at_source) =
    inr (rw (numbered.me n live, numbered.members n live) (some-is_node (source place (view s (s.node n).epoch)) n at_source))

-- if a live node is a proposal's requester, or that one is no member, then it knows that it is the collector
pub collector-known : (s : SystemState) (n : ℕ) (p : Proposal) → IsNumbered s → IsLive s n
    → (p.requester ≡ n) ⊎ (has p.requester (view s (s.node n).epoch) ≡ false) → IsCollectorOf (s.node n) p
collector-known s n p numbered live (inl mine) = inl (mine ∙ sym (numbered.me n live))
collector-known s n p numbered live (inr out) = inr (rw (numbered.members n live) out)

arbiter_of : (s : SystemState) (x n : ℕ) (l : Letter) (p : Proposal) (chain : List Proposal) → IsNumbered s → IsLive s n → IsReceivable s n l → l.body ≡ OInv x p
    → OwnershipInvariant (object s x) chain → IsArbiterOf (s.node n) p.base_place
unfolding object
arbiter_of s x n l p chain numbered live at is ownership =
    arbiter-known s n p.base_place numbered live (invalidation-either (object s x) chain ownership l.from n p (heard_oinv s x n l p at is))

collector_of : (s : SystemState) (x n : ℕ) (l : Letter) (p : Proposal) (c : Option Content) (chain : List Proposal) → IsNumbered s → IsLive s n → IsReceivable s n l
    → l.body ≡ OAck x p c → OwnershipInvariant (object s x) chain → IsCollectorOf (s.node n) p
unfolding object
collector_of s x n l p c chain numbered live at is ownership =
    collector-known s n p numbered live (ack-collector (object s x) chain ownership l.from n p c (heard_oack s x n l p c at is))

-- if the ownership invariant of an object holds, then an OInv that a live node can take is one that it may expect
pub oinv_expected : (s : SystemState) (x n : ℕ) (l : Letter) (p : Proposal) (chain : List Proposal) → IsNumbered s → IsLive s n → IsReceivable s n l → l.body ≡ OInv x p
    → OwnershipInvariant (object s x) chain → Expected (s.node n) (OInv x p)
unfolding Expected
oinv_expected s x n l p chain numbered live at is ownership =
    let o = object s x in
    let heard = heard_oinv s x n l p at is in (
      arbiter_of s x n l p chain numbered live at is ownership,
      keeps_owner s x n p.base p.base_place numbered live
          (λ below named. base-own_place o chain ownership n (s.node n).epoch p (object-live s x n live) (inl (l.from, n, heard)) below named),
    )

-- if the ownership invariant of an object holds, then an OAck that a live node can take is one that it may expect
pub oack_expected : (s : SystemState) (x n : ℕ) (l : Letter) (p : Proposal) (c : Option Content) (chain : List Proposal) → IsNumbered s → IsLive s n → IsReceivable s n l
    → l.body ≡ OAck x p c → OwnershipInvariant (object s x) chain → Expected (s.node n) (OAck x p c)
unfolding Expected object
oack_expected s x n l p c chain numbered live at is ownership =
    let o = object s x in
    let heard = heard_oack s x n l p c at is in (
      collector_of s x n l p c chain numbered live at is ownership,
      keeps_owner s x n p.base p.base_place numbered live
          (λ below named. base-own_place o chain ownership n (s.node n).epoch p (object-live s x n live) (inr (l.from, (n, c, heard))) below named),
      keeps_owner_in s x n p numbered live
          (λ not_below below named other. ack-own_place o chain ownership l.from n p c (object-live s x n live) heard not_below below named other),
    )

-- if the ownership invariant of an object holds, then an OVal that a live node can take is one that it may expect
pub oval_expected : (s : SystemState) (x n : ℕ) (l : Letter) (t : Stamp) (place : Place) (chain : List Proposal) → IsNumbered s → IsLive s n → IsReceivable s n l
    → l.body ≡ OVal x t place → OwnershipInvariant (object s x) chain → Expected (s.node n) (OVal x t place)
unfolding Expected
oval_expected s x n l t place chain numbered live at is ownership =
    keeps_owner s x n t place numbered live
    (λ below named. told-own_place (object s x) chain ownership n t place (object-live s x n live) (heard_oval s x l t place at.2 is) below named)
