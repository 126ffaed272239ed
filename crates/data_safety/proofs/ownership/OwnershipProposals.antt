-- A node that drives, accepts or says a proposal again keeps what holds of a run: what it gives is what the history leaves.
use Rattle.std.specs.Prelude.{ℕ, ◌≡◌, ◌==◌, ◌<◌, ◌≤◌, Bool, true, ◌&&◌, List, length, Option, Some, None}
use Rattle.std.proofs.Common.{arith, refl, sym, ap, subst, ◌∙◌, inl, inr}
use Rattle.std.proofs.lemmas.Bool.{cases_Bool, eq-eqb}
use Rattle.std.proofs.lemmas.Bool.Decides.{nat_tests}
use Rattle.zeus_base.specs.Nodes.{has}
use Rattle.zeus_base.specs.declared.order.Stream.{Stream}
use Rattle.zeus_packet.specs.declared.letter.Letter.{Letter}
use Rattle.zeus_packet.specs.declared.place.Place.{Place}
use Rattle.zeus_packet.specs.declared.place.Proposal.{Proposal}
use Rattle.zeus_packet.specs.declared.place.Want.{Want}
use Rattle.zeus_packet.specs.declared.write.Content.{Content}
use Rattle.zeus_txn.specs.Ops.{mentions}
use Rattle.zeus_model.specs.In.{In}
use Rattle.zeus_model.specs.Tables.{nth}
use Rattle.zeus_model.specs.State.{Node, copy, entry, owns, slot, is_open}
use Rattle.zeus_model.specs.Commit.{no_pending}
use Rattle.zeus_model.specs.Ownership.{holding, driven, is_node, is_source, own_content, content_of}
use Rattle.zeus_model.specs.declared.state.Copy.{Copy}
use Rattle.zeus_model.specs.declared.state.Entry.{Entry}
use Rattle.machine_moves.specs.SystemState.{IsLive}
use Rattle.machine_moves.specs.Move.{IsAboutProposal, to_arbiter, to_collector, HasAcked, MayDrive, MayAccept}
use Rattle.ownership_safety.specs.Object.{Invalidates, Acknowledges, HasGiven, IsSaid, Letter as Said, place_at}
use Rattle.ownership_safety.specs.Moves as moves
use Rattle.ownership_safety.specs.OwnershipInvariant.{OwnershipInvariant, IsHeld}
use Rattle.ownership_safety.proofs.Arbiters.{source-owner}
use Rattle.ownership_safety.proofs.Chain.{ack-said}
use Rattle.ownership_safety.proofs.Choice.{settled-base}
use Rattle.invariants.specs.Objects.{object, said_of}
use Rattle.invariants.proofs.AboutObjects.{says, sends_object, object-entry, only_about-from}
use Rattle.invariants.proofs.Frames.{holding-entry, holding-other}
use Rattle.invariants.proofs.ObjectKeeps.{sees_move as object_sees_move}
use Rattle.invariants.proofs.ObjectMoves.{object-live}
use Rattle.invariants.proofs.ObjectSeen.{same_or_not, accept_here}
use Rattle.data_safety.specs.RunState.{RunState, Witness, place_now}
use Rattle.data_safety.specs.DataInvariant.{DataInvariant, IsClean, left}
use Rattle.data_safety.proofs.Consequences.{numbered, unheld, unready-none, source-content}
use Rattle.data_safety.proofs.ownership.StreamsUnchanged.{SameRows, same-rows}
use Rattle.data_safety.proofs.ownership.OwnershipMoves.{MovesAlone, KeepsOwned, still-ownership, changed-frame, changed-rows, changed-low, changed-owned, changed-copies, low-before, framed-invariant}

-- ---- what a source gives

content-some : (o : Option Copy) (k : Content) → Some k ≡ content_of o → (c : Copy) × (o ≡ Some c) × (k ≡ record { ver = c.ver; value = c.value })
unfolding content_of
content-some None k h = absurd cc
content-some (Some c) k h = (c, refl, some_same k record { ver = c.ver; value = c.value } h)
  where
    some_same : (a b : Content) → ◌≡◌ {A = Option Content} (Some a) (Some b) → a ≡ b
    some_same a b e = cc

-- what a node gives is the content of its copy, and then it is the source
own_content-some : (n : Node) (x : ℕ) (place : Place) (k : Content) → Some k ≡ own_content n x place
    → (is_source n place ≡ true) × ((c : Copy) × (copy n x ≡ Some c) × (k ≡ record { ver = c.ver; value = c.value }))
unfolding own_content
own_content-some n x place k h = elim (cases_Bool (is_source n place)) [
  | inl is ↦ let has_copy : Some k ≡ content_of (copy n x) = rw is at h in (is, content-some (copy n x) k has_copy)
  | inr not_source ↦ let none : Some k ≡ None = rw not_source at h in absurd cc
]

ack_parts : (n to e m there f : ℕ) (p q : Proposal) (k : Content) (c : Option Content) → Acknowledges n to e q (Some k) ≡ Acknowledges m there f p c → (q ≡ p) × (Some k ≡ c)
ack_parts n to e m there f p q k c is = (proposals is, contents is)
  where
    proposals : Acknowledges n to e q (Some k) ≡ Acknowledges m there f p c → q ≡ p
    proposals is = cc

    contents : Acknowledges n to e q (Some k) ≡ Acknowledges m there f p c → Some k ≡ c
    contents is = cc

not_invalidates : (n to e m there f : ℕ) (p q : Proposal) (k : Content) → Acknowledges n to e q (Some k) ≡ Invalidates m there f p → ⊥
not_invalidates n to e m there f p q k is = cc

-- a node that owns an object is the source of its settled placement
pub owns-source : (y : RunState) (u : Witness) (f : DataInvariant y u) (n x : ℕ) → IsLive y.system n → owns (y.system.node n) x ≡ true → is_source (y.system.node n) (entry (y.system.node n) x).place ≡ true
unfolding owns is_node
owns-source y u f n x live own =
    let known = f.steady.nodes n live in
    let me : (entry (y.system.node n) x).place.owner ≡ (y.system.node n).me = first_from _ _ _ own in
    let member : has n (y.system.node n).members ≡ true = rw known.members (known.everywhere (y.system.node n).epoch known.first known.made) in
    let owner : has (entry (y.system.node n) x).place.owner (y.system.node n).members ≡ true = rw (me, known.me) member in
    rw (source-owner (entry (y.system.node n) x).place (y.system.node n).members owner, me) (eq-eqb (y.system.node n).me (y.system.node n).me refl)
  where
    first_from : (a b : ℕ) (c : Bool) → ((a == b) && c) ≡ true → a ≡ b
    first_from a b c h = grind (arith, nat_tests)

-- a pending entry names objects of the configuration
pub pending-within : (y : RunState) (u : Witness) (f : DataInvariant y u) (n a i x : ℕ) → i < length (slot (y.system.node n) a).pending
    → mentions x (nth no_pending (slot (y.system.node n) a).pending i).named ≡ true → x < length y.system.config.objects
pending-within y u f n a i x inside m =
    let t : Stream = record { node = n; slot = a } in
    f.booked.objects (nth no_pending (slot (y.system.node n) a).pending i).id x (rw ((f.booked.pending t i inside).2) at m)

-- a content that is given with a letter about an object is what the history leaves
abbrev IsGiven : RunState → Witness → ℕ → Said → Type 0
IsGiven y u w m = (from to e : ℕ) (q : Proposal) (k : Content) → m ≡ Acknowledges from to e q (Some k) → w < length y.system.config.objects → q.base.ver ≡ length (u.chain w)
    → IsClean y u w × (k ≡ left y w)

-- letters that give, about any object, only what the history leaves
abbrev GivesLeft : RunState → Witness → (Letter → Type 0) → Type 0
GivesLeft y u allowed = (w : ℕ) (l : Letter) (m : Said) → allowed l → In m (says w l) → IsGiven y u w m

-- a node that may say a proposal for the object x: it is live and open, and a proposal on the latest version has the latest placement as base
record MayPropose (y : RunState) (u : Witness) (n x : ℕ) (p : Proposal) : Type 0 where
  live : IsLive y.system n
  opened : is_open (y.system.node n) ≡ true
  base : x < length y.system.config.objects → p.base.ver ≡ length (u.chain x) → p.base_place ≡ place_now y u x

-- what an open node gives for the latest placement is what the history leaves, and nothing can change it
about-given : (y : RunState) (u : Witness) (f : DataInvariant y u) (n x : ℕ) (p : Proposal) → MayPropose y u n x p → GivesLeft y u (IsAboutProposal (y.system.node n) x p)
unfolding said_of
about-given y u f n x p may w l m (to_arbiter there h) i = λ from to e q k said within last.
    let found : (x ≡ w) × (m ≡ Invalidates (y.system.node n).me there (y.system.node n).epoch p) =
    only_about-from w x m (Invalidates (y.system.node n).me there (y.system.node n).epoch p) i in
    absurd (not_invalidates from to e (y.system.node n).me there (y.system.node n).epoch p q k (sym said ∙ found.1))
about-given y u f n x p may w l m (to_collector there h ready) i = λ from to e q k said within last.
    let given = own_content (y.system.node n) x p.base_place in
    let found : (x ≡ w) × (m ≡ Acknowledges (y.system.node n).me there (y.system.node n).epoch p given) =
    only_about-from w x m (Acknowledges (y.system.node n).me there (y.system.node n).epoch p given) i in
    let parts = ack_parts from to e (y.system.node n).me there (y.system.node n).epoch p q k given (sym said ∙ found.1) in
    let is = own_content-some (y.system.node n) x p.base_place k parts.1 in
    let within_x : x < length y.system.config.objects = rw found.0 within in
    let last_x : p.base.ver ≡ length (u.chain x) = rw found.0 (sym (ap (λ (r : Proposal). r.base.ver) parts.0) ∙ last) in
    let source_now : is_source (y.system.node n) (place_now y u x) ≡ true = sym (ap (λ (pl : Place). is_source (y.system.node n) pl) (may.base within_x last_x)) ∙ is.0 in
    let at_left = source-content y u f n x is.1.0 within_x may.live may.opened source_now (ready is.0) is.1.1 in
    subst (λ (v : ℕ). IsClean y u v × (k ≡ left y v)) found.0 (at_left.0, is.1.2 ∙ at_left.1)

-- ---- a node that says a proposal

-- a node that may hold another proposal, but keeps its copies, its settled stamps, its streams but for acknowledgements, and what it owns
record SameButProposals (before after : Node) : Type 0 where
  copies : after.copies ≡ before.copies
  stamps : (w : ℕ) → (entry after w).stamp ≡ (entry before w).stamp
  rows : SameRows before after
  keeps : KeepsOwned before after

proposal-move : (y z : RunState) (u : Witness) (f : DataInvariant y u) (n x : ℕ) (p : Proposal) (after : Node) → MovesAlone y z n after (IsAboutProposal (y.system.node n) x p)
    → SameButProposals (y.system.node n) after → MayPropose y u n x p → DataInvariant z u
proposal-move y z u f n x p after alone same may =
    framed-invariant y z u u.chain f (changed-frame y z u f n after (IsAboutProposal (y.system.node n) x p) alone same.rows)
    (changed-rows y.system z.system n after (IsAboutProposal (y.system.node n) x p) alone.change same.rows) alone.move
    (λ w within. inl (changed-copies y z u n w after (IsAboutProposal (y.system.node n) x p) alone.change (ap (λ (k : List (Option Copy)). nth None k w) same.copies)))
    (λ w within. still-ownership (object y.system w) (object z.system w) (u.chain w) (f.ownership w within)
    (changed-low y z u f n w after (IsAboutProposal (y.system.node n) x p) alone.change within (low w within))
    (object_sees_move y.system z.system w (u.chain w) (numbered y u f) (f.ownership w within) alone.move))
    (changed-owned y z n after (IsAboutProposal (y.system.node n) x p) alone.change same.keeps)
    (λ m w e q k within given last. now_given m w e q k within given last)
  where
    low : (w : ℕ) → w < length y.system.config.objects → (entry after w).stamp.ver ≤ length (u.chain w)
    low w within = rw (same.stamps w) (low-before y u f n w alone.change.live within)

    now_given : (m w e : ℕ) (q : Proposal) (k : Content) → w < length y.system.config.objects → HasGiven (object z.system w) m q k e → q.base.ver ≡ length (u.chain w) → IsClean y u w × (k ≡ left y w)
    now_given m w e q k within given last =
        let s : moves.Sends (object y.system w) (object z.system w) (IsGiven y u w) =
        sends_object y.system z.system w (IsAboutProposal (y.system.node n) x p) (IsGiven y u w) alone.change.sends (about-given y u f n x p may w) in
        elim (s.only (Acknowledges m given.0 e q (Some k)) given.1) [
          | inl before ↦ f.entered.given m w e q k within (given.0, before) last
          | inr now ↦ now m given.0 e q k refl within last
        ]

-- the settled stamps of a node that holds a proposal are those before
holding-stamp : (n : Node) (x : ℕ) (p : Proposal) (w : ℕ) → (entry (holding n x p) w).stamp ≡ (entry n w).stamp
holding-stamp n x p w = elim (same_or_not x w) [
  | inl same ↦ rw (← same, holding-entry n x p) refl
  | inr other ↦ rw ((holding-other n x w p other).entry) refl
]

holding-owned : (y : RunState) (u : Witness) (f : DataInvariant y u) (n x : ℕ) (p : Proposal)
    → ((a i : ℕ) → i < length (slot (y.system.node n) a).pending → mentions x (nth no_pending (slot (y.system.node n) a).pending i).named ≡ true → owns (y.system.node n) x ≡ true → ⊥)
    → KeepsOwned (y.system.node n) (holding (y.system.node n) x p)
unfolding owns
holding-owned y u f n x p none = record {
  owned = λ a i w inside m own. elim (same_or_not x w) [
    | inl same ↦ absurd (none a i inside (rw same m) (rw same own))
    | inr other ↦ rw ((holding-other (y.system.node n) x w p other).entry) own
  ];
}

-- ---- the moves

-- if a node drives a request, then the invariant stays
pub drives-invariant : (y z : RunState) (u : Witness) (f : DataInvariant y u) (n x requester : ℕ) (want : Want) → MayDrive y.system n x requester want
    → MovesAlone y z n (holding (y.system.node n) x (driven (y.system.node n) x requester want)) (IsAboutProposal (y.system.node n) x (driven (y.system.node n) x requester want))
    → DataInvariant z u
drives-invariant y z u f n x requester want may alone =
    proposal-move y z u f n x (driven (y.system.node n) x requester want) (holding (y.system.node n) x (driven (y.system.node n) x requester want)) alone
    record {
      copies = refl;
      stamps = holding-stamp (y.system.node n) x (driven (y.system.node n) x requester want);
      rows = same-rows (y.system.node n) (holding (y.system.node n) x (driven (y.system.node n) x requester want)) refl refl;
      keeps = holding-owned y u f n x (driven (y.system.node n) x requester want)
          (λ a i inside m own. unheld (y.system.node n) x (unready-none (y.system.node n) x (may.ready (owns-source y u f n x alone.change.live own))).1 a i inside m);
    }
    record {
      live = alone.change.live;
      opened = may.opened;
      base = λ within last.
          let is : (object y.system x).entry n ≡ entry (y.system.node n) x = object-entry y.system x n (f.steady.nodes n alone.change.live).within in
          let place : (entry (y.system.node n) x).place ≡ place_at (object y.system x) (u.chain x) (entry (y.system.node n) x).stamp.ver = rw is at ((f.ownership x within).settled n).place in
          place ∙ ap (λ (v : ℕ). place_at (object y.system x) (u.chain x) v) last;
    }

-- a proposal that was said on the latest version has the latest placement as base
said-base : (y : RunState) (u : Witness) (f : DataInvariant y u) (x e : ℕ) (p : Proposal) → x < length y.system.config.objects → IsSaid (object y.system x) p e → p.base.ver ≡ length (u.chain x) → p.base_place ≡ place_now y u x
said-base y u f x e p within said last =
    ((f.ownership x within).proposals p e said).base_place ∙ ap (λ (v : ℕ). place_at (object y.system x) (u.chain x) v) last

-- if a node accepts a proposal, then the invariant stays
pub accepts-invariant : (y z : RunState) (u : Witness) (f : DataInvariant y u) (n x : ℕ) (p : Proposal) → MayAccept y.system n x p → HasAcked z.system (y.system.node n) x p
    → MovesAlone y z n (holding (y.system.node n) x p) (IsAboutProposal (y.system.node n) x p) → DataInvariant z u
accepts-invariant y z u f n x p may acked alone =
    proposal-move y z u f n x p (holding (y.system.node n) x p) alone
    record {
      copies = refl;
      stamps = holding-stamp (y.system.node n) x p;
      rows = same-rows (y.system.node n) (holding (y.system.node n) x p) refl refl;
      keeps = holding-owned y u f n x p (λ a i inside m own.
          let within : x < length y.system.config.objects = pending-within y u f n a i x inside m in
          let ownership : OwnershipInvariant (object y.system x) (u.chain x) = f.ownership x within in
          let step = accept_here y.system z.system n x p (u.chain x) (numbered y u f) ownership may alone.change acked in
          let settled = settled-base (object y.system x) (u.chain x) ownership n p (object-live y.system x n alone.change.live) step.said step.arbiter step.not_below_base step.below in
          let is : (object y.system x).entry n ≡ entry (y.system.node n) x = object-entry y.system x n (f.steady.nodes n alone.change.live).within in
          let place : (entry (y.system.node n) x).place ≡ p.base_place = ap (λ (e : Entry). e.place) (sym is) ∙ settled.1 in
          let is_the_source : is_source (y.system.node n) p.base_place ≡ true = sym (ap (λ (pl : Place). is_source (y.system.node n) pl) place) ∙ owns-source y u f n x alone.change.live own in
          unheld (y.system.node n) x (unready-none (y.system.node n) x (may.ready is_the_source)).1 a i inside m);
    }
    record {
      live = alone.change.live;
      opened = may.opened;
      base = λ within last. let a = accept_here y.system z.system n x p (u.chain x) (numbered y u f) (f.ownership x within) may alone.change acked in said-base y u f x ((object y.system x).epoch n) p within a.said last;
    }

-- if a node says again the proposal that it holds, then the invariant stays
pub redrives-invariant : (y z : RunState) (u : Witness) (f : DataInvariant y u) (n x : ℕ) (p : Proposal) → (entry (y.system.node n) x).proposal ≡ Some p → is_open (y.system.node n) ≡ true
    → MovesAlone y z n (y.system.node n) (IsAboutProposal (y.system.node n) x p) → DataInvariant z u
redrives-invariant y z u f n x p held opened alone =
    proposal-move y z u f n x p (y.system.node n) alone
    record { copies = refl; stamps = λ w. refl; rows = same-rows (y.system.node n) (y.system.node n) refl refl; keeps = record { owned = λ a i w inside m own. own } }
    record {
      live = alone.change.live;
      opened = opened;
      base = λ within last.
          let ownership : OwnershipInvariant (object y.system x) (u.chain x) = f.ownership x within in
          let is : (object y.system x).entry n ≡ entry (y.system.node n) x = object-entry y.system x n (f.steady.nodes n alone.change.live).within in
          let h : IsHeld (object y.system x) n p = ownership.held n p (ap (λ (e : Entry). e.proposal) is ∙ held) in
          said-base y u f x h.acked.0 p within (ack-said (object y.system x) (u.chain x) ownership n p h.acked.0 h.acked.2) last;
    }
