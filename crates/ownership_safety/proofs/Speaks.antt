-- A move by which a node says a proposal that it then holds: it drives it, accepts it, or says it again.
use Rattle.std.specs.Prelude.{ℕ, ◌≡◌, ◌≢◌, ◌≤◌, false, List, Option, Some, ◌⊎◌}
use Rattle.std.proofs.Common.{arith, refl, sym, ap, subst, ◌∙◌, inl, inr}
use Rattle.zeus_base.specs.Order.{is_below}
use Rattle.zeus_base.specs.OrderLaws.{is_below-irrefl}
use Rattle.zeus_base.specs.declared.order.Stamp.{Stamp}
use Rattle.zeus_packet.specs.declared.place.Place.{Place}
use Rattle.zeus_packet.specs.declared.place.Proposal.{Proposal}
use Rattle.zeus_packet.specs.declared.write.Content.{Content}
use Rattle.zeus_model.specs.declared.state.Gather.{Gather}
use Rattle.zeus_model.specs.Tables.{nth}
use Rattle.ownership_safety.specs.Object.{Object, Invalidates, Acknowledges, Validates, In, IsView, IsMember, IsArbiter, IsSaid, IsBlocked, HasAcked, rank, no_proposal}
use Rattle.ownership_safety.specs.Moves.{Acts, Sends, IsAboutProposal, IsAsSource, to_arbiter, to_collector}
use Rattle.ownership_safety.specs.OwnershipInvariant.{OwnershipInvariant, IsViewed, IsProposal, IsAck, IsHeld, IsGather, IsDecided, IsLesser}
use Rattle.ownership_safety.proofs.Chain.{entry_rank-some}
use Rattle.ownership_safety.specs.Kept.{Grows, IsSpeaker, IsVoter}
use Rattle.ownership_safety.proofs.Grows.{Extends-refl, each_node, rank-not_below, settled-not_below, stopped-kept, epoch-kept, arbiter-grows, proposal-grows, ack-grows, link-grows, decided-grows, source-grows, source-back, member-back}
use Rattle.ownership_safety.proofs.Letters.{ack_order-grows, viewed-grows, live-back}
use Rattle.ownership_safety.proofs.NothingSaid.{blocks-kept, held-grows, gather-grows}

-- ---- the letters about a proposal

-- the invalidation is the node's, in its epoch, of this proposal, and goes to an arbiter of the base
pub record IsNewInvalidation (o : Object) (n : ℕ) (p : Proposal) (from to e : ℕ) (q : Proposal) : Type 0 where
  pub from_node : from ≡ n
  pub epoch : e ≡ o.epoch n
  pub proposal : q ≡ p
  pub arbiter : IsArbiter o (o.epoch n) p.base_place to

-- the acknowledgement is the node's, in its epoch, of this proposal, and goes to the requester if that is a member
pub record IsNewAcknowledgement (o : Object) (n : ℕ) (p : Proposal) (from to e : ℕ) (q : Proposal) (c : Option Content) : Type 0 where
  pub from_node : from ≡ n
  pub epoch : e ≡ o.epoch n
  pub proposal : q ≡ p
  pub to_requester : IsMember o (o.epoch n) p.requester → to ≡ p.requester
  pub content : IsAsSource o n p c

about-invalidation : (o : Object) (n : ℕ) (p : Proposal) (from to e : ℕ) (q : Proposal) → IsAboutProposal o n p (Invalidates from to e q) → IsNewInvalidation o n p from to e q
about-invalidation o n p from to e q (inl (to_arbiter _ arbiter)) = record { from_node = refl; epoch = refl; proposal = refl; arbiter = arbiter }
about-invalidation o n p from to e q (inr h) = elim h [ ]

about-acknowledgement : (o : Object) (n : ℕ) (p : Proposal) (from to e : ℕ) (q : Proposal) (c : Option Content) → IsAboutProposal o n p (Acknowledges from to e q c) → IsNewAcknowledgement o n p from to e q c
about-acknowledgement o n p from to e q c (inr (to_collector _ _ requester content)) =
    record { from_node = refl; epoch = refl; proposal = refl; to_requester = requester; content = content }
about-acknowledgement o n p from to e q c (inl h) = elim h [ ]

about-validation : (o : Object) (n : ℕ) (p : Proposal) (t : Stamp) (place : Place) → IsAboutProposal o n p (Validates t place) → ⊥
about-validation o n p t place (inl h) = elim h [ ]
about-validation o n p t place (inr h) = elim h [ ]

-- ---- a node says a proposal and holds it

-- a live node holds a proposal not below its rank, keeps what it has settled, and sends letters about this proposal alone
pub record Says (old new : Object) (n : ℕ) (p : Proposal) : Type 0 where
  pub acts : Acts old new n
  pub stamp : (new.entry n).stamp ≡ (old.entry n).stamp
  pub place : (new.entry n).place ≡ (old.entry n).place
  pub held : (new.entry n).proposal ≡ Some p
  -- it held no greater one
  pub not_above : is_below p.stamp (rank old n) ≡ false
  pub gather : new.gather n ≡ old.gather n
  pub sends : Sends old new (IsAboutProposal old n p)

-- the other facts: the proposal is one that may be said, the node is an arbiter that has settled its base, and rivals with a
-- lesser ballot are blocked
pub record Speaks (old new : Object) (chain : List Proposal) (n : ℕ) (p : Proposal) : Type 0 where
  pub says : Says old new n p
  pub base : (old.entry n).stamp ≡ p.base
  pub base_place : (old.entry n).place ≡ p.base_place
  pub arbiter : IsArbiter old (old.epoch n) p.base_place n
  pub one_stamp : (q : Proposal) (e : ℕ) → IsSaid old q e → q.stamp ≡ p.stamp → q ≡ p
  pub proposal : IsProposal new chain p
  pub acked : (e : ℕ) × (e ≤ old.epoch n) × HasAcked new n p e
  pub blocks : (t : Stamp) (e : ℕ) → t.ver ≡ p.stamp.ver → t ≢ p.stamp → 1 ≤ e → IsLesser e t (old.epoch n) p.stamp → IsBlocked new t p.base_place e

module _ (old new : Object) (n : ℕ) (p : Proposal) (says : Says old new n p) where
  -- a node that says a proposal has its stamp as its rank
  pub says-rank : rank new n ≡ p.stamp
  says-rank = entry_rank-some (new.entry n).stamp (new.entry n).proposal p says.held

  -- each invalidation after a node says a proposal was sent before, or is the node's own of this proposal
  pub says-invalidations : (from to e : ℕ) (q : Proposal) → In (Invalidates from to e q) new.letters → In (Invalidates from to e q) old.letters ⊎ IsNewInvalidation old n p from to e q
  says-invalidations from to e q m =
      elim (says.sends.only (Invalidates from to e q) m) [
        | inl before ↦ inl before
        | inr now ↦ inr (about-invalidation old n p from to e q now)
      ]

  -- each acknowledgement after a node says a proposal was sent before, or is the node's own of this proposal
  pub says-acks : (from to e : ℕ) (q : Proposal) (c : Option Content) → In (Acknowledges from to e q c) new.letters → In (Acknowledges from to e q c) old.letters ⊎ IsNewAcknowledgement old n p from to e q c
  says-acks from to e q c m =
      elim (says.sends.only (Acknowledges from to e q c) m) [
        | inl before ↦ inl before
        | inr now ↦ inr (about-acknowledgement old n p from to e q c now)
      ]

  says-told : (t : Stamp) (place : Place) → In (Validates t place) new.letters → In (Validates t place) old.letters
  says-told t place m =
      elim (says.sends.only (Validates t place) m) [ inl before ↦ before | inr now ↦ absurd (about-validation old n p t place now) ]

  says-speaker : (from to e : ℕ) (q : Proposal) → IsNewInvalidation old n p from to e q → IsSpeaker old from e
  says-speaker from to e q now =
      record { live = rw now.from_node says.acts.live; epoch = rw (now.from_node, now.epoch) refl }

  says-voter : (from to e : ℕ) (q : Proposal) (c : Option Content) → IsNewAcknowledgement old n p from to e q c → IsVoter old from q e
  says-voter from to e q c now =
      record {
        live = rw now.from_node says.acts.live;
        epoch = rw (now.from_node, now.epoch) refl;
        rank = subst (λ (m : ℕ). is_below q.stamp (rank old m) ≡ false) (sym now.from_node) (subst (λ (r : Proposal). is_below r.stamp (rank old n) ≡ false) (sym now.proposal) says.not_above);
      }

  -- nothing falls
  pub says-grows : Grows old new
  says-grows =
      record {
        directory = says.acts.setting.directory;
        declared = says.acts.setting.declared;
        viewed = λ e v. (v.0, rw says.acts.setting.views v.1);
        views = λ e v. rw says.acts.setting.views refl;
        stopped = stopped-kept old new n says.acts.others (λ h. says.acts.stopped ∙ h);
        epoch = epoch-kept old new n says.acts.others (let same = says.acts.epoch in omega arith);
        rank = rank-not_below old new n says.acts.others (rw says-rank says.not_above);
        settled = settled-not_below old new n says.acts.others (rw says.stamp (is_below-irrefl (old.entry n).stamp));
        letters = says.sends.kept;
        invalidations = λ from to e q m.
            elim (says-invalidations from to e q m) [ inl before ↦ inl before | inr now ↦ inr (says-speaker from to e q now) ];
        acks = λ from to e q c m.
            elim (says-acks from to e q c m) [ inl before ↦ inl before | inr now ↦ inr (says-voter from to e q c now) ];
      }

  -- what is said was said before, or it is said now
  pub says-said : (q : Proposal) (e : ℕ) → IsSaid new q e → IsSaid old q e ⊎ ((q ≡ p) × (e ≡ old.epoch n))
  says-said q e (inl (from, to, m)) =
      elim (says-invalidations from to e q m) [
        | inl before ↦ inl (inl (from, to, before))
        | inr now ↦ inr (now.proposal, now.epoch)
      ]
  says-said q e (inr (from, (to, c, m))) =
      elim (says-acks from to e q c m) [
        | inl before ↦ inl (inr (from, (to, c, before)))
        | inr now ↦ inr (now.proposal, now.epoch)
      ]

  -- settled stamps and placements stay
  says-stamp : (m : ℕ) → (new.entry m).stamp ≡ (old.entry m).stamp
  says-stamp = each_node (λ m. (new.entry m).stamp ≡ (old.entry m).stamp) n says.stamp (λ m other. rw (says.acts.others.entry m other) refl)

  says-place : (m : ℕ) → (new.entry m).place ≡ (old.entry m).place
  says-place = each_node (λ m. (new.entry m).place ≡ (old.entry m).place) n says.place (λ m other. rw (says.acts.others.entry m other) refl)

  says-epoch : (m : ℕ) → new.epoch m ≡ old.epoch m
  says-epoch = each_node (λ m. new.epoch m ≡ old.epoch m) n says.acts.epoch says.acts.others.epoch

  says-gather : (m : ℕ) → new.gather m ≡ old.gather m
  says-gather = each_node (λ m. new.gather m ≡ old.gather m) n says.gather says.acts.others.gather

  module _ (chain : List Proposal) (ownership : OwnershipInvariant old chain) (speaks : Speaks old new chain n p) where
    says-viewed : IsViewed new
    says-viewed =
        viewed-grows old new says-grows ownership.viewed says.acts.setting.views
        (λ m live. rw (says-epoch m) (says-grows.viewed (old.epoch m) (ownership.viewed.epochs m (live-back old new says-grows m live))))

    says-one_stamp : (q r : Proposal) (e f : ℕ) → IsSaid new q e → IsSaid new r f → q.stamp ≡ r.stamp → q ≡ r
    says-one_stamp q r e f s t same =
        elim (says-said q e s) [
          | inl q_before ↦ elim (says-said r f t) [
            | inl r_before ↦ ownership.one_stamp q r e f q_before r_before same
            | inr r_now ↦ speaks.one_stamp q e q_before (same ∙ ap (λ (x : Proposal). x.stamp) r_now.0) ∙ sym r_now.0
          ]
          | inr q_now ↦ elim (says-said r f t) [
            | inl r_before ↦ q_now.0 ∙ sym (speaks.one_stamp r f r_before (sym same ∙ ap (λ (x : Proposal). x.stamp) q_now.0))
            | inr r_now ↦ q_now.0 ∙ sym r_now.0
          ]
        ]

    says-proposals : (q : Proposal) (e : ℕ) → IsSaid new q e → IsProposal new chain q
    says-proposals q e s =
        elim (says-said q e s) [
          | inl before ↦ proposal-grows old new says-grows chain chain (Extends-refl chain) q (ownership.proposals q e before)
          | inr now ↦ subst (λ (x : Proposal). IsProposal new chain x) (sym now.0) speaks.proposal
        ]

    -- the node's own acknowledgement
    says-own : (to : ℕ) (c : Option Content) → (IsMember old (old.epoch n) p.requester → to ≡ p.requester) → IsAsSource old n p c → IsAck new n to (old.epoch n) p c
    says-own to c requester content =
        let v : IsView old (old.epoch n) = ownership.viewed.epochs n says.acts.live in
        record {
          rank = rw says-rank (is_below-irrefl p.stamp);
          arbiter = arbiter-grows old new says-grows (old.epoch n) p.base_place n v speaks.arbiter;
          content = (
            λ h. source-grows old new says-grows (old.epoch n) p.base_place n v (content.0 h),
            λ h. content.1 (source-back old new says-grows (old.epoch n) p.base_place n v h),
          );
          to_requester = λ h. requester (member-back old new says-grows (old.epoch n) p.requester v h);
        }

    says-ack : (from to e : ℕ) (q : Proposal) (c : Option Content) → In (Acknowledges from to e q c) new.letters → IsAck new from to e q c
    says-ack from to e q c m =
        elim (says-acks from to e q c m) [
          | inl before ↦
              ack-grows old new says-grows from to e q c (ownership.viewed.acknowledgements from to e q c before).0 (ownership.acks from to e q c before)
          | inr now ↦
              subst (λ (x : ℕ). IsAck new x to e q c) (sym now.from_node)
              (subst (λ (f : ℕ). IsAck new n to f q c) (sym now.epoch)
              (subst (λ (r : Proposal). IsAck new n to (old.epoch n) r c) (sym now.proposal) (says-own to c now.to_requester now.content)))
        ]

    says-to_arbiters : (from to e : ℕ) (q : Proposal) → In (Invalidates from to e q) new.letters → IsArbiter new e q.base_place to
    says-to_arbiters from to e q m =
        elim (says-invalidations from to e q m) [
          | inl before ↦
              arbiter-grows old new says-grows e q.base_place to (ownership.viewed.invalidations from to e q before).0 (ownership.to_arbiters from to e q before)
          | inr now ↦
              let here : IsArbiter new (old.epoch n) p.base_place to =
              arbiter-grows old new says-grows (old.epoch n) p.base_place to (ownership.viewed.epochs n says.acts.live) now.arbiter
              in
              subst (λ (f : ℕ). IsArbiter new f q.base_place to) (sym now.epoch)
              (subst (λ (r : Proposal). IsArbiter new (old.epoch n) r.base_place to) (sym now.proposal) here)
        ]

    says-held : (m : ℕ) (q : Proposal) → (new.entry m).proposal ≡ Some q → IsHeld new m q
    says-held =
        each_node (λ m. (q : Proposal) → (new.entry m).proposal ≡ Some q → IsHeld new m q) n
        (λ q h.
        let same : p ≡ q = some_same p q (sym says.held ∙ h) in
        subst (λ (r : Proposal). IsHeld new n r) same record {
          base = says.stamp ∙ speaks.base;
          base_place = says.place ∙ speaks.base_place;
          acked = (speaks.acked.0, omega (arith, speaks.acked.1, says.acts.epoch), speaks.acked.2);
        })
        (λ m other q h.
        let same = says.acts.others.entry m other in
        held-grows old new says-grows m same q (ownership.held m q (rw same at h)))
      where
        some_same : (x y : Proposal) → ◌≡◌ {A = Option Proposal} (Some x) (Some y) → x ≡ y
        some_same x y e = cc

    says-blocks : (q : Proposal) (e1 : ℕ) (t : Stamp) (e : ℕ) → IsSaid new q e1 → t.ver ≡ q.stamp.ver → t ≢ q.stamp → 1 ≤ e → IsLesser e t e1 q.stamp → IsBlocked new t q.base_place e
    says-blocks q e1 t e s =
        elim (says-said q e1 s) [
          | inl before ↦ blocks-kept old new says-grows chain ownership q e1 t e before
          | inr now ↦
              subst (λ (r : Proposal). t.ver ≡ r.stamp.ver → t ≢ r.stamp → 1 ≤ e → IsLesser e t e1 r.stamp → IsBlocked new t r.base_place e) (sym now.0)
              (subst (λ (f : ℕ). t.ver ≡ p.stamp.ver → t ≢ p.stamp → 1 ≤ e → IsLesser e t f p.stamp → IsBlocked new t p.base_place e) (sym now.1) (speaks.blocks t e))
        ]

    says-gathers : (m : ℕ) (g : Gather) → new.gather m ≡ Some g → IsGather new m g
    says-gathers m g h =
        gather-grows old new says-grows m (says-stamp m) (says-epoch m) g (ownership.gathers m g (sym (says-gather m) ∙ h))

    says-settled : (m : ℕ) → IsDecided new chain (new.entry m).stamp (new.entry m).place
    says-settled m =
        rw (says-stamp m, says-place m)
        (decided-grows old new says-grows chain chain (Extends-refl chain) (old.entry m).stamp (old.entry m).place (ownership.settled m))

    -- so all goes on to hold
    pub speaks-ownership : OwnershipInvariant new chain
    speaks-ownership =
        record {
          viewed = says-viewed;
          declared = rw says-grows.declared ownership.declared;
          one_stamp = says-one_stamp;
          proposals = says-proposals;
          acks = says-ack;
          to_arbiters = says-to_arbiters;
          held = says-held;
          blocks = says-blocks;
          ack_order = ack_order-grows old new says-grows chain ownership;
          gathers = says-gathers;
          links = λ v inside. link-grows old new says-grows chain chain (Extends-refl chain) v (nth no_proposal chain v) inside (ownership.links v inside);
          known = (ownership.known.0, says-stamp ownership.known.0 ∙ ownership.known.1);
          settled = says-settled;
          told = λ t place m. decided-grows old new says-grows chain chain (Extends-refl chain) t place (ownership.told t place (says-told t place m));
        }
