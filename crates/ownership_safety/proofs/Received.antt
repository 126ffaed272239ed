-- What a node knows of a letter that it receives in its epoch: refusals that never come, and what it may settle.
use Rattle.std.specs.Prelude.{ℕ, ◌≡◌, ◌≢◌, true, false, List, Option, ◌⊎◌}
use Rattle.std.proofs.Common.{arith, sym, ap, subst, ◌∙◌, inl, inr}
use Rattle.std.proofs.lemmas.Bool.{cases_Bool}
use Rattle.zeus_base.specs.Nodes.{has}
use Rattle.zeus_base.specs.Order.{is_below}
use Rattle.zeus_base.specs.OrderLaws.{is_below-asym}
use Rattle.zeus_base.specs.declared.order.Stamp.{Stamp}
use Rattle.zeus_packet.specs.Place.{new_place}
use Rattle.zeus_packet.specs.declared.place.Place.{Place}
use Rattle.zeus_packet.specs.declared.place.Proposal.{Proposal}
use Rattle.zeus_packet.specs.declared.write.Content.{Content}
use Rattle.ownership_safety.specs.Object.{Object, Invalidates, Acknowledges, Validates, In, IsLive, IsMember, IsSource, IsArbiter, IsSaid, view, chain_stamp}
use Rattle.ownership_safety.specs.OwnershipInvariant.{OwnershipInvariant, IsDecided}
use Rattle.ownership_safety.proofs.Arbiters.{arbiters-either, new_place-owner}
use Rattle.ownership_safety.proofs.Choice.{settled-base}
use Rattle.ownership_safety.proofs.Owner.{owner-arbiter, own_place}

module _ (o : Object) (chain : List Proposal) (ownership : OwnershipInvariant o chain) where
  -- ---- an invalidation

  -- who receives an invalidation in its epoch is an arbiter of the base
  pub invalidation-arbiter : (from n : ℕ) (p : Proposal) → In (Invalidates from n (o.epoch n) p) o.letters → IsArbiter o (o.epoch n) p.base_place n
  invalidation-arbiter from n p m = ownership.to_arbiters from n (o.epoch n) p m

  -- so it is a directory node or the source
  pub invalidation-either : (from n : ℕ) (p : Proposal) → In (Invalidates from n (o.epoch n) p) o.letters → (has n o.directory ≡ true) ⊎ IsSource o (o.epoch n) p.base_place n
  invalidation-either from n p m =
      elim (arbiters-either p.base_place (view o (o.epoch n)) o.directory n (invalidation-arbiter from n p m)) [
        | inl both ↦ inl both.0
        | inr is ↦ inr is
      ]

  -- ---- what a node may settle

  -- the base of a proposal that was said is decided
  pub base-decided : (p : Proposal) (e : ℕ) → IsSaid o p e → IsDecided o chain p.base p.base_place
  base-decided p e said =
      let is = ownership.proposals p e said in
      record { ver = is.decided; stamp = is.base; place = is.base_place }

  -- ---- who would become the owner

  -- a decided placement above the settled one of a live node names it as owner only if the settled one does
  pub decided-own_place : (n : ℕ) (t : Stamp) (place : Place) → IsLive o n → IsDecided o chain t place → is_below (o.entry n).stamp t ≡ true → place.owner ≡ n → (o.entry n).place.owner ≡ n
  decided-own_place n t place live is above named =
      let not_below : is_below (chain_stamp chain t.ver) (o.entry n).stamp ≡ false = subst (λ (s : Stamp). is_below s (o.entry n).stamp ≡ false) is.stamp (is_below-asym (o.entry n).stamp t above) in
      own_place o chain ownership n t.ver live is.ver not_below (sym (ap (λ (x : Place). x.owner) is.place) ∙ named)

  -- so it is with the base of a proposal that was said
  pub base-own_place : (n e : ℕ) (p : Proposal) → IsLive o n → IsSaid o p e → is_below (o.entry n).stamp p.base ≡ true → p.base_place.owner ≡ n → (o.entry n).place.owner ≡ n
  base-own_place n e p live said above named = decided-own_place n p.base p.base_place live (base-decided p e said) above named

  -- and with what was told
  pub told-own_place : (n : ℕ) (t : Stamp) (place : Place) → IsLive o n → In (Validates t place) o.letters → is_below (o.entry n).stamp t ≡ true → place.owner ≡ n → (o.entry n).place.owner ≡ n
  told-own_place n t place live told above named = decided-own_place n t place live (ownership.told t place told) above named

  -- ---- an acknowledgement

  -- who receives an acknowledgement in its epoch is the requester, or the requester is no member
  pub ack-collector : (a n : ℕ) (p : Proposal) (c : Option Content) → In (Acknowledges a n (o.epoch n) p c) o.letters → (p.requester ≡ n) ⊎ (has p.requester (view o (o.epoch n)) ≡ false)
  ack-collector a n p c m =
      elim (cases_Bool (has p.requester (view o (o.epoch n)))) [
        | inl member ↦ inl (sym ((ownership.acks a n (o.epoch n) p c m).to_requester member))
        | inr other ↦ inr other
      ]

  -- who would become the owner by another's proposal is named by its settled placement
  pub ack-own_place : (a n : ℕ) (p : Proposal) (c : Option Content) → IsLive o n → In (Acknowledges a n (o.epoch n) p c) o.letters → is_below (o.entry n).stamp p.base ≡ false → is_below (o.entry n).stamp p.stamp ≡ true → (new_place p).owner ≡ n → p.requester ≢ n → (o.entry n).place.owner ≡ n
  ack-own_place a n p c live m not_below below named other =
      let said : IsSaid o p (o.epoch n) = inr (a, (n, c, m)) in
      elim (new_place-owner p) [
        | inl requester ↦ absurd (other (sym requester ∙ named))
        | inr owner ↦
            let base : p.base_place.owner ≡ n = sym owner ∙ named in
            let member : IsMember o (o.epoch n) n = ownership.viewed.live n (o.epoch n) live (ownership.viewed.epochs n live) in
            let settled = settled-base o chain ownership n p live said (owner-arbiter o (o.epoch n) p.base_place n base member) not_below below in
            ap (λ (x : Place). x.owner) settled.1 ∙ base
      ]
