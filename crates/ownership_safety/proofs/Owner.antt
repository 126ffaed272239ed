-- Inside one state: an owner knows the latest placement, there is one owner, and who is named as owner of a decided placement.
use Rattle.std.specs.Prelude.{ℕ, zero, suc, ◌≡◌, ◌≢◌, ◌<◌, ◌≤◌, true, false, List, length, Option, Some, None}
use Rattle.std.proofs.Common.{arith, refl, sym, ap, subst, ◌∙◌, inl, inr, le_refl}
use Rattle.std.proofs.lemmas.Bool.{cases_lt, true≢false}
use Rattle.zeus_base.specs.Nodes.{has}
use Rattle.zeus_base.specs.Order.{is_below}
use Rattle.zeus_base.specs.declared.order.Stamp.{Stamp}
use Rattle.zeus_packet.specs.Place.{new_place}
use Rattle.zeus_packet.specs.declared.place.Place.{Place}
use Rattle.zeus_packet.specs.declared.place.Proposal.{Proposal}
use Rattle.zeus_packet.specs.declared.write.Content.{Content}
use Rattle.zeus_model.specs.Tables.{nth}
use Rattle.ownership_safety.specs.Object.{Object, IsLive, IsMember, IsSource, IsArbiter, IsOwner, IsSaid, HasAcked, HasGiven, IsChosen, view, rank, no_proposal, chain_stamp, place_at, latest}
use Rattle.ownership_safety.specs.OwnershipInvariant.{OwnershipInvariant}
use Rattle.ownership_safety.proofs.Basics.{not_below-ver}
use Rattle.ownership_safety.proofs.Arbiters.{arbiters-source, source-owner, new_place-owner}
use Rattle.ownership_safety.proofs.Chain.{chain_stamp-suc, chain_place-suc, entry_rank-none, stamp_at-ver, stamp_at-below, ack-rank, said-viewed, ack-said}

-- a node that owns a placement and is a member is its source and an arbiter
pub owner-source : (o : Object) (e : ℕ) (place : Place) (n : ℕ) → place.owner ≡ n → IsMember o e n → IsSource o e place n
owner-source o e place n is member =
    let owner : has place.owner (view o e) ≡ true = rw is member in
    source-owner place (view o e) owner ∙ ap (λ (m : ℕ). Some m) is

-- if the owner of a placement is a member, then it is an arbiter
pub owner-arbiter : (o : Object) (e : ℕ) (place : Place) (n : ℕ) → place.owner ≡ n → IsMember o e n → IsArbiter o e place n
owner-arbiter o e place n is member = arbiters-source place (view o e) o.directory n (owner-source o e place n is member)

module _ (o : Object) (chain : List Proposal) (ownership : OwnershipInvariant o chain) where
  -- an owner has settled the latest stamp
  owner-last : (n : ℕ) → IsOwner o n → (o.entry n).stamp.ver ≡ length chain
  owner-last n owns =
      let is = ownership.settled n in
      elim (cases_lt (o.entry n).stamp.ver (length chain)) [
        | inl inside ↦ absurd (passed inside (ownership.links (o.entry n).stamp.ver inside).chosen.0 (ownership.links (o.entry n).stamp.ver inside).chosen.1)
        | inr outside ↦ omega (arith, is.ver)
      ]
    where
      passed : (o.entry n).stamp.ver < length chain → (e : ℕ) → IsChosen o (nth no_proposal chain (o.entry n).stamp.ver) e → ⊥
      passed inside e chosen =
          let v = (o.entry n).stamp.ver in
          let is = ownership.settled n in
          let link = ownership.links v inside in
          let p = nth no_proposal chain v in
          let member : IsMember o e n = ownership.viewed.live n e owns.live chosen.viewed in
          let named : p.base_place.owner ≡ n = ap (λ (place : Place). place.owner) (link.base_place ∙ sym is.place) ∙ owns.owner in
          let acked : HasAcked o n p e = chosen.acked n (owner-arbiter o e p.base_place n named member) in
          let rank_is : rank o n ≡ chain_stamp chain v = entry_rank-none (o.entry n).stamp (o.entry n).proposal owns.free ∙ is.stamp in
          let stamp : p.stamp ≡ chain_stamp chain (suc v) = sym (chain_stamp-suc chain v) in
          let not_below : is_below (chain_stamp chain v) (chain_stamp chain (suc v)) ≡ false = rw (rank_is, stamp) at (ack-rank o chain ownership n p e acked) in
          let below : is_below (chain_stamp chain v) (chain_stamp chain (suc v)) ≡ true = stamp_at-below o chain ownership v (suc v) (omega arith) inside in
          true≢false (sym below ∙ not_below)

  -- an owner's settled stamp is the latest
  pub owner-stamp : (n : ℕ) → IsOwner o n → (o.entry n).stamp ≡ chain_stamp chain (length chain)
  owner-stamp n owns = (ownership.settled n).stamp ∙ ap (λ (v : ℕ). chain_stamp chain v) (owner-last n owns)

  -- an owner's settled placement is the latest
  pub owner-latest : (n : ℕ) → IsOwner o n → (o.entry n).place ≡ latest o chain
  owner-latest n owns = (ownership.settled n).place ∙ ap (λ (v : ℕ). place_at o chain v) (owner-last n owns)

  -- there is at most one owner
  pub one_owner : (n m : ℕ) → IsOwner o n → IsOwner o m → n ≡ m
  one_owner n m one two =
      sym one.owner ∙ ap (λ (place : Place). place.owner) (owner-latest n one ∙ sym (owner-latest m two)) ∙ two.owner

  -- while a node owns the object, nobody has given a content on the latest placement
  pub owner-unacked : (n a e : ℕ) (p : Proposal) (c : Content) → IsOwner o n → p.base.ver ≡ length chain → HasGiven o a p c e → ⊥
  owner-unacked n a e p c owns last given =
      let to = given.0 in
      let ack = ownership.acks a to e p (Some c) given.1 in
      let acked : HasAcked o a p e = (to, Some c, given.1) in
      let said : IsSaid o p e = ack-said o chain ownership a p e acked in
      let proposal = ownership.proposals p e said in
      let base : p.base_place ≡ latest o chain = proposal.base_place ∙ ap (λ (v : ℕ). place_at o chain v) last in
      let named : p.base_place.owner ≡ n = ap (λ (place : Place). place.owner) (base ∙ sym (owner-latest n owns)) ∙ owns.owner in
      let member : IsMember o e n = ownership.viewed.live n e owns.live (said-viewed o chain ownership p e said) in
      let source_n : IsSource o e p.base_place n = owner-source o e p.base_place n named member in
      let source_a : IsSource o e p.base_place a = ack.content.0 refl in
      let same : a ≡ n = some_same a n (sym source_a ∙ source_n) in
      let rank_is : rank o a ≡ chain_stamp chain (length chain) =
      ap (λ (m : ℕ). rank o m) same ∙ entry_rank-none (o.entry n).stamp (o.entry n).proposal owns.free ∙ owner-stamp n owns
      in
      let ver : (rank o a).ver ≡ length chain = ap (λ (t : Stamp). t.ver) rank_is ∙ stamp_at-ver o chain ownership (length chain) (le_refl (length chain)) in
      omega (arith, not_below-ver (rank o a) p.stamp ack.rank, proposal.next)
    where
      some_same : (x y : ℕ) → ◌≡◌ {A = Option ℕ} (Some x) (Some y) → x ≡ y
      some_same x y e = cc

  -- the requester of a decided placement above the settled one of a live node is not that node
  requester-other : (n w : ℕ) → IsLive o n → (inside : w < length chain) → (o.entry n).stamp.ver ≤ w → (nth no_proposal chain w).requester ≢ n
  requester-other n w live inside low same =
      let link = ownership.links w inside in
      elim link.requester [
        | inl stopped ↦ let is : o.stopped n ≡ true = rw same at stopped in true≢false (sym is ∙ live)
        | inr settled ↦
            let is : is_below (o.entry n).stamp (nth no_proposal chain w).stamp ≡ false = rw same at settled in
            omega (arith, not_below-ver (o.entry n).stamp (nth no_proposal chain w).stamp is, link.ver)
      ]

  named_back : (n : ℕ) → IsLive o n → (u : ℕ) → (o.entry n).stamp.ver ≤ u → u ≤ length chain → (place_at o chain u).owner ≡ n → (o.entry n).place.owner ≡ n
  named_back n live zero low inside named =
      let v : (o.entry n).stamp.ver ≡ 0 = omega arith in
      ap (λ (place : Place). place.owner) ((ownership.settled n).place ∙ ap (λ (v : ℕ). place_at o chain v) v) ∙ named
  named_back n live (suc w) low inside named =
      elim (cases_lt w (o.entry n).stamp.ver) [
        | inl at_end ↦
            let v : (o.entry n).stamp.ver ≡ suc w = omega arith in
            ap (λ (place : Place). place.owner) ((ownership.settled n).place ∙ ap (λ (v : ℕ). place_at o chain v) v) ∙ named
        | inr before ↦
            let made : (place_at o chain (suc w)).owner ≡ (new_place (nth no_proposal chain w)).owner = ap (λ (place : Place). place.owner) (chain_place-suc o.declared chain w) in
            elim (new_place-owner (nth no_proposal chain w)) [
              | inl requester ↦ absurd (requester-other n w live inside before (sym requester ∙ sym made ∙ named))
              | inr owner ↦
                  let base : (place_at o chain w).owner ≡ (nth no_proposal chain w).base_place.owner = sym (ap (λ (place : Place). place.owner) (ownership.links w inside).base_place) in
                  named_back n live w before (omega arith) (base ∙ sym owner ∙ sym made ∙ named)
            ]
      ]

  -- where a decided placement not below the settled one of a live node names it as owner, the settled one does so already
  pub own_place : (n u : ℕ) → IsLive o n → u ≤ length chain → is_below (chain_stamp chain u) (o.entry n).stamp ≡ false → (place_at o chain u).owner ≡ n → (o.entry n).place.owner ≡ n
  own_place n u live inside not_below named =
      let low : (o.entry n).stamp.ver ≤ u = omega (arith, not_below-ver (chain_stamp chain u) (o.entry n).stamp not_below, stamp_at-ver o chain ownership u inside) in
      named_back n live u low inside named

  -- a node that holds nothing has acknowledged and driven nothing above its settled version
  pub free-acked : (n e : ℕ) (p : Proposal) → (o.entry n).proposal ≡ None → HasAcked o n p e → p.stamp.ver ≤ (o.entry n).stamp.ver
  free-acked n e p free acked =
      let rank_is : rank o n ≡ (o.entry n).stamp = entry_rank-none (o.entry n).stamp (o.entry n).proposal free in
      let not_below : is_below (o.entry n).stamp p.stamp ≡ false = rw rank_is at (ack-rank o chain ownership n p e acked) in
      not_below-ver (o.entry n).stamp p.stamp not_below

  -- if a node holds no proposal, then each that it drove has a version not above its settled one
  pub free-driven : (n e : ℕ) (p : Proposal) → (o.entry n).proposal ≡ None → IsSaid o p e → p.stamp.driver ≡ n → p.stamp.ver ≤ (o.entry n).stamp.ver
  free-driven n e p free said driver =
      let rank_is : rank o n ≡ (o.entry n).stamp = entry_rank-none (o.entry n).stamp (o.entry n).proposal free in
      let at_driver : is_below (rank o n) p.stamp ≡ false = subst (λ (m : ℕ). is_below (rank o m) p.stamp ≡ false) driver (ownership.proposals p e said).driver in
      let not_below : is_below (o.entry n).stamp p.stamp ≡ false = rw rank_is at at_driver in
      not_below-ver (o.entry n).stamp p.stamp not_below
