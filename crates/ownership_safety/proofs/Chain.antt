-- Inside one state: the chain of decided placements, the views, and what letters say of their senders.
use Rattle.std.specs.Prelude.{ℕ, zero, suc, ◌≡◌, ◌<◌, ◌≤◌, true, false, List, length, Option, Some, None}
use Rattle.std.proofs.Common.{arith, refl, sym, ap, ◌∙◌, inl, inr, le_refl}
use Rattle.std.proofs.lemmas.Bool.{cases_order, cases_lt}
use Rattle.zeus_base.specs.Nodes.{is_subset}
use Rattle.zeus_base.specs.NodeLaws.{is_subset-refl, is_subset-trans}
use Rattle.zeus_base.specs.Order.{is_below}
use Rattle.zeus_base.specs.OrderLaws.{is_below-irrefl, is_below-lower, is_below-ver}
use Rattle.zeus_base.specs.declared.order.Stamp.{Stamp}
use Rattle.zeus_packet.specs.Place.{new_place}
use Rattle.zeus_packet.specs.declared.place.Place.{Place}
use Rattle.zeus_packet.specs.declared.place.Proposal.{Proposal}
use Rattle.zeus_model.specs.Tables.{nth}
use Rattle.ownership_safety.specs.Object.{Object, IsView, IsMember, IsArbiter, IsSaid, HasAcked, IsChosen, view, rank, entry_rank, no_proposal, chain_stamp, chain_place, place_at}
use Rattle.ownership_safety.specs.OwnershipInvariant.{OwnershipInvariant, IsViewed, IsPlaced, IsDecided}
use Rattle.ownership_safety.proofs.Arbiters.{arbiters-directory, arbiters-stay, new_place-placed}

-- ---- the chain

-- the stamp of version v + 1 is that of the chain's proposal v
pub chain_stamp-suc : (chain : List Proposal) (v : ℕ) → chain_stamp chain (suc v) ≡ (nth no_proposal chain v).stamp
unfolding chain_stamp
chain_stamp-suc chain v = refl

-- the placement of version v + 1 is the one that the chain's proposal v made
pub chain_place-suc : (declared : Place) (chain : List Proposal) (v : ℕ) → chain_place declared chain (suc v) ≡ new_place (nth no_proposal chain v)
unfolding chain_place
chain_place-suc declared chain v = refl

-- if no proposal is held, then the rank is the settled stamp
pub entry_rank-none : (t : Stamp) (o : Option Proposal) → o ≡ None → entry_rank t o ≡ t
unfolding entry_rank
entry_rank-none t o is = rw is refl

-- if a proposal is held, then the rank is its stamp
pub entry_rank-some : (t : Stamp) (o : Option Proposal) (p : Proposal) → o ≡ Some p → entry_rank t o ≡ p.stamp
unfolding entry_rank
entry_rank-some t o p is = rw is refl

-- ---- the views

-- if two epochs have views, then the later view lies in the earlier one
pub views-shrink : (o : Object) → IsViewed o → (e f : ℕ) → IsView o e → IsView o f → e ≤ f → is_subset (view o f) (view o e) ≡ true
views-shrink o v e zero ve vf le = absurd (omega arith)
views-shrink o v e (suc f) ve vf le =
    elim (cases_lt f e) [
      | inl low ↦ let same : e ≡ suc f = omega arith in rw same (is_subset-refl (view o (suc f)))
      | inr high ↦
          let vg : IsView o f = (omega arith, omega arith) in
          is_subset-trans (view o (suc f)) (view o f) (view o e) (v.shrinking f vg vf) (views-shrink o v e f ve vg high)
    ]

-- an arbiter of an epoch is one of each later epoch in which it is a member
pub arbiter-later : (o : Object) → IsViewed o → (e f : ℕ) (place : Place) (n : ℕ) → IsPlaced place → IsView o e → IsView o f → e ≤ f → IsMember o f n → IsArbiter o e place n → IsArbiter o f place n
arbiter-later o v e f place n placed ve vf le member arbiter =
    arbiters-stay place (view o e) (view o f) o.directory n placed.rising (views-shrink o v e f ve vf le) member arbiter

module _ (o : Object) (chain : List Proposal) (ownership : OwnershipInvariant o chain) where
  -- ---- the chain

  -- a decided stamp has the version of its place in the chain
  pub stamp_at-ver : (v : ℕ) → v ≤ length chain → (chain_stamp chain v).ver ≡ v
  unfolding chain_stamp
  stamp_at-ver zero h = refl
  stamp_at-ver (suc v) h = (ownership.links v h).ver

  -- the owner of each decided placement is one of its replicas
  pub place_at-placed : (v : ℕ) → v ≤ length chain → IsPlaced (place_at o chain v)
  unfolding chain_place
  place_at-placed zero h = ownership.declared
  place_at-placed (suc v) h =
      new_place-placed (nth no_proposal chain v) (ownership.links v h).placed (ownership.links v h).want

  -- of two decided versions the lower one has the lower stamp
  pub stamp_at-below : (u v : ℕ) → u < v → v ≤ length chain → is_below (chain_stamp chain u) (chain_stamp chain v) ≡ true
  stamp_at-below u v less in_chain =
      is_below-lower (chain_stamp chain u) (chain_stamp chain v)
      (omega (arith, stamp_at-ver u (omega arith), stamp_at-ver v in_chain))

  -- if one decided stamp is below another, then its version is lower
  pub stamp_at-less : (u v : ℕ) → u ≤ length chain → v ≤ length chain → is_below (chain_stamp chain u) (chain_stamp chain v) ≡ true → u < v
  stamp_at-less u v u_in v_in below =
      elim (cases_order u v) [
        | inl same ↦
            let none : is_below (chain_stamp chain v) (chain_stamp chain v) ≡ false = is_below-irrefl (chain_stamp chain v) in
            let some : is_below (chain_stamp chain v) (chain_stamp chain v) ≡ true = rw same at below in
            absurd cc
        | inr other ↦ elim other [
          | inl less ↦ less
          | inr more ↦
              omega (arith, is_below-ver (chain_stamp chain u) (chain_stamp chain v) below, stamp_at-ver u u_in, stamp_at-ver v v_in)
        ]
      ]

  -- the owner of the latest decided placement is one of its replicas
  pub latest-placed : IsPlaced (place_at o chain (length chain))
  latest-placed = place_at-placed (length chain) (le_refl (length chain))

  -- the placement of a decided stamp
  pub decided-placed : (t : Stamp) (place : Place) → IsDecided o chain t place → IsPlaced place
  decided-placed t place is = rw is.place (place_at-placed t.ver is.ver)

  -- ---- letters

  -- if a proposal was said in an epoch, then the epoch has a view
  pub said-viewed : (p : Proposal) (e : ℕ) → IsSaid o p e → IsView o e
  said-viewed p e (inl (from, to, m)) = (ownership.viewed.invalidations from to e p m).0
  said-viewed p e (inr (n, (to, c, m))) = (ownership.viewed.acknowledgements n to e p c m).0

  -- if a node acknowledged a proposal in an epoch, then the proposal was said in it
  pub ack-said : (n : ℕ) (p : Proposal) (e : ℕ) → HasAcked o n p e → IsSaid o p e
  ack-said n p e a = inr (n, a)

  -- if a node acknowledged a proposal in an epoch, then the epoch has a view
  pub ack-viewed : (n : ℕ) (p : Proposal) (e : ℕ) → HasAcked o n p e → IsView o e
  ack-viewed n p e a = (ownership.viewed.acknowledgements n a.0 e p a.1 a.2).0

  -- if a node acknowledged a proposal in an epoch, then its own epoch is not below that one
  pub ack-epoch : (n : ℕ) (p : Proposal) (e : ℕ) → HasAcked o n p e → e ≤ o.epoch n
  ack-epoch n p e a = (ownership.viewed.acknowledgements n a.0 e p a.1 a.2).1

  -- if a node acknowledged a proposal, then its rank is not below the proposal's stamp
  pub ack-rank : (n : ℕ) (p : Proposal) (e : ℕ) → HasAcked o n p e → is_below (rank o n) p.stamp ≡ false
  ack-rank n p e a = (ownership.acks n a.0 e p a.1 a.2).rank

  -- if a node acknowledged a proposal in an epoch, then it is an arbiter of the base there
  pub ack-arbiter : (n : ℕ) (p : Proposal) (e : ℕ) → HasAcked o n p e → IsArbiter o e p.base_place n
  ack-arbiter n p e a = (ownership.acks n a.0 e p a.1 a.2).arbiter

  -- the base of a proposal that was said is a decided placement
  pub said-placed : (p : Proposal) (e : ℕ) → IsSaid o p e → IsPlaced p.base_place
  said-placed p e s = (ownership.proposals p e s).placed

  -- two proposals of one version that were said have one base
  pub same_base : (p q : Proposal) (e f : ℕ) → IsSaid o p e → IsSaid o q f → p.stamp.ver ≡ q.stamp.ver → p.base_place ≡ q.base_place
  same_base p q e f s t same =
      let one = ownership.proposals p e s in
      let two = ownership.proposals q f t in
      let ver : p.base.ver ≡ q.base.ver = omega (arith, one.next, two.next) in
      one.base_place ∙ ap (λ (v : ℕ). place_at o chain v) ver ∙ sym two.base_place

  -- if a proposal is chosen in an epoch, then it was said in it
  pub chosen-said : (p : Proposal) (e : ℕ) → IsChosen o p e → IsSaid o p e
  chosen-said p e c =
      let d = c.directory in
      inr (d.0, c.acked d.0 (arbiters-directory p.base_place (view o e) o.directory d.0 d.1 d.2))
