-- Inside one state: at most one proposal of a version is ever chosen, and what follows for who settles and holds.
use Rattle.std.specs.Prelude.{ℕ, suc, ◌≡◌, ◌≢◌, ◌<◌, ◌≤◌, true, false, List, length, Option, Some, None, ◌⊎◌}
use Rattle.std.proofs.Common.{arith, refl, sym, ap, ◌∙◌, inl, inr}
use Rattle.std.proofs.lemmas.Bool.{cases_Bool, cases_lt, cases_eq, cond-false, true≢false}
use Rattle.zeus_base.specs.Order.{is_below}
use Rattle.zeus_base.specs.OrderLaws.{is_below-irrefl, is_below-lower, is_below-ver, is_below-asym}
use Rattle.zeus_base.specs.declared.order.Stamp.{Stamp}
use Rattle.zeus_packet.specs.declared.place.Proposal.{Proposal}
use Rattle.zeus_model.specs.Ownership.{proposal_above}
use Rattle.zeus_model.specs.Tables.{nth, where_true}
use Rattle.ownership_safety.specs.Object.{Object, IsLive, IsMember, IsArbiter, IsSaid, HasAcked, IsChosen, IsBlocked, rank, no_proposal, chain_stamp, place_at}
use Rattle.ownership_safety.specs.OwnershipInvariant.{OwnershipInvariant, IsLesser}
use Rattle.ownership_safety.proofs.Basics.{ballots, lesser-from, lesser-epoch, below_ne, stamp_cases, not_below-ver, not_below-above}
use Rattle.ownership_safety.proofs.Chain.{chain_stamp-suc, entry_rank-some, arbiter-later, stamp_at-less, said-viewed, ack-said, ack-viewed, ack-epoch, ack-rank, ack-arbiter, said-placed, same_base, chosen-said}

cleared : (t : Stamp) (held : Option Proposal) → ((q : Proposal) → held ≡ Some q → is_below t q.stamp ≡ false) → proposal_above t held ≡ None
unfolding proposal_above where_true
cleared t None h = refl
cleared t (Some q) h = cond-false _ _ _ (h q refl)

module _ (o : Object) (chain : List Proposal) (ownership : OwnershipInvariant o chain) where
  -- a chosen proposal is not blocked by another one of its version with a greater ballot
  pub lesser-not_chosen : (p q : Proposal) (e f : ℕ) → IsChosen o p e → IsSaid o q f → p.stamp.ver ≡ q.stamp.ver → p.stamp ≢ q.stamp → IsLesser e p.stamp f q.stamp → ⊥
  unfolding IsBlocked
  lesser-not_chosen p q e f chosen said ver ne lesser =
      let blocked : IsBlocked o p.stamp q.base_place e = ownership.blocks q f p.stamp e said ver ne chosen.viewed.0 lesser in
      let base = same_base o chain ownership p q e f (chosen-said o chain ownership p e chosen) said ver in
      let arbiter : IsArbiter o e p.base_place blocked.0 = rw base blocked.1 in
      blocked.2.0 (p, refl, chosen.acked blocked.0 arbiter)

  -- at most one proposal of a version is ever chosen, in whatever epochs
  pub chosen-unique : (p q : Proposal) (e f : ℕ) → IsChosen o p e → IsChosen o q f → p.stamp.ver ≡ q.stamp.ver → p ≡ q
  chosen-unique p q e f one two ver =
      let said_p = chosen-said o chain ownership p e one in
      let said_q = chosen-said o chain ownership q f two in
      elim (stamp_cases p.stamp q.stamp) [
        | inl same ↦ ownership.one_stamp p q e f said_p said_q same
        | inr ne ↦ elim (ballots e f p.stamp q.stamp ne) [
          | inl lesser ↦ absurd (lesser-not_chosen p q e f one said_q ver ne lesser)
          | inr greater ↦ absurd (lesser-not_chosen q p f e two said_p (sym ver) (λ same. ne (sym same)) greater)
        ]
      ]

  -- a chosen proposal is in the chain or follows on its end
  pub chosen-chain : (p : Proposal) (e : ℕ) → IsChosen o p e → ((p.base.ver < length chain) × (p ≡ nth no_proposal chain p.base.ver)) ⊎ (p.base.ver ≡ length chain)
  chosen-chain p e chosen =
      let is = ownership.proposals p e (chosen-said o chain ownership p e chosen) in
      elim (cases_lt p.base.ver (length chain)) [
        | inl inside ↦
            let link = ownership.links p.base.ver inside in
            inl (inside, chosen-unique p (nth no_proposal chain p.base.ver) e link.chosen.0 chosen link.chosen.1 (is.next ∙ sym link.ver))
        | inr outside ↦ inr (omega (arith, is.decided))
      ]

  -- an arbiter of a proposal that was said in its epoch has a decided stamp of that version only from the proposal on
  link-not_below : (n : ℕ) (p : Proposal) → IsLive o n → IsSaid o p (o.epoch n) → IsArbiter o (o.epoch n) p.base_place n → p.base.ver < length chain → is_below (nth no_proposal chain p.base.ver).stamp p.stamp ≡ false
  link-not_below n p live said arbiter inside =
      elim (cases_Bool (is_below (nth no_proposal chain p.base.ver).stamp p.stamp)) [
        | inl below ↦ absurd (rival (nth no_proposal chain p.base.ver) (ownership.links p.base.ver inside).chosen.0 (ownership.links p.base.ver inside).chosen.1 (omega (arith, (ownership.links p.base.ver inside).ver, (ownership.proposals p (o.epoch n) said).next)) below)
        | inr not_below ↦ not_below
      ]
    where
      rival : (q : Proposal) (f : ℕ) → IsChosen o q f → q.stamp.ver ≡ p.stamp.ver → is_below q.stamp p.stamp ≡ true → ⊥
      rival q f chosen ver below =
          elim (cases_lt (o.epoch n) f) [
            | inl later ↦
                let member : IsMember o f n = ownership.viewed.live n f live chosen.viewed in
                let base : p.base_place ≡ q.base_place = same_base o chain ownership p q (o.epoch n) f said (chosen-said o chain ownership q f chosen) (sym ver) in
                let still : IsArbiter o f p.base_place n =
                arbiter-later o ownership.viewed (o.epoch n) f p.base_place n (said-placed o chain ownership p (o.epoch n) said) (said-viewed o chain ownership p (o.epoch n) said) chosen.viewed (omega arith) member arbiter
                in
                let acked : HasAcked o n q f = chosen.acked n (rw base at still) in
                omega (arith, ack-epoch o chain ownership n q f acked)
            | inr not_later ↦
                lesser-not_chosen q p f (o.epoch n) chosen said ver (below_ne q.stamp p.stamp below) (lesser-from f (o.epoch n) q.stamp p.stamp not_later below)
          ]

  -- an arbiter whose settled stamp is not below the base of a proposal, and below the proposal, has settled just the base
  pub settled-base : (n : ℕ) (p : Proposal) → IsLive o n → IsSaid o p (o.epoch n) → IsArbiter o (o.epoch n) p.base_place n → is_below (o.entry n).stamp p.base ≡ false → is_below (o.entry n).stamp p.stamp ≡ true → ((o.entry n).stamp ≡ p.base) × ((o.entry n).place ≡ p.base_place)
  settled-base n p live said arbiter not_below below =
      let is = ownership.settled n in
      let proposal = ownership.proposals p (o.epoch n) said in
      let low : p.base.ver ≤ (o.entry n).stamp.ver = not_below-ver (o.entry n).stamp p.base not_below in
      let high : (o.entry n).stamp.ver ≤ p.stamp.ver = is_below-ver (o.entry n).stamp p.stamp below in
      elim (cases_eq (o.entry n).stamp.ver p.base.ver) [
        | inl same ↦ (
          is.stamp ∙ ap (λ (v : ℕ). chain_stamp chain v) same ∙ sym proposal.base,
          is.place ∙ ap (λ (v : ℕ). place_at o chain v) same ∙ sym proposal.base_place,
        )
        | inr other ↦
            let next : (o.entry n).stamp.ver ≡ suc p.base.ver = omega (arith, proposal.next) in
            let stamp : (o.entry n).stamp ≡ (nth no_proposal chain p.base.ver).stamp = is.stamp ∙ ap (λ (v : ℕ). chain_stamp chain v) next ∙ chain_stamp-suc chain p.base.ver in
            let none = link-not_below n p live said arbiter (omega (arith, is.ver)) in
            let some : is_below (nth no_proposal chain p.base.ver).stamp p.stamp ≡ true = rw stamp at below in
            absurd cc
      ]

  -- no live node holds a rival of a chosen proposal
  pub chosen-no_rival : (p q : Proposal) (e n : ℕ) → IsChosen o p e → IsLive o n → (o.entry n).proposal ≡ Some q → q.stamp.ver ≡ p.stamp.ver → q ≡ p
  chosen-no_rival p q e n chosen live holds ver =
      let held = (ownership.held n q holds).acked in
      let said_p = chosen-said o chain ownership p e chosen in
      let said_q : IsSaid o q held.0 = ack-said o chain ownership n q held.0 held.2 in
      elim (stamp_cases q.stamp p.stamp) [
        | inl same ↦ ownership.one_stamp q p held.0 e said_q said_p same
        | inr ne ↦ elim (ballots e held.0 p.stamp q.stamp (λ same. ne (sym same))) [
          | inl lesser ↦ absurd (lesser-not_chosen p q e held.0 chosen said_q (sym ver) (λ same. ne (sym same)) lesser)
          | inr greater ↦
              let member : IsMember o e n = ownership.viewed.live n e live chosen.viewed in
              let still : IsArbiter o e q.base_place n =
              arbiter-later o ownership.viewed held.0 e q.base_place n (said-placed o chain ownership q held.0 said_q) (ack-viewed o chain ownership n q held.0 held.2) chosen.viewed (lesser-epoch held.0 e q.stamp p.stamp greater) member (ack-arbiter o chain ownership n q held.0 held.2)
              in
              let base : q.base_place ≡ p.base_place = same_base o chain ownership q p held.0 e said_q said_p ver in
              let acked : HasAcked o n p e = chosen.acked n (rw base at still) in
              let rank_is : rank o n ≡ q.stamp = entry_rank-some (o.entry n).stamp (o.entry n).proposal q holds in
              let not_below : is_below q.stamp p.stamp ≡ false = rw rank_is at (ack-rank o chain ownership n p e acked) in
              let above : is_below p.stamp q.stamp ≡ true = not_below-above q.stamp p.stamp not_below ne in
              let order : e ≤ held.0 = ownership.ack_order n q p held.0 e held.2 acked above in
              absurd (impossible held.0 e q.stamp p.stamp greater not_below order)
        ]
      ]
    where
      impossible : (e f : ℕ) (t s : Stamp) → IsLesser e t f s → is_below t s ≡ false → f ≤ e → ⊥
      impossible e f t s (inl less) not_below le = omega arith
      impossible e f t s (inr both) not_below le = let some : is_below t s ≡ true = both.1 in true≢false (sym some ∙ not_below)

  -- a chosen proposal above the settled stamp of a node has a greater version
  pub settled-less : (p : Proposal) (e n : ℕ) → IsChosen o p e → is_below (o.entry n).stamp p.stamp ≡ true → (o.entry n).stamp.ver < p.stamp.ver
  settled-less p e n chosen below =
      let is = ownership.settled n in
      let next : p.stamp.ver ≡ suc p.base.ver = (ownership.proposals p e (chosen-said o chain ownership p e chosen)).next in
      let high : (o.entry n).stamp.ver ≤ p.stamp.ver = is_below-ver (o.entry n).stamp p.stamp below in
      elim (chosen-chain p e chosen) [
        | inl inside ↦
            let stamp : chain_stamp chain (suc p.base.ver) ≡ p.stamp = chain_stamp-suc chain p.base.ver ∙ sym (ap (λ (q : Proposal). q.stamp) inside.1) in
            let under : is_below (chain_stamp chain (o.entry n).stamp.ver) (chain_stamp chain (suc p.base.ver)) ≡ true = rw (stamp, ← is.stamp) below in
            omega (arith, stamp_at-less o chain ownership (o.entry n).stamp.ver (suc p.base.ver) is.ver inside.0 under)
        | inr outside ↦ omega (arith, is.ver)
      ]

  -- what a live node holds is not above a chosen proposal that is above its settled stamp
  pub chosen-not_below : (p q : Proposal) (e n : ℕ) → IsChosen o p e → IsLive o n → (o.entry n).proposal ≡ Some q → is_below (o.entry n).stamp p.stamp ≡ true → is_below p.stamp q.stamp ≡ false
  chosen-not_below p q e n chosen live holds below =
      let held = ownership.held n q holds in
      let next : q.stamp.ver ≡ suc q.base.ver = (ownership.proposals q held.acked.0 (ack-said o chain ownership n q held.acked.0 held.acked.2)).next in
      let base : (o.entry n).stamp.ver ≡ q.base.ver = ap (λ (t : Stamp). t.ver) held.base in
      let above : (o.entry n).stamp.ver < p.stamp.ver = settled-less p e n chosen below in
      elim (cases_eq q.stamp.ver p.stamp.ver) [
        | inl same ↦
            let one : q ≡ p = chosen-no_rival p q e n chosen live holds same in
            rw one (is_below-irrefl p.stamp)
        | inr other ↦ is_below-asym q.stamp p.stamp (is_below-lower q.stamp p.stamp (omega arith))
      ]

  -- so to settle it leaves no proposal held
  pub chosen-clears : (p : Proposal) (e n : ℕ) → IsChosen o p e → IsLive o n → is_below (o.entry n).stamp p.stamp ≡ true → proposal_above p.stamp (o.entry n).proposal ≡ None
  chosen-clears p e n chosen live below = cleared p.stamp (o.entry n).proposal (λ q holds. chosen-not_below p q e n chosen live holds below)
