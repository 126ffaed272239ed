-- The moves by which a node says a proposal: it drives a request, it accepts a proposal, it says again what it holds.
use Rattle.std.specs.Prelude.{ℕ, suc, ◌≡◌, ◌≢◌, ◌<◌, ◌≤◌, true, false, List, Option, Some, None, ◌⊎◌}
use Rattle.std.proofs.Common.{arith, refl, sym, ap, subst, ◌∙◌, inl, inr, le_refl}
use Rattle.std.proofs.lemmas.Bool.{cases_Bool, cases_lt, cases_eq, true≢false}
use Rattle.zeus_base.specs.Order.{is_below}
use Rattle.zeus_base.specs.OrderLaws.{is_below-irrefl, is_below-lower, is_below-asym}
use Rattle.zeus_base.specs.declared.order.Stamp.{Stamp}
use Rattle.zeus_packet.specs.declared.place.Place.{Place}
use Rattle.zeus_packet.specs.declared.place.Proposal.{Proposal}
use Rattle.zeus_model.specs.declared.state.Entry.{Entry}
use Rattle.ownership_safety.specs.Object.{Object, IsView, IsArbiter, IsSaid, IsBlocked, HasAcked, HasAckedStamp, view, rank, entry_rank, chain_stamp, place_at}
use Rattle.ownership_safety.specs.Moves.{Drives, Accepts, Redrives}
use Rattle.ownership_safety.specs.OwnershipInvariant.{OwnershipInvariant, IsProposal, IsLesser}
use Rattle.ownership_safety.proofs.Basics.{not_below-above, lesser-epoch}
use Rattle.ownership_safety.proofs.Arbiters.{arbiters-directory}
use Rattle.ownership_safety.proofs.Chain.{entry_rank-none, entry_rank-some, arbiter-later, decided-placed, said-placed, ack-said, ack-viewed, ack-rank, ack-arbiter}
use Rattle.ownership_safety.proofs.Choice.{settled-base}
use Rattle.ownership_safety.proofs.Owner.{free-acked, free-driven}
use Rattle.ownership_safety.specs.Kept.{Grows}
use Rattle.ownership_safety.proofs.Grows.{Extends-refl, arbiter-grows, acked-grows, proposal-grows, decided-grows}
use Rattle.ownership_safety.proofs.Letters.{ack_order-grows}
use Rattle.ownership_safety.proofs.NothingSaid.{blocks-kept}
use Rattle.ownership_safety.proofs.Speaks.{Says, says-rank, says-grows, says-acks, speaks-ownership}

-- a node that has not acknowledged a stamp, and is past the epoch or above the stamp, blocks it
node_blocks : (o : Object) (t : Stamp) (place : Place) (e n : ℕ) → IsArbiter o e place n → (HasAckedStamp o n t e → ⊥) → (e < o.epoch n) ⊎ (is_below t (rank o n) ≡ true) → IsBlocked o t place e
unfolding IsBlocked
node_blocks o t place e n arbiter never why = (n, arbiter, (never, inr why))

-- ---- a request is driven

module _ (old new : Object) (n : ℕ) (p : Proposal) (drives : Drives old new n p) (chain : List Proposal) (ownership : OwnershipInvariant old chain) where
  drives-rank : rank old n ≡ (old.entry n).stamp
  drives-rank = entry_rank-none (old.entry n).stamp (old.entry n).proposal drives.free

  drives-ver : p.stamp.ver ≡ suc (old.entry n).stamp.ver
  drives-ver = ap (λ (t : Stamp). t.ver) drives.stamp ∙ omega arith

  drives-driver : p.stamp.driver ≡ n
  drives-driver = ap (λ (t : Stamp). t.driver) drives.stamp

  drives-below : is_below (old.entry n).stamp p.stamp ≡ true
  drives-below = is_below-lower (old.entry n).stamp p.stamp (let next = drives-ver in omega arith)

  says_Drives : Says old new n p
  says_Drives =
      record {
        acts = drives.acts;
        stamp = ap (λ (x : Entry). x.stamp) drives.entry;
        place = ap (λ (x : Entry). x.place) drives.entry;
        held = ap (λ (x : Entry). x.proposal) drives.entry;
        not_above = rw drives-rank (is_below-asym (old.entry n).stamp p.stamp drives-below);
        gather = drives.gather;
        sends = drives.sends;
      }

  -- a driven request takes nothing back
  pub grows_Drives : Grows old new
  grows_Drives = says-grows old new n p says_Drives

  drives-arbiter : (e : ℕ) → IsView old e → IsArbiter old e p.base_place n
  drives-arbiter e v =
      arbiters-directory p.base_place (view old e) old.directory n drives.directory (ownership.viewed.live n e drives.acts.live v)

  drives-new_stamp : (q : Proposal) (e : ℕ) → IsSaid old q e → q.stamp ≡ p.stamp → q ≡ p
  drives-new_stamp q e said same =
      let driver : q.stamp.driver ≡ n = ap (λ (t : Stamp). t.driver) same ∙ drives-driver in
      let ver : q.stamp.ver ≡ p.stamp.ver = ap (λ (t : Stamp). t.ver) same in
      let low = free-driven old chain ownership n e q drives.free said driver in
      let next = drives-ver in
      absurd (omega arith)

  drives-proposal : IsProposal new chain p
  drives-proposal =
      let is = decided-grows old new grows_Drives chain chain (Extends-refl chain) (old.entry n).stamp (old.entry n).place (ownership.settled n) in
      let ver : p.base.ver ≡ (old.entry n).stamp.ver = ap (λ (t : Stamp). t.ver) drives.base in
      record {
        next = drives-ver ∙ ap (λ (v : ℕ). suc v) (sym ver);
        placed = rw drives.base_place (decided-placed old chain ownership (old.entry n).stamp (old.entry n).place (ownership.settled n));
        want = drives.want;
        driver = subst (λ (m : ℕ). is_below (rank new m) p.stamp ≡ false) (sym drives-driver) (rw (says-rank old new n p says_Drives) (is_below-irrefl p.stamp));
        decided = omega (arith, is.ver);
        base = drives.base ∙ is.stamp ∙ ap (λ (v : ℕ). chain_stamp chain v) (sym ver);
        base_place = drives.base_place ∙ is.place ∙ ap (λ (v : ℕ). place_at new chain v) (sym ver);
      }

  drives-not_acked : (t : Stamp) (e : ℕ) → t.ver ≡ p.stamp.ver → t ≢ p.stamp → HasAckedStamp new n t e → ⊥
  drives-not_acked t e ver ne (q, is, (to, c, m)) =
      elim (says-acks old new n p says_Drives n to e q c m) [
        | inl before ↦
            let low = free-acked old chain ownership n e q drives.free (to, c, before) in
            let same : q.stamp.ver ≡ t.ver = ap (λ (s : Stamp). s.ver) is in
            let next = drives-ver in
            omega arith
        | inr now ↦ ne (sym is ∙ ap (λ (r : Proposal). r.stamp) now.proposal)
      ]

  drives-blocks : (t : Stamp) (e : ℕ) → t.ver ≡ p.stamp.ver → t ≢ p.stamp → 1 ≤ e → IsLesser e t (old.epoch n) p.stamp → IsBlocked new t p.base_place e
  drives-blocks t e ver ne first lesser =
      let v : IsView old e = (first, let here = ownership.viewed.epochs n drives.acts.live in omega (arith, lesser-epoch e (old.epoch n) t p.stamp lesser)) in
      node_blocks new t p.base_place e n (arbiter-grows old new grows_Drives e p.base_place n v (drives-arbiter e v)) (drives-not_acked t e ver ne)
      (elim lesser [
        | inl less ↦ inl (let same = drives.acts.epoch in omega arith)
        | inr both ↦ inr (rw (says-rank old new n p says_Drives) both.1)
      ])

  -- if the invariant holds, then also after a node has driven a request
  pub keeps_Drives : OwnershipInvariant new chain
  keeps_Drives =
      speaks-ownership old new n p says_Drives chain ownership record {
        says = says_Drives;
        base = sym drives.base;
        base_place = sym drives.base_place;
        arbiter = drives-arbiter (old.epoch n) (ownership.viewed.epochs n drives.acts.live);
        one_stamp = drives-new_stamp;
        proposal = drives-proposal;
        acked = (old.epoch n, le_refl (old.epoch n), drives.acked);
        blocks = drives-blocks;
      }

-- ---- a proposal is accepted

rank-not_above : (t s : Stamp) (held : Option Proposal) → is_below s t ≡ true → ((q : Proposal) → held ≡ Some q → is_below t q.stamp ≡ false) → is_below t (entry_rank s held) ≡ false
unfolding entry_rank
rank-not_above t s None below greatest = is_below-asym s t below
rank-not_above t s (Some q) below greatest = greatest q refl

module _ (old new : Object) (n : ℕ) (p : Proposal) (accepts : Accepts old new n p) where
  says_Accepts : Says old new n p
  says_Accepts =
      record {
        acts = accepts.acts;
        stamp = ap (λ (x : Entry). x.stamp) accepts.entry;
        place = ap (λ (x : Entry). x.place) accepts.entry;
        held = ap (λ (x : Entry). x.proposal) accepts.entry;
        not_above = rank-not_above p.stamp (old.entry n).stamp (old.entry n).proposal accepts.below accepts.greatest;
        gather = accepts.gather;
        sends = accepts.sends;
      }

  -- an accepted proposal takes nothing back
  pub grows_Accepts : Grows old new
  grows_Accepts = says-grows old new n p says_Accepts

  -- if the invariant holds, then also after a node has accepted a proposal
  pub keeps_Accepts : (chain : List Proposal) → OwnershipInvariant old chain → OwnershipInvariant new chain
  keeps_Accepts chain ownership =
      let base = settled-base old chain ownership n p accepts.acts.live accepts.said accepts.arbiter accepts.not_below_base accepts.below in
      speaks-ownership old new n p says_Accepts chain ownership record {
        says = says_Accepts;
        base = base.0;
        base_place = base.1;
        arbiter = accepts.arbiter;
        one_stamp = λ q e said same. ownership.one_stamp q p e (old.epoch n) said accepts.said same;
        proposal = proposal-grows old new grows_Accepts chain chain (Extends-refl chain) p (ownership.proposals p (old.epoch n) accepts.said);
        acked = (old.epoch n, le_refl (old.epoch n), accepts.acked);
        blocks = λ t e. blocks-kept old new grows_Accepts chain ownership p (old.epoch n) t e accepts.said;
      }

-- ---- a held proposal is said again

module _ (old new : Object) (n : ℕ) (p : Proposal) (redrives : Redrives old new n p) where
  redrives-rank : rank old n ≡ p.stamp
  redrives-rank = entry_rank-some (old.entry n).stamp (old.entry n).proposal p redrives.held

  says_Redrives : Says old new n p
  says_Redrives =
      record {
        acts = redrives.acts;
        stamp = ap (λ (x : Entry). x.stamp) redrives.entry;
        place = ap (λ (x : Entry). x.place) redrives.entry;
        held = ap (λ (x : Entry). x.proposal) redrives.entry ∙ redrives.held;
        not_above = rw redrives-rank (is_below-irrefl p.stamp);
        gather = redrives.gather;
        sends = redrives.sends;
      }

  -- a proposal that is said again takes nothing back
  pub grows_Redrives : Grows old new
  grows_Redrives = says-grows old new n p says_Redrives

  -- since the epoch in which the node acknowledged the proposal it blocks the others: the lower ones, since it acknowledges in
  -- order, and the higher ones, since it has not acknowledged them yet
  module _ (chain : List Proposal) (ownership : OwnershipInvariant old chain) (since : ℕ) (acked : HasAcked old n p since) where
    since-arbiter : (e : ℕ) → since ≤ e → IsView old e → IsArbiter old e p.base_place n
    since-arbiter e le v =
        arbiter-later old ownership.viewed since e p.base_place n (said-placed old chain ownership p since (ack-said old chain ownership n p since acked)) (ack-viewed old chain ownership n p since acked) v le
        (ownership.viewed.live n e redrives.acts.live v) (ack-arbiter old chain ownership n p since acked)

    lower-not_acked : (t : Stamp) (e : ℕ) → since < e → is_below t p.stamp ≡ true → HasAckedStamp new n t e → ⊥
    lower-not_acked t e later below (q, is, again) =
        let under : is_below q.stamp p.stamp ≡ true = rw is below in
        let order : e ≤ since = ack_order-grows old new grows_Redrives chain ownership n p q since e (acked-grows old new grows_Redrives n p since acked) again under in
        omega arith

    higher-not_acked : (t : Stamp) (e : ℕ) → is_below p.stamp t ≡ true → HasAckedStamp new n t e → ⊥
    higher-not_acked t e above (q, is, (to, c, m)) =
        elim (says-acks old new n p says_Redrives n to e q c m) [
          | inl before ↦
              let low : is_below (rank old n) q.stamp ≡ false = ack-rank old chain ownership n q e (to, c, before) in
              let none : is_below p.stamp t ≡ false = rw (redrives-rank, is) at low in
              true≢false (sym above ∙ none)
          | inr now ↦
              let same : t ≡ p.stamp = sym is ∙ ap (λ (r : Proposal). r.stamp) now.proposal in
              let none : is_below p.stamp p.stamp ≡ false = is_below-irrefl p.stamp in
              true≢false (sym (rw same at above) ∙ none)
        ]

    redrives-blocks : (t : Stamp) (e : ℕ) → t.ver ≡ p.stamp.ver → t ≢ p.stamp → 1 ≤ e → IsLesser e t (old.epoch n) p.stamp → IsBlocked new t p.base_place e
    redrives-blocks t e ver ne first lesser =
        elim (cases_lt e since) [
          | inl early ↦ blocks-kept old new grows_Redrives chain ownership p since t e (ack-said old chain ownership n p since acked) ver ne first (inl early)
          | inr late ↦
              let v : IsView old e = (first, let here = ownership.viewed.epochs n redrives.acts.live in omega (arith, lesser-epoch e (old.epoch n) t p.stamp lesser)) in
              let arbiter : IsArbiter new e p.base_place n = arbiter-grows old new grows_Redrives e p.base_place n v (since-arbiter e late v) in
              elim (cases_Bool (is_below t p.stamp)) [
                | inl below ↦ elim (cases_eq e since) [
                  | inl same ↦ blocks-kept old new grows_Redrives chain ownership p since t e (ack-said old chain ownership n p since acked) ver ne first (inr (same, below))
                  | inr other ↦
                      node_blocks new t p.base_place e n arbiter (lower-not_acked t e (omega arith) below)
                      (inr (rw (says-rank old new n p says_Redrives) below))
                ]
                | inr not_below ↦
                    let above : is_below p.stamp t ≡ true = not_below-above t p.stamp not_below ne in
                    node_blocks new t p.base_place e n arbiter (higher-not_acked t e above)
                    (elim lesser [
                      | inl less ↦ inl (let same = redrives.acts.epoch in omega arith)
                      | inr both ↦ absurd (true≢false (sym both.1 ∙ not_below))
                    ])
              ]
        ]

  -- if the invariant holds, then also after a node has said again what it holds
  pub keeps_Redrives : (chain : List Proposal) → OwnershipInvariant old chain → OwnershipInvariant new chain
  keeps_Redrives chain ownership =
      let held = ownership.held n p redrives.held in
      let since = held.acked.0 in
      let acked : HasAcked old n p since = held.acked.2 in
      let said : IsSaid old p since = ack-said old chain ownership n p since acked in
      speaks-ownership old new n p says_Redrives chain ownership record {
        says = says_Redrives;
        base = held.base;
        base_place = held.base_place;
        arbiter = since-arbiter chain ownership since acked (old.epoch n) held.acked.1 (ownership.viewed.epochs n redrives.acts.live);
        one_stamp = λ q e s same. ownership.one_stamp q p e since s said same;
        proposal = proposal-grows old new grows_Redrives chain chain (Extends-refl chain) p (ownership.proposals p since said);
        acked = (since, held.acked.1, acked-grows old new grows_Redrives n p since acked);
        blocks = redrives-blocks chain ownership since acked;
      }
