-- In the beginning all holds, with no decision made.
use Rattle.std.specs.Prelude.{ℕ, zero, suc, ◌≡◌, ◌-◌, List, [], ◌∷◌, length, Option, Some, None}
use Rattle.std.proofs.Common.{arith, refl, sym, ap, ◌∙◌, inl, inr}
use Rattle.zeus_base.specs.NodeLaws.{IsRising, RisesFrom}
use Rattle.zeus_packet.specs.declared.place.Place.{Place}
use Rattle.zeus_packet.specs.declared.place.Proposal.{Proposal}
use Rattle.zeus_model.specs.declared.state.Entry.{Entry}
use Rattle.zeus_model.specs.declared.state.Gather.{Gather}
use Rattle.zeus_model.specs.Tables.{nth}
use Rattle.ownership_safety.specs.Object.{Object, Letter, In, IsSaid, first_stamp, chain_stamp, chain_place}
use Rattle.ownership_safety.specs.OwnershipInvariant.{OwnershipInvariant, IsViewed}
use Rattle.ownership_safety.specs.Kept.{IsStart}

one_rising : (members : List ℕ) → IsRising members → (i : ℕ) → IsRising (nth [] (members ∷ []) i)
unfolding nth RisesFrom
one_rising members rising zero = rising
one_rising members rising (suc i) = tt

first_view : (members : List ℕ) → nth [] (members ∷ []) 0 ≡ members
unfolding nth
first_view members = refl

decided_first : (declared : Place) (chain : List Proposal) → (chain_stamp chain 0 ≡ first_stamp) × (chain_place declared chain 0 ≡ declared)
unfolding chain_stamp chain_place
decided_first declared chain = (refl, refl)

no_member : {A : Type 0} (a : A) → In a [] → ⊥
no_member a m = elim m [ ]

module _ (o : Object) (start : IsStart o) where
  start-silent : (l : Letter) → In l o.letters → ⊥
  start-silent l m = no_member l (rw start.letters at m)

  start-unsaid : (p : Proposal) (e : ℕ) → IsSaid o p e → ⊥
  start-unsaid p e (inl i) = start-silent _ i.2
  start-unsaid p e (inr (n, a)) = start-silent _ a.2

  start-viewed : IsViewed o
  start-viewed =
      let count : length o.views ≡ 1 = ap (λ (vs : List (List ℕ)). length vs) start.views in
      record {
        rising = λ e. rw start.views (one_rising start.members start.rising (e - 1));
        shrinking = λ e v w. absurd (omega arith);
        live = λ n e live v.
            let first : e - 1 ≡ 0 = omega arith in
            rw (start.views, first, first_view) (start.member n live);
        epochs = λ n live. let first = start.epoch n live in (omega arith, omega arith);
        invalidations = λ from to e p m. absurd (start-silent _ m);
        acknowledgements = λ from to e p c m. absurd (start-silent _ m);
      }

  -- the invariant holds of an object in the beginning, with nothing decided
  pub start-ownership : OwnershipInvariant o []
  start-ownership =
      record {
        viewed = start-viewed;
        declared = start.declared;
        one_stamp = λ p q e f s t same. absurd (start-unsaid p e s);
        proposals = λ p e s. absurd (start-unsaid p e s);
        acks = λ from to e p c m. absurd (start-silent _ m);
        to_arbiters = λ from to e p m. absurd (start-silent _ m);
        held = λ n p h. absurd (none_some p (sym (ap (λ (x : Entry). x.proposal) (start.entry n)) ∙ h));
        blocks = λ p e1 t e s ver ne first lesser. absurd (start-unsaid p e1 s);
        ack_order = λ n p q e f a b below. absurd (start-unsaid p e (inr (n, a)));
        gathers = λ n g h. absurd (none_gathered g (sym (start.gather n) ∙ h));
        links = λ v inside. absurd (omega arith);
        known = (0, ap (λ (x : Entry). x.stamp) (start.entry 0) ∙ sym (decided_first o.declared []).0);
        settled = λ n. rw (start.entry n) record {
          ver = omega arith;
          stamp = sym (decided_first o.declared []).0;
          place = sym (decided_first o.declared []).1;
        };
        told = λ t place m. absurd (start-silent _ m);
      }
    where
      none_some : (p : Proposal) → ◌≡◌ {A = Option Proposal} None (Some p) → ⊥
      none_some p h = cc

      none_gathered : (g : Gather) → ◌≡◌ {A = Option Gather} None (Some g) → ⊥
      none_gathered g h = cc
