-- The source and the arbiters of a placement as the members become fewer, and what a proposal makes of its base.
use Rattle.std.specs.Prelude.{ℕ, ◌≡◌, ◌≢◌, ◌<◌, true, false, List, Option, Some, None, ◌⊎◌}
use Rattle.std.proofs.Common.{arith, refl, sym, ap, ◌∙◌, inl, inr}
use Rattle.std.proofs.lemmas.Bool.{cases_Bool, cases_eq, cond-true, cond-false}
use Rattle.std.proofs.lemmas.Bool.Decides.{nat_tests}
use Rattle.zeus_base.specs.Nodes.{has, with_node, meet, least, is_subset}
use Rattle.zeus_base.specs.NodeLaws.{IsRising, has-with_node, has-meet, has-with_same, has-with_other, has-without_same, has-without_other, is_subset-has, least-has, least-lowest, least-from_members, RisesFrom-meet, RisesFrom-with_node, RisesFrom-without}
use Rattle.zeus_packet.specs.Place.{source, with_optional, arbiters, changed_place, new_place}
use Rattle.zeus_packet.specs.declared.place.Place.{Place}
use Rattle.zeus_packet.specs.declared.place.Proposal.{Proposal}
use Rattle.zeus_packet.specs.declared.place.Want.{Want}
use Rattle.zeus_packet.specs.declared.place.Want.TheVariants.{Own, Read, Leave}
use Rattle.ownership_safety.specs.Moves.{MayWant}
use Rattle.ownership_safety.specs.OwnershipInvariant.{IsPlaced}

-- ---- a set with an optional node

with_optional-kept : (o : Option ℕ) (ns : List ℕ) (k : ℕ) → has k ns ≡ true → has k (with_optional o ns) ≡ true
unfolding with_optional
with_optional-kept None ns k h = h
with_optional-kept (Some n) ns k h = grind (arith, nat_tests, has-with_node k n ns)

with_optional-node : (n : ℕ) (ns : List ℕ) → has n (with_optional (Some n) ns) ≡ true
unfolding with_optional
with_optional-node n ns = has-with_same n ns

with_optional-either : (o : Option ℕ) (ns : List ℕ) (k : ℕ) → has k (with_optional o ns) ≡ true → (has k ns ≡ true) ⊎ (o ≡ Some k)
unfolding with_optional
with_optional-either None ns k h = inl h
with_optional-either (Some n) ns k h =
    elim (cases_eq k n) [
      | inl same ↦ inr (ap (λ (x : ℕ). Some x) (sym same))
      | inr other ↦ inl (sym (has-with_other k n ns other) ∙ h)
    ]

-- ---- what a wish makes of a placement

changed-owner : (want : Want) (requester : ℕ) (place : Place) → ((changed_place want requester place).owner ≡ requester) ⊎ ((changed_place want requester place).owner ≡ place.owner)
unfolding changed_place
changed-owner Own requester place = inl refl
changed-owner Read requester place = inr refl
changed-owner Leave requester place = inr refl

changed-other : (want : Want) (requester : ℕ) (place : Place) (n : ℕ) → n ≢ requester → has n (changed_place want requester place).replicas ≡ has n place.replicas
unfolding changed_place
changed-other Own requester place n ne = has-with_other n requester place.replicas ne
changed-other Read requester place n ne = has-with_other n requester place.replicas ne
changed-other Leave requester place n ne = has-without_other n requester place.replicas ne

changed-comes : (want : Want) (requester : ℕ) (place : Place) → want ≢ Leave → has requester (changed_place want requester place).replicas ≡ true
unfolding changed_place
changed-comes Own requester place ne = has-with_same requester place.replicas
changed-comes Read requester place ne = has-with_same requester place.replicas
changed-comes Leave requester place ne = absurd (ne refl)

changed-leaves : (want : Want) (requester : ℕ) (place : Place) → want ≡ Leave → has requester (changed_place want requester place).replicas ≡ false
unfolding changed_place
changed-leaves Own requester place is = absurd cc
changed-leaves Read requester place is = absurd cc
changed-leaves Leave requester place is = has-without_same requester place.replicas

with_node-has : (k n : ℕ) (ns : List ℕ) → has k ns ≡ true → has k (with_node n ns) ≡ true
with_node-has k n ns h = grind (arith, nat_tests, has-with_node k n ns)

changed-placed : (want : Want) (requester : ℕ) (place : Place) → IsPlaced place → MayWant want requester place → IsPlaced (changed_place want requester place)
unfolding changed_place
changed-placed Own requester place placed may =
    record { owner = has-with_same requester place.replicas; rising = RisesFrom-with_node 0 requester place.replicas (omega arith) placed.rising }
changed-placed Read requester place placed may =
    record {
      owner = with_node-has place.owner requester place.replicas placed.owner;
      rising = RisesFrom-with_node 0 requester place.replicas (omega arith) placed.rising;
    }
changed-placed Leave requester place placed may =
    record {
      owner = has-without_other place.owner requester place.replicas (may refl).1 ∙ placed.owner;
      rising = RisesFrom-without 0 requester place.replicas placed.rising;
    }

-- ---- the source

-- an owner that is a member is the source
pub source-owner : (place : Place) (members : List ℕ) → has place.owner members ≡ true → source place members ≡ Some place.owner
unfolding source
source-owner place members h = cond-true _ _ _ h

-- where the owner is no member, the source is the least member replica
pub source-least : (place : Place) (members : List ℕ) → has place.owner members ≡ false → source place members ≡ least (meet place.replicas members)
unfolding source
source-least place members h = cond-false _ _ _ h

least-meet_stays : (replicas members fewer : List ℕ) (n : ℕ) → IsRising replicas → is_subset fewer members ≡ true → has n fewer ≡ true → least (meet replicas members) ≡ Some n → least (meet replicas fewer) ≡ Some n
least-meet_stays replicas members fewer n rising subset member is =
    let both : has n (meet replicas members) ≡ true = least-has n (meet replicas members) is in
    let there : has n (meet replicas fewer) ≡ true = grind (arith, has-meet n replicas members, has-meet n replicas fewer) in
    let lowest : (k : ℕ) → k < n → has k (meet replicas fewer) ≡ false = λ k low. none_lower k low in
    least-from_members 0 n (meet replicas fewer) (RisesFrom-meet 0 replicas fewer rising) there lowest
  where
    none_lower : (k : ℕ) → k < n → has k (meet replicas fewer) ≡ false
    none_lower k low =
        grind (
          arith,
          has-meet k replicas members,
          has-meet k replicas fewer,
          is_subset-has k fewer members subset,
          least-lowest 0 n k (meet replicas members) (RisesFrom-meet 0 replicas members rising) is,
        )

-- a source stays the source as long as it is a member, however few the members become
pub source-stays : (place : Place) (members fewer : List ℕ) (n : ℕ) → IsRising place.replicas → is_subset fewer members ≡ true → has n fewer ≡ true → source place members ≡ Some n → source place fewer ≡ Some n
source-stays place members fewer n rising subset member is =
    elim (cases_Bool (has place.owner members)) [
      | inl owner ↦
          let all : Some place.owner ≡ Some n = sym (source-owner place members owner) ∙ is in
          let same : place.owner ≡ n = cc in
          source-owner place fewer (rw same member) ∙ ap (λ (x : ℕ). Some x) same
      | inr none ↦
          let first : least (meet place.replicas members) ≡ Some n = sym (source-least place members none) ∙ is in
          let out : has place.owner fewer ≡ false = grind (arith, is_subset-has place.owner fewer members subset) in
          let stays : least (meet place.replicas fewer) ≡ Some n = least-meet_stays place.replicas members fewer n rising subset member first in
          source-least place fewer out ∙ stays
    ]

-- ---- the arbiters

-- a directory node that is a member is an arbiter
pub arbiters-directory : (place : Place) (members directory : List ℕ) (n : ℕ) → has n directory ≡ true → has n members ≡ true → has n (arbiters place members directory) ≡ true
unfolding arbiters
arbiters-directory place members directory n d m =
    with_optional-kept (source place members) (meet directory members) n (grind (arith, has-meet n directory members))

-- the source is an arbiter
pub arbiters-source : (place : Place) (members directory : List ℕ) (n : ℕ) → source place members ≡ Some n → has n (arbiters place members directory) ≡ true
unfolding arbiters
arbiters-source place members directory n is =
    rw is (with_optional-node n (meet directory members))

-- an arbiter is a member directory node or the source
pub arbiters-either : (place : Place) (members directory : List ℕ) (n : ℕ) → has n (arbiters place members directory) ≡ true → ((has n directory ≡ true) × (has n members ≡ true)) ⊎ (source place members ≡ Some n)
unfolding arbiters
arbiters-either place members directory n h =
    elim (with_optional-either (source place members) (meet directory members) n h) [
      | inl both ↦ inl (grind (arith, has-meet n directory members), grind (arith, has-meet n directory members))
      | inr is ↦ inr is
    ]

-- an arbiter stays an arbiter as long as it is a member, however few the members become
pub arbiters-stay : (place : Place) (members fewer directory : List ℕ) (n : ℕ) → IsRising place.replicas → is_subset fewer members ≡ true → has n fewer ≡ true → has n (arbiters place members directory) ≡ true → has n (arbiters place fewer directory) ≡ true
arbiters-stay place members fewer directory n rising subset member h =
    elim (arbiters-either place members directory n h) [
      | inl both ↦ arbiters-directory place fewer directory n both.0 member
      | inr is ↦ arbiters-source place fewer directory n (source-stays place members fewer n rising subset member is)
    ]

-- ---- what a proposal makes of its base

-- the new owner is the requester or the owner before
pub new_place-owner : (p : Proposal) → ((new_place p).owner ≡ p.requester) ⊎ ((new_place p).owner ≡ p.base_place.owner)
unfolding new_place
new_place-owner p = changed-owner p.want p.requester p.base_place

-- any other node is a replica after it exactly where it was one before
pub new_place-other : (p : Proposal) (n : ℕ) → n ≢ p.requester → has n (new_place p).replicas ≡ has n p.base_place.replicas
unfolding new_place
new_place-other p n ne = changed-other p.want p.requester p.base_place n ne

-- the requester is a replica after it unless it leaves
pub new_place-comes : (p : Proposal) → p.want ≢ Leave → has p.requester (new_place p).replicas ≡ true
unfolding new_place
new_place-comes p ne = changed-comes p.want p.requester p.base_place ne

-- if the wish is to leave, then the requester is no replica of the new placement
pub new_place-leaves : (p : Proposal) → p.want ≡ Leave → has p.requester (new_place p).replicas ≡ false
unfolding new_place
new_place-leaves p is = changed-leaves p.want p.requester p.base_place is

-- if the base placement's owner is a replica and the wish is allowed, then the new placement's owner is a replica
pub new_place-placed : (p : Proposal) → IsPlaced p.base_place → MayWant p.want p.requester p.base_place → IsPlaced (new_place p)
unfolding new_place
new_place-placed p placed may = changed-placed p.want p.requester p.base_place placed may
