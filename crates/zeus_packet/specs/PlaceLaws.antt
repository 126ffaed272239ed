-- Laws of the equality of placements, wishes and proposals: each test is true exactly where the two are one.
use Rattle.std.specs.Prelude.{Bool, true, ◌≡◌, ◌↔◌, refl}
use Rattle.std.specs.Cmp.{IsEquivalence}
use Rattle.std.proofs.Common.{arith, ap, sym}
use Rattle.std.proofs.lemmas.Bool.{eqb-true, eq-eqb, false≢true}
use Rattle.std.proofs.lemmas.Bool.Decides.{same_from_decides}
use Rattle.zeus_base.specs.OrderLaws.{same_stamp-true, same_stamp-refl}
use Rattle.zeus_base.specs.ValueLaws.{same_nodes-true, same_nodes-from}
use Rattle.zeus_packet.specs.Place.{same_place, same_want, same_proposal}
use Rattle.zeus_packet.specs.declared.place.Place.{Place}
use Rattle.zeus_packet.specs.declared.place.Proposal.{Proposal}
use Rattle.zeus_packet.specs.declared.place.Want.{Want}
use Rattle.zeus_packet.specs.declared.place.Want.TheVariants.{Own, Read, Leave}

-- a test that is true exactly where two values are one is an equivalence
pub equivalence_by : {A : Type 0} (same : A → A → Bool) → ((a b : A) → (same a b ≡ true) ↔ (a ≡ b)) → IsEquivalence same
equivalence_by same decides =
    record {
      refl = λ x. (decides x x).1 refl;
      symm = λ x y. same_from_decides (same x y) (same y x) (decides x y) (λ h. sym ((decides y x).0 h), λ e. (decides y x).1 (sym e));
      congr = λ x y z h. ap (λ v. same v z) ((decides x y).0 h);
    }

-- ---- wishes

-- if the test says that two wishes are one, then they are equal
pub same_want-true : (a b : Want) → same_want a b ≡ true → a ≡ b
unfolding same_want
same_want-true Own Own h = refl
same_want-true Own Read h = absurd (false≢true h)
same_want-true Own Leave h = absurd (false≢true h)
same_want-true Read Own h = absurd (false≢true h)
same_want-true Read Read h = refl
same_want-true Read Leave h = absurd (false≢true h)
same_want-true Leave Own h = absurd (false≢true h)
same_want-true Leave Read h = absurd (false≢true h)
same_want-true Leave Leave h = refl

-- the test says that a wish is the same as itself
pub same_want-refl : (a : Want) → same_want a a ≡ true
unfolding same_want
same_want-refl Own = refl
same_want-refl Read = refl
same_want-refl Leave = refl

-- if two wishes are equal, then the test says that they are one
pub same_want-from : (a b : Want) → a ≡ b → same_want a b ≡ true
same_want-from a b is = rw is (same_want-refl b)

-- the test is true exactly if the two wishes are equal
pub same_want-decides : (a b : Want) → (same_want a b ≡ true) ↔ (a ≡ b)
same_want-decides a b = (same_want-true a b, same_want-from a b)

-- the test of wishes is an equivalence
pub same_want-equivalence : IsEquivalence same_want
same_want-equivalence = equivalence_by same_want same_want-decides

-- ---- placements

place_by : (a b : Place) → a.owner ≡ b.owner → a.replicas ≡ b.replicas → a ≡ b
place_by a b h g = λ i. record { owner = h i; replicas = g i }

-- if the test says that two placements are one, then they are equal
pub same_place-true : (a b : Place) → same_place a b ≡ true → a ≡ b
unfolding same_place
same_place-true a b h =
    place_by a b (eqb-true a.owner b.owner (grind arith)) (same_nodes-true a.replicas b.replicas (grind arith))

-- the test says that a placement is the same as itself
pub same_place-refl : (a : Place) → same_place a a ≡ true
unfolding same_place
same_place-refl a = rw (eq-eqb a.owner a.owner refl, same_nodes-from a.replicas a.replicas refl) refl

-- if two placements are equal, then the test says that they are one
pub same_place-from : (a b : Place) → a ≡ b → same_place a b ≡ true
same_place-from a b is = rw is (same_place-refl b)

-- the test is true exactly if the two placements are equal
pub same_place-decides : (a b : Place) → (same_place a b ≡ true) ↔ (a ≡ b)
same_place-decides a b = (same_place-true a b, same_place-from a b)

-- the test of placements is an equivalence
pub same_place-equivalence : IsEquivalence same_place
same_place-equivalence = equivalence_by same_place same_place-decides

-- ---- proposals

proposal_by : (p q : Proposal) → p.stamp ≡ q.stamp → p.requester ≡ q.requester → p.base ≡ q.base → p.base_place ≡ q.base_place → p.want ≡ q.want → p ≡ q
proposal_by p q s r b l w = λ i. record { stamp = s i; requester = r i; base = b i; base_place = l i; want = w i }

-- if the test says that two proposals are one, then they are equal
pub same_proposal-true : (p q : Proposal) → same_proposal p q ≡ true → p ≡ q
unfolding same_proposal
same_proposal-true p q h =
    proposal_by p q (same_stamp-true p.stamp q.stamp (grind arith)) (eqb-true p.requester q.requester (grind arith)) (same_stamp-true p.base q.base (grind arith)) (same_place-true p.base_place q.base_place (grind arith)) (same_want-true p.want q.want (grind arith))

-- the test says that a proposal is the same as itself
pub same_proposal-refl : (p : Proposal) → same_proposal p p ≡ true
unfolding same_proposal
same_proposal-refl p =
    rw (same_stamp-refl p.stamp, eq-eqb p.requester p.requester refl, same_stamp-refl p.base, same_place-refl p.base_place, same_want-refl p.want) refl

-- if two proposals are equal, then the test says that they are one
pub same_proposal-from : (p q : Proposal) → p ≡ q → same_proposal p q ≡ true
same_proposal-from p q is = rw is (same_proposal-refl q)

-- the test is true exactly if the two proposals are equal
pub same_proposal-decides : (p q : Proposal) → (same_proposal p q ≡ true) ↔ (p ≡ q)
same_proposal-decides p q = (same_proposal-true p q, same_proposal-from p q)

-- the test of proposals is an equivalence
pub same_proposal-equivalence : IsEquivalence same_proposal
same_proposal-equivalence = equivalence_by same_proposal same_proposal-decides
