-- What it says that no cause stands against: each test of a list of causes.
use Rattle.std.specs.Prelude.{ℕ, suc, ◌≡◌, ◌≢◌, ◌≤◌, Bool, true, false, ◌||◌, not, ◌==◌, List, [], ◌∷◌, length, Option, Some, None, is_none, is_some, ◌⊎◌, if◌then◌else◌}
use Rattle.std.proofs.Common.{arith, refl, inl, inr}
use Rattle.std.proofs.lemmas.Bool.{and_cases, or_parts, not-false, eqb-false}
use Rattle.zeus_base.specs.Nodes.{has, with_node, without, meet}
use Rattle.zeus_packet.specs.Place.{source, with_optional, arbiters}
use Rattle.zeus_packet.specs.declared.place.Place.{Place}
use Rattle.zeus_packet.specs.declared.place.Proposal.{Proposal}
use Rattle.zeus_packet.specs.declared.place.Want.{Want}
use Rattle.zeus_packet.specs.declared.place.Want.TheVariants.{Own, Read, Leave}
use Rattle.zeus_model.specs.Tables.{or_else, where_true}
use Rattle.zeus_model.specs.State.{Node, entry}
use Rattle.zeus_model.specs.Ownership.{is_source, is_held, kept_cause, unready_cause, source_cause, proposed_cause, want_cause, drive_cause, request_cause, greater_cause, accept_cause, hold_cause}

-- ---- options

-- if there is no cause of either, then there is none of the one and none of the other
pub or_else-none : {A : Type 0} (a b : Option A) → or_else a b ≡ None → (a ≡ None) × (b ≡ None)
unfolding or_else
or_else-none None b h = (refl, h)
or_else-none (Some a) b h = absurd cc

-- if a test gives no cause, then it is false
pub where_true-none : {A : Type 0} (test : Bool) (a : A) → where_true test a ≡ None → test ≡ false
unfolding where_true
where_true-none true a h = absurd cc
where_true-none false a h = refl

-- if it is not so that there is none, then there is some
pub is_none-false : {A : Type 0} (o : Option A) → is_none o ≡ false → is_some o ≡ true
is_none-false None h = absurd cc
is_none-false (Some a) h = refl

-- a cause that counts only where a test holds
pub cause_where : {A : Type 0} (test : Bool) (cause : Option A) → (if test then cause else None) ≡ None → test ≡ true → cause ≡ None
cause_where true cause h e = h
cause_where false cause h e = absurd cc

-- ---- how many letters a proposal takes

with_node-length : (n : ℕ) (ms : List ℕ) → length (with_node n ms) ≤ suc (length ms)
unfolding with_node
with_node-length n [] = omega arith
with_node-length n (m ∷ ms) = grind (arith, with_node-length n ms)

without-length : (n : ℕ) (ms : List ℕ) → length (without n ms) ≤ length ms
unfolding without
without-length n [] = omega arith
without-length n (m ∷ ms) = grind (arith, without-length n ms)

meet-length : (ms ns : List ℕ) → length (meet ms ns) ≤ length ms
unfolding meet
meet-length [] ns = omega arith
meet-length (m ∷ ms) ns = grind (arith, meet-length ms ns)

with_optional-length : (o : Option ℕ) (ms : List ℕ) → length (with_optional o ms) ≤ suc (length ms)
unfolding with_optional
with_optional-length None ms = omega arith
with_optional-length (Some n) ms = with_node-length n ms

-- the arbiters without a node are at most one more than the directory's nodes
pub arbiters-length : (me : ℕ) (place : Place) (members directory : List ℕ) → length (without me (arbiters place members directory)) ≤ suc (length directory)
unfolding arbiters
arbiters-length me place members directory =
    omega (arith, without-length me (with_optional (source place members) (meet directory members)), with_optional-length (source place members) (meet directory members), meet-length directory members)

-- ---- no cause against driving a request

-- a directory node may drive a request: no proposal is held, a source is there, the wish is allowed, and a source is ready
pub record MayRequest (m : Node) (x requester : ℕ) (want : Want) : Type 0 where
  pub directory : has m.me m.directory ≡ true
  pub free : (entry m x).proposal ≡ None
  pub sourced : is_some (source (entry m x).place m.members) ≡ true
  pub may_want : want ≡ Leave → (has requester (entry m x).place.replicas ≡ true) × ((entry m x).place.owner ≢ requester)
  pub ready : is_source m (entry m x).place ≡ true → unready_cause m x ≡ None

proposed_cause-none : (p : Option Proposal) → proposed_cause p ≡ None → p ≡ None
unfolding proposed_cause
proposed_cause-none None h = refl
proposed_cause-none (Some p) h = absurd cc

want_cause-none : (want : Want) (requester : ℕ) (place : Place) → want_cause want requester place ≡ None → want ≡ Leave → (has requester place.replicas ≡ true) × (place.owner ≢ requester)
unfolding want_cause
want_cause-none Own requester place h is = absurd cc
want_cause-none Read requester place h is = absurd cc
want_cause-none Leave requester place h is =
    let parts = or_parts (place.owner == requester) (not (has requester place.replicas)) (where_true-none ((place.owner == requester) || not (has requester place.replicas)) _ h) in
    (not-false (has requester place.replicas) parts.1, eqb-false place.owner requester parts.0)

-- if there is no cause against a request, then the node may drive it
pub request_cause-none : (m : Node) (x requester : ℕ) (want : Want) → request_cause m x requester want ≡ None → MayRequest m x requester want
unfolding request_cause drive_cause source_cause
request_cause-none m x requester want h =
    let all = or_else-none _ _ h in
    let first = or_else-none _ _ all.0 in
    let second = or_else-none _ _ first.1 in
    let third = or_else-none _ _ second.1 in
    let fourth = or_else-none _ _ third.1 in
    record {
      directory = not-false (has m.me m.directory) (where_true-none _ _ first.0);
      free = proposed_cause-none (entry m x).proposal second.0;
      sourced = is_none-false (source (entry m x).place m.members) (where_true-none _ _ fourth.0);
      may_want = want_cause-none want requester (entry m x).place third.0;
      ready = λ is. (or_else-none _ _ (cause_where _ (or_else (unready_cause m x) (kept_cause m x requester)) all.1 is)).0;
    }

-- ---- no cause against holding a proposal

-- a node may hold a proposal: it is an arbiter, holds none that is greater, and is ready if it is the source
pub record MayHold (m : Node) (x : ℕ) (p : Proposal) : Type 0 where
  pub arbiter : (has m.me m.directory ≡ true) ⊎ (is_source m p.base_place ≡ true)
  pub greatest : greater_cause p.stamp (entry m x).proposal ≡ None
  pub ready : is_source m p.base_place ≡ true → unready_cause m x ≡ None

-- if there is no cause against a proposal, then the node may hold it
pub hold_cause-none : (m : Node) (x : ℕ) (p : Proposal) → hold_cause m x p ≡ None → MayHold m x p
unfolding hold_cause accept_cause
hold_cause-none m x p h =
    let first = or_else-none _ _ h in
    let second = or_else-none _ _ first.1 in
    record {
      arbiter = elim (and_cases (not (has m.me m.directory)) (not (is_source m p.base_place)) (where_true-none _ _ first.0)) [
        | inl yes_directory ↦ inl (not-false (has m.me m.directory) yes_directory)
        | inr yes_source ↦ inr (not-false (is_source m p.base_place) yes_source)
      ];
      greatest = second.0;
      ready = λ is. (or_else-none _ _ (cause_where (is_source m p.base_place) (or_else (unready_cause m x) (if is_held p (entry m x).proposal then None else kept_cause m x p.requester)) second.1 is)).0;
    }
