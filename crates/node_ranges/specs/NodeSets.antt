-- Sets of nodes that fit: by their members, and after each operation on sets.
use Rattle.std.specs.Prelude.{ℕ, zero, suc, ◌≡◌, ◌<◌, ◌≤◌, ◌+◌, ◌==◌, not, true, nat_lt, List, [], ◌∷◌, Some, refl}
use Rattle.std.proofs.Common.{arith, sym, ◌∙◌, inl, inr}
use Rattle.std.proofs.lemmas.Bool.{and_parts, and_from, or_cases, lt-ltb, ltb-true, eqb-true, false≢true}
use Rattle.zeus_base.specs.Nodes.{has, with_node, without, meet, join, least}
use Rattle.zeus_base.specs.NodeLaws.{has-head, has-tail, has-with_node, has-without, has-meet, has-join, least-has}
use Rattle.zeus_base.specs.Tables.{below, numbers_from}
use Rattle.zeus_base.specs.declared.config.Limits.{Limits}
use Rattle.zeus_packet.specs.Fits.{nodes_fit}

-- a member of a set that fits is one of the nodes
pub nodes_fit-has : (limits : Limits) (ns : List ℕ) (m : ℕ) → nodes_fit limits ns ≡ true → has m ns ≡ true → m < limits.nodes
unfolding nodes_fit has
nodes_fit-has limits [] m h is = absurd (false≢true is)
nodes_fit-has limits (n ∷ ns) m h is =
    let both = and_parts (nat_lt n limits.nodes) (nodes_fit limits ns) h in
    elim (or_cases (m == n) (has m ns) is) [
      | inl same ↦ rw (eqb-true m n same) (ltb-true n limits.nodes both.0)
      | inr later ↦ nodes_fit-has limits ns m both.1 later
    ]

-- a set whose members are nodes fits
pub nodes_fit-members : (limits : Limits) (ns : List ℕ) → ((m : ℕ) → has m ns ≡ true → m < limits.nodes) → nodes_fit limits ns ≡ true
unfolding nodes_fit
nodes_fit-members limits [] h = refl
nodes_fit-members limits (n ∷ ns) h =
    and_from (nat_lt n limits.nodes) (nodes_fit limits ns) (lt-ltb n limits.nodes (h n (has-head n ns)))
    (nodes_fit-members limits ns (λ m is. h m (has-tail m n ns is)))

-- ---- members

-- a member of a set without a node is one of the set
pub has-without_in : (k n : ℕ) (ms : List ℕ) → has k (without n ms) ≡ true → has k ms ≡ true
has-without_in k n ms h = (and_parts (not (k == n)) (has k ms) (sym (has-without k n ms) ∙ h)).1

-- a member of both sets is one of the first
pub has-meet_left : (k : ℕ) (ms ns : List ℕ) → has k (meet ms ns) ≡ true → has k ms ≡ true
has-meet_left k ms ns h = (and_parts (has k ms) (has k ns) (sym (has-meet k ms ns) ∙ h)).0

-- and of the second
pub has-meet_right : (k : ℕ) (ms ns : List ℕ) → has k (meet ms ns) ≡ true → has k ns ≡ true
has-meet_right k ms ns h = (and_parts (has k ms) (has k ns) (sym (has-meet k ms ns) ∙ h)).1

-- ---- operations on sets

-- a set that fits with one more node
pub nodes_fit-with_node : (limits : Limits) (n : ℕ) (ms : List ℕ) → n < limits.nodes → nodes_fit limits ms ≡ true → nodes_fit limits (with_node n ms) ≡ true
nodes_fit-with_node limits n ms less h =
    nodes_fit-members limits (with_node n ms) (λ m is. elim (or_cases (m == n) (has m ms) (sym (has-with_node m n ms) ∙ is)) [
      | inl same ↦ rw (eqb-true m n same) less
      | inr other ↦ nodes_fit-has limits ms m h other
    ])

-- without one
pub nodes_fit-without : (limits : Limits) (n : ℕ) (ms : List ℕ) → nodes_fit limits ms ≡ true → nodes_fit limits (without n ms) ≡ true
nodes_fit-without limits n ms h = nodes_fit-members limits (without n ms) (λ m is. nodes_fit-has limits ms m h (has-without_in m n ms is))

-- what it shares with another set
pub nodes_fit-meet : (limits : Limits) (ms ns : List ℕ) → nodes_fit limits ms ≡ true → nodes_fit limits (meet ms ns) ≡ true
nodes_fit-meet limits ms ns h = nodes_fit-members limits (meet ms ns) (λ m is. nodes_fit-has limits ms m h (has-meet_left m ms ns is))

-- the other set may be the one that fits
pub nodes_fit-meet_right : (limits : Limits) (ms ns : List ℕ) → nodes_fit limits ns ≡ true → nodes_fit limits (meet ms ns) ≡ true
nodes_fit-meet_right limits ms ns h = nodes_fit-members limits (meet ms ns) (λ m is. nodes_fit-has limits ns m h (has-meet_right m ms ns is))

-- the members of two sets that fit
pub nodes_fit-join : (limits : Limits) (ms ns : List ℕ) → nodes_fit limits ms ≡ true → nodes_fit limits ns ≡ true → nodes_fit limits (join ms ns) ≡ true
nodes_fit-join limits ms ns h g =
    nodes_fit-members limits (join ms ns) (λ m is. elim (or_cases (has m ms) (has m ns) (sym (has-join m ms ns) ∙ is)) [
      | inl left ↦ nodes_fit-has limits ms m h left
      | inr right ↦ nodes_fit-has limits ns m g right
    ])

-- the least node of a set that fits is a node
pub nodes_fit-least : (limits : Limits) (ms : List ℕ) (n : ℕ) → nodes_fit limits ms ≡ true → least ms ≡ Some n → n < limits.nodes
nodes_fit-least limits ms n h is = nodes_fit-has limits ms n h (least-has n ms is)

-- the set with no node fits
pub nodes_fit-none : (limits : Limits) → nodes_fit limits [] ≡ true
unfolding nodes_fit
nodes_fit-none limits = refl

-- all nodes fit
nodes_fit-numbers_from : (limits : Limits) (i k : ℕ) → i + k ≤ limits.nodes → nodes_fit limits (numbers_from i k) ≡ true
unfolding nodes_fit numbers_from
nodes_fit-numbers_from limits i zero h = refl
nodes_fit-numbers_from limits i (suc k) h =
    and_from (nat_lt i limits.nodes) (nodes_fit limits (numbers_from (suc i) k)) (lt-ltb i limits.nodes (omega arith)) (nodes_fit-numbers_from limits (suc i) k (omega arith))

-- so does the set of all nodes below a number of them
pub nodes_fit-below : (limits : Limits) (k : ℕ) → k ≤ limits.nodes → nodes_fit limits (below k) ≡ true
nodes_fit-below limits k h = nodes_fit-numbers_from limits 0 k (omega arith)
