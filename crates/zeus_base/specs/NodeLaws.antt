-- Laws of sets of nodes: what each operation has as members, and that a rising list is known by its members.
use Rattle.std.specs.Prelude.{ℕ, zero, suc, true, false, not, ◌&&◌, ◌||◌, ◌==◌, ◌≡◌, ◌≢◌, ◌+◌, ◌<◌, ◌≤◌, List, [], ◌∷◌, length, All, Some, None, refl}
use Rattle.std.proofs.Common.{add-one, arith, sym, ap, ◌∙◌, inl, inr}
use Rattle.std.proofs.lemmas.Bool.{cases_order, or_cases, eqb-true, false≢true, lt-ltb, le-ltb, eq-eqb, ne_eqb, cond_both}
use Rattle.std.proofs.lemmas.Bool.Decides.{nat_tests}
use Rattle.std.proofs.lemmas.List.Elements.{All-head, All-tail, All-nil, All-cons}
use Rattle.zeus_base.specs.Nodes.{has, with_node, without, meet, join, is_subset, least}
use Rattle.zeus_base.specs.Tables.{below, numbers_from}

-- the numbers rise from one to the next, and none is below the bound
unfoldable pub RisesFrom : ℕ → List ℕ → Type 0
RisesFrom n [] = Unit {0}
RisesFrom n (m ∷ ms) = (n ≤ m) × RisesFrom (suc m) ms

-- the numbers rise from one to the next
abbrev pub IsRising : List ℕ → Type 0
IsRising ms = RisesFrom 0 ms

-- the head of a list is a member
pub has-head : (n : ℕ) (ns : List ℕ) → has n (n ∷ ns) ≡ true
unfolding has
has-head n ns = grind (arith, nat_tests)

-- a member of the tail is a member of the whole list
pub has-tail : (k n : ℕ) (ns : List ℕ) → has k ns ≡ true → has k (n ∷ ns) ≡ true
unfolding has
has-tail k n ns h = grind arith

-- a member of a set with one node more is that node, or a member of the set
pub has-with_node : (k n : ℕ) (ms : List ℕ) → has k (with_node n ms) ≡ ((k == n) || has k ms)
unfolding has with_node
has-with_node k n [] = grind arith
has-with_node k n (m ∷ ms) = grind (arith, nat_tests, has-with_node k n ms)

-- a member of a set without a node is a member of the set, and is not that node
pub has-without : (k n : ℕ) (ms : List ℕ) → has k (without n ms) ≡ (not (k == n) && has k ms)
unfolding has without
has-without k n [] = grind arith
has-without k n (m ∷ ms) = grind (arith, nat_tests, has-without k n ms)

-- a member of an intersection is a member of both sets
pub has-meet : (k : ℕ) (ms ns : List ℕ) → has k (meet ms ns) ≡ (has k ms && has k ns)
unfolding has meet
has-meet k [] ns = refl
has-meet k (m ∷ ms) ns = grind (arith, nat_tests, has-meet k ms ns)

-- a member of a union is a member of one of the two sets
pub has-join : (k : ℕ) (ms ns : List ℕ) → has k (join ms ns) ≡ (has k ms || has k ns)
unfolding has join
has-join k [] ns = refl
has-join k (m ∷ ms) ns = grind (arith, nat_tests, has-join k ms ns, has-with_node k m (join ms ns))

-- if a list rises from a bound, then it rises from each lower bound
pub RisesFrom-lower : (b c : ℕ) (ms : List ℕ) → b ≤ c → RisesFrom c ms → RisesFrom b ms
unfolding RisesFrom
RisesFrom-lower b c [] h r = tt
RisesFrom-lower b c (m ∷ ms) h r = (omega arith, r.1)

-- if a list rises from a bound, then no number below the bound is a member
pub has-below : (k b : ℕ) (ms : List ℕ) → RisesFrom b ms → k < b → has k ms ≡ false
unfolding has RisesFrom
has-below k b [] r h = refl
has-below k b (m ∷ ms) r h =
    let below : k < suc m = omega (arith, r.0) in
    grind (arith, nat_tests, r.0, has-below k (suc m) ms r.1 below)

-- if a list rises from a bound and a number is not below it, then the list with this number rises from it
pub RisesFrom-with_node : (b n : ℕ) (ms : List ℕ) → b ≤ n → RisesFrom b ms → RisesFrom b (with_node n ms)
unfolding RisesFrom with_node
RisesFrom-with_node b n [] h r = (h, tt)
RisesFrom-with_node b n (m ∷ ms) h r =
    elim (cases_order n m) [
      | inl same ↦ rw (same, le-ltb m m (omega arith), eq-eqb m m refl) r
      | inr other ↦ elim other [
        | inl less ↦ rw (lt-ltb n m less) (h, (less, r.1))
        | inr more ↦ rw (le-ltb n m (omega arith), ne_eqb n m (λ e. omega arith)) (r.0, RisesFrom-with_node (suc m) n ms more r.1)
      ]
    ]

-- if a list rises from a bound, then so does the list without one of its numbers
pub RisesFrom-without : (b n : ℕ) (ms : List ℕ) → RisesFrom b ms → RisesFrom b (without n ms)
unfolding RisesFrom without
RisesFrom-without b n [] r = tt
RisesFrom-without b n (m ∷ ms) r =
    let kept = RisesFrom-without (suc m) n ms r.1 in
    cond_both (n == m) (without n ms) (m ∷ without n ms) (RisesFrom b) (λ _. RisesFrom-lower b (suc m) (without n ms) (omega (arith, r.0)) kept) (λ _. (r.0, kept))

-- if the left list rises from a bound, then so does the intersection
pub RisesFrom-meet : (b : ℕ) (ms ns : List ℕ) → RisesFrom b ms → RisesFrom b (meet ms ns)
unfolding RisesFrom meet
RisesFrom-meet b [] ns r = tt
RisesFrom-meet b (m ∷ ms) ns r =
    let kept = RisesFrom-meet (suc m) ms ns r.1 in
    cond_both (has m ns) (m ∷ meet ms ns) (meet ms ns) (RisesFrom b) (λ _. (r.0, kept)) (λ _. RisesFrom-lower b (suc m) (meet ms ns) (omega (arith, r.0)) kept)

-- if both lists rise from a bound, then so does the union
pub RisesFrom-join : (b : ℕ) (ms ns : List ℕ) → RisesFrom b ms → RisesFrom b ns → RisesFrom b (join ms ns)
unfolding RisesFrom join
RisesFrom-join b [] ns r s = s
RisesFrom-join b (m ∷ ms) ns r s =
    let low = RisesFrom-lower b (suc m) ms (omega (arith, r.0)) r.1 in
    RisesFrom-with_node b m (join ms ns) r.0 (RisesFrom-join b ms ns low s)

-- two rising lists with the same members are one
same_head : (m n : ℕ) (ms ns : List ℕ) → RisesFrom (suc m) ms → RisesFrom (suc n) ns → has m (n ∷ ns) ≡ true → has n (m ∷ ms) ≡ true → m ≡ n
unfolding has
same_head m n ms ns r s h g =
    let none = has-below m (suc n) ns s in
    let nothing = has-below n (suc m) ms r in
    grind (arith, nat_tests)

-- below the first and among the rest alike, two lists whose heads are one have the same members in their tails
same_tail : (m k : ℕ) (ms ns : List ℕ) → RisesFrom (suc m) ms → RisesFrom (suc m) ns → has k (m ∷ ms) ≡ has k (m ∷ ns) → has k ms ≡ has k ns
unfolding has
same_tail m k ms ns r s h =
    let none : k < suc m → has k ms ≡ false = has-below k (suc m) ms r in
    let nothing : k < suc m → has k ns ≡ false = has-below k (suc m) ns s in
    grind (arith, nat_tests)

-- if two rising lists have the same members, then they are one list
pub same_from_members : (b c : ℕ) (ms ns : List ℕ) → RisesFrom b ms → RisesFrom c ns → ((k : ℕ) → has k ms ≡ has k ns) → ms ≡ ns
unfolding RisesFrom
same_from_members b c [] [] r s h = refl
same_from_members b c [] (n ∷ ns) r s h =
    let none : has n [] ≡ false = unfold has in refl in
    let some : has n (n ∷ ns) ≡ true = has-head n ns in
    let same : has n [] ≡ has n (n ∷ ns) = h n in
    absurd cc
same_from_members b c (m ∷ ms) [] r s h =
    let none : has m [] ≡ false = unfold has in refl in
    let some : has m (m ∷ ms) ≡ true = has-head m ms in
    let same : has m (m ∷ ms) ≡ has m [] = h m in
    absurd cc
same_from_members b c (m ∷ ms) (n ∷ ns) r s h =
    let one : m ≡ n = same_head m n ms ns r.1 s.1 (sym (h m) ∙ has-head m ms) (h n ∙ has-head n ns) in
    let rises : RisesFrom (suc m) ns = rw one s.1 in
    let members : (k : ℕ) → has k (m ∷ ms) ≡ has k (m ∷ ns) = λ k. rw (ap (λ (x : ℕ). has k (x ∷ ns)) one) (h k) in
    rw (← one) (ap (λ (xs : List ℕ). m ∷ xs) (same_from_members (suc m) (suc m) ms ns r.1 rises (λ k. same_tail m k ms ns r.1 rises (members k))))

-- ---- a node that is put in or taken out

-- a set with a node more has that node
pub has-with_same : (n : ℕ) (ms : List ℕ) → has n (with_node n ms) ≡ true
has-with_same n ms = grind (arith, nat_tests, has-with_node n n ms)

-- a set with a node more has each other node exactly if the set had it
pub has-with_other : (k n : ℕ) (ms : List ℕ) → k ≢ n → has k (with_node n ms) ≡ has k ms
has-with_other k n ms h = grind (arith, nat_tests, has-with_node k n ms)

-- a set without a node does not have that node
pub has-without_same : (n : ℕ) (ms : List ℕ) → has n (without n ms) ≡ false
has-without_same n ms = grind (arith, nat_tests, has-without n n ms)

-- a set without a node has each other node exactly if the set had it
pub has-without_other : (k n : ℕ) (ms : List ℕ) → k ≢ n → has k (without n ms) ≡ has k ms
has-without_other k n ms h = grind (arith, nat_tests, has-without k n ms)

-- to put in a member, or take out what is none, changes nothing
pub with_node-member : (b n : ℕ) (ms : List ℕ) → RisesFrom b ms → has n ms ≡ true → with_node n ms ≡ ms
with_node-member b n ms r h =
    let low : RisesFrom 0 ms = RisesFrom-lower 0 b ms (omega arith) r in
    same_from_members 0 0 (with_node n ms) ms (RisesFrom-with_node 0 n ms (omega arith) low) low (λ k. grind (arith, nat_tests, has-with_node k n ms))

-- if a node is no member, then the set without it is the same set
pub without-stranger : (n : ℕ) (ms : List ℕ) → has n ms ≡ false → without n ms ≡ ms
unfolding has without
without-stranger n [] h = refl
without-stranger n (m ∷ ms) h = grind (arith, nat_tests, without-stranger n ms)

-- ---- subsets

-- if one set lies in another, then each member of the one is a member of the other
pub is_subset-has : (k : ℕ) (ms ns : List ℕ) → is_subset ms ns ≡ true → has k ms ≡ true → has k ns ≡ true
unfolding has is_subset
is_subset-has k [] ns s h = absurd cc
is_subset-has k (m ∷ ms) ns s h = grind (arith, nat_tests, is_subset-has k ms ns)

-- if each member of one set is a member of another, then the one lies in the other
pub is_subset-from_members : (ms ns : List ℕ) → ((k : ℕ) → has k ms ≡ true → has k ns ≡ true) → is_subset ms ns ≡ true
unfolding is_subset
is_subset-from_members [] ns h = refl
is_subset-from_members (m ∷ ms) ns h =
    let first : has m ns ≡ true = h m (has-head m ms) in
    let rest : is_subset ms ns ≡ true = is_subset-from_members ms ns (λ k g. h k (has-tail k m ms g)) in
    grind arith

-- a set lies in itself
pub is_subset-refl : (ms : List ℕ) → is_subset ms ms ≡ true
is_subset-refl ms = is_subset-from_members ms ms (λ k h. h)

-- if a set lies in a second and the second in a third, then the set lies in the third
pub is_subset-trans : (ls ms ns : List ℕ) → is_subset ls ms ≡ true → is_subset ms ns ≡ true → is_subset ls ns ≡ true
is_subset-trans ls ms ns s t =
    is_subset-from_members ls ns (λ k h. is_subset-has k ms ns t (is_subset-has k ls ms s h))

-- an intersection lies in its left set
pub is_subset-meet_left : (ms ns : List ℕ) → is_subset (meet ms ns) ms ≡ true
is_subset-meet_left ms ns =
    is_subset-from_members (meet ms ns) ms (λ k h. grind (arith, has-meet k ms ns))

-- an intersection lies in its right set
pub is_subset-meet_right : (ms ns : List ℕ) → is_subset (meet ms ns) ns ≡ true
is_subset-meet_right ms ns =
    is_subset-from_members (meet ms ns) ns (λ k h. grind (arith, has-meet k ms ns))

-- if a set lies in two sets, then it lies in their intersection
pub is_subset-meet : (ls ms ns : List ℕ) → is_subset ls ms ≡ true → is_subset ls ns ≡ true → is_subset ls (meet ms ns) ≡ true
is_subset-meet ls ms ns s t =
    is_subset-from_members ls (meet ms ns) (λ k h. grind (arith, has-meet k ms ns, is_subset-has k ls ms s h, is_subset-has k ls ns t h))

-- the left set lies in the union
pub is_subset-join_left : (ms ns : List ℕ) → is_subset ms (join ms ns) ≡ true
is_subset-join_left ms ns =
    is_subset-from_members ms (join ms ns) (λ k h. grind (arith, has-join k ms ns))

-- the right set lies in the union
pub is_subset-join_right : (ms ns : List ℕ) → is_subset ns (join ms ns) ≡ true
is_subset-join_right ms ns =
    is_subset-from_members ns (join ms ns) (λ k h. grind (arith, has-join k ms ns))

-- if two sets lie in a third, then so does their union
pub is_subset-join : (ls ms ns : List ℕ) → is_subset ls ns ≡ true → is_subset ms ns ≡ true → is_subset (join ls ms) ns ≡ true
is_subset-join ls ms ns s t =
    is_subset-from_members (join ls ms) ns (λ k h. grind (arith, has-join k ls ms, is_subset-has k ls ns s, is_subset-has k ms ns t))

-- a set lies in the set with one node more
pub is_subset-with_node : (n : ℕ) (ms : List ℕ) → is_subset ms (with_node n ms) ≡ true
is_subset-with_node n ms =
    is_subset-from_members ms (with_node n ms) (λ k h. grind (arith, nat_tests, has-with_node k n ms))

-- the set without a node lies in the set
pub is_subset-without : (n : ℕ) (ms : List ℕ) → is_subset (without n ms) ms ≡ true
is_subset-without n ms =
    is_subset-from_members (without n ms) ms (λ k h. grind (arith, nat_tests, has-without k n ms))

-- ---- the least node

-- if a set has no least node, then it is empty
pub least-none : (ms : List ℕ) → least ms ≡ None → ms ≡ []
unfolding least
least-none [] h = refl
least-none (m ∷ ms) h = absurd cc

-- the least node of a set is a member
pub least-has : (n : ℕ) (ms : List ℕ) → least ms ≡ Some n → has n ms ≡ true
unfolding least
least-has n [] h = absurd cc
least-has n (m ∷ ms) h =
    let same : m ≡ n = cc in
    rw same (has-head n ms)

-- if a list rises, then no member is below its least node
pub least-lowest : (b n k : ℕ) (ms : List ℕ) → RisesFrom b ms → least ms ≡ Some n → has k ms ≡ true → n ≤ k
unfolding least RisesFrom
least-lowest b n k [] r h g = absurd cc
least-lowest b n k (m ∷ ms) r h g =
    let same : m ≡ n = cc in
    let none : k < m → has k (m ∷ ms) ≡ false = has-below k m (m ∷ ms) (omega arith, r.1) in
    grind arith

-- the least node comes first, and the others after it
pub without-least : (b n : ℕ) (ms : List ℕ) → RisesFrom b ms → least ms ≡ Some n → ms ≡ n ∷ without n ms
unfolding least without RisesFrom
without-least b n [] r h = absurd cc
without-least b n (m ∷ ms) r h =
    let same : m ≡ n = cc in
    let kept : without n ms ≡ ms = without-stranger n ms (has-below n (suc m) ms r.1 (omega arith)) in
    grind (arith, nat_tests)

-- a member below which there is no other is the least
pub least-from_members : (b n : ℕ) (ms : List ℕ) → RisesFrom b ms → has n ms ≡ true → ((k : ℕ) → k < n → has k ms ≡ false) → least ms ≡ Some n
unfolding least RisesFrom
least-from_members b n [] r h f =
    let none : has n [] ≡ false = unfold has in refl in
    absurd cc
least-from_members b n (m ∷ ms) r h f =
    let head : has m (m ∷ ms) ≡ true = has-head m ms in
    let above : m < n → has m (m ∷ ms) ≡ false = f m in
    let low : n < m → has n (m ∷ ms) ≡ false = has-below n m (m ∷ ms) (omega arith, r.1) in
    let same : m ≡ n = grind arith in
    ap (λ (x : ℕ). Some x) same

-- ---- how many nodes, and how high

-- each node of the set is below the bound
abbrev pub IsBelow : ℕ → List ℕ → Type 0
IsBelow b ms = (k : ℕ) → has k ms ≡ true → k < b

-- a set of nodes is a rising list of numbers below 8
pub record IsNodeSet (ms : List ℕ) : Type 0 where
  pub rising : IsRising ms
  pub below : IsBelow 8 ms

-- if a set lies in one whose nodes are below a bound, then its own nodes are below it
pub IsBelow-subset : (b : ℕ) (ms ns : List ℕ) → is_subset ms ns ≡ true → IsBelow b ns → IsBelow b ms
IsBelow-subset b ms ns s h = λ k g. h k (is_subset-has k ms ns s g)

-- if a node and those of a set are below a bound, then so are those of the set with this node
pub IsBelow-with_node : (b n : ℕ) (ms : List ℕ) → n < b → IsBelow b ms → IsBelow b (with_node n ms)
IsBelow-with_node b n ms l h = λ k g. grind (arith, nat_tests, has-with_node k n ms, h k)

-- if the nodes of two sets are below a bound, then so are those of the union
pub IsBelow-join : (b : ℕ) (ms ns : List ℕ) → IsBelow b ms → IsBelow b ns → IsBelow b (join ms ns)
IsBelow-join b ms ns h g = λ k s. grind (arith, has-join k ms ns, h k, g k)

-- a rising list of numbers from b to below c has at most as many members as lie between
pub length-below : (b c : ℕ) (ms : List ℕ) → RisesFrom b ms → IsBelow c ms → b ≤ c → length ms + b ≤ c
unfolding RisesFrom
length-below b c [] r h l = omega arith
length-below b c (m ∷ ms) r h l =
    let first : m < c = h m (has-head m ms) in
    let rest : length ms + suc m ≤ c = length-below (suc m) c ms r.1 (λ k g. h k (has-tail k m ms g)) (omega arith) in
    omega (arith, r.0)

-- a member that is taken out is one fewer
pub length-without : (b n : ℕ) (ms : List ℕ) → RisesFrom b ms → has n ms ≡ true → suc (length (without n ms)) ≡ length ms
unfolding RisesFrom without has
length-without b n [] r h = absurd cc
length-without b n (m ∷ ms) r h =
    let kept : n ≡ m → without n ms ≡ ms = λ e. without-stranger n ms (has-below n (suc m) ms r.1 (omega arith)) in
    grind (arith, nat_tests, length-without (suc m) n ms r.1)

-- a new node is one more
pub length-with_node : (n : ℕ) (ms : List ℕ) → has n ms ≡ false → length (with_node n ms) ≡ suc (length ms)
unfolding with_node has
length-with_node n [] h = refl
length-with_node n (m ∷ ms) h = grind (arith, nat_tests, length-with_node n ms)

-- if the nodes of the left set are below a bound, then so are those of the intersection
pub IsBelow-meet : (b : ℕ) (ms ns : List ℕ) → IsBelow b ms → IsBelow b (meet ms ns)
IsBelow-meet b ms ns h = IsBelow-subset b (meet ms ns) ms (is_subset-meet_left ms ns) h

-- if the nodes of a set are below a bound, then so are those of the set without one of them
pub IsBelow-without : (b n : ℕ) (ms : List ℕ) → IsBelow b ms → IsBelow b (without n ms)
IsBelow-without b n ms h = IsBelow-subset b (without n ms) ms (is_subset-without n ms) h

-- ---- what holds of each node of a set

-- what holds of each element of a list holds of each member
pub All-has : (P : ℕ → Type 0) (k : ℕ) (ms : List ℕ) → All P ms → has k ms ≡ true → P k
unfolding has
All-has P k [] a h = absurd (false≢true h)
All-has P k (m ∷ ms) a h =
    elim (or_cases (k == m) (has k ms) h) [
      | inl same ↦ rw (eqb-true k m same) (All-head P m ms a)
      | inr later ↦ All-has P k ms (All-tail P m ms a) later
    ]

-- what holds of each member of a list holds of each of its elements
pub All-from_members : (P : ℕ → Type 0) (ms : List ℕ) → ((k : ℕ) → has k ms ≡ true → P k) → All P ms
All-from_members P [] h = All-nil P
All-from_members P (m ∷ ms) h =
    All-cons P m ms (h m (has-head m ms)) (All-from_members P ms (λ k g. h k (has-tail k m ms g)))

-- the nodes below a number, one by one
insert-numbers : (i k m : ℕ) → m ≡ i + k → with_node m (numbers_from i k) ≡ numbers_from i (suc k)
unfolding with_node numbers_from
insert-numbers i zero m e = let same : m ≡ i = omega arith in rw same refl
insert-numbers i (suc k) m e =
    rw (le-ltb m i (omega arith), ne_eqb m i (omega arith)) (ap (λ l. i ∷ l) (insert-numbers (suc i) k m (omega arith)))

-- the numbers below k together with k are the numbers below k + 1
pub below_more : (k : ℕ) → with_node k (below k) ≡ below (k + 1)
below_more k = rw add-one (insert-numbers 0 k k (omega arith))

-- no number is below 0
pub below_none : [] ≡ below 0
unfolding numbers_from
below_none = refl
