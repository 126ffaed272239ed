-- The nodes of a set that run.
use Rattle.std.proofs.Common.{ℕ, zero, suc, ◌≡◌, ◌<◌, ◌≤◌, ◌+◌, Bool, true, false, List, [], ◌∷◌, Option, Some, None, arith, refl, sym, ap, subst, ◌∙◌, inl, inr}
use Rattle.std.specs.Prelude.{◌&&◌, ◌||◌, slice_get, ◌%◌, length, if◌then◌else◌}
use Rattle.std.proofs.lemmas.Bool.{cases_Bool, cond_both}
use Rattle.std.proofs.lemmas.Bool.Decides.{nat_tests}
use Rattle.zeus_base.proofs.NodeBits.{IsNodeSet-nodes_of}
use Rattle.zeus_base.specs.Bits.{bits_of, nodes_of}
use Rattle.zeus_base.specs.Nodes.{has, without}
use Rattle.zeus_base.specs.NodeLaws.{RisesFrom, RisesFrom-lower, IsRising, IsBelow, IsNodeSet, has-head, has-tail, has-below, has-without, same_from_members}
use Rattle.zeus_model.specs.Readers.{is_live, live_among}
use Rattle.zeus_model.specs.Tables.{below, numbers_from}
use Rattle.zeus_model.specs.World.{World}
use Rattle.random_schedule.specs.Choices.{chosen, live_nodes}

-- a running node of a set is a member that is live
pub live_among-has : (w : World) (k : ℕ) (ms : List ℕ) → has k (live_among w ms) ≡ (has k ms && is_live w k)
unfolding has live_among
live_among-has w k [] = refl
live_among-has w k (m ∷ ms) = grind (arith, nat_tests, live_among-has w k ms)

live_among-rises : (w : World) (b : ℕ) (ms : List ℕ) → RisesFrom b ms → RisesFrom b (live_among w ms)
unfolding RisesFrom live_among
live_among-rises w b [] r = tt
live_among-rises w b (m ∷ ms) r =
    let kept = live_among-rises w (suc m) ms r.1 in
    cond_both (is_live w m) (m ∷ live_among w ms) (live_among w ms) (RisesFrom b) (λ _. (r.0, kept)) (λ _. RisesFrom-lower b (suc m) (live_among w ms) (omega (arith, r.0)) kept)

-- if a set rises, then so do its running nodes
pub live_among-rising : (w : World) (ms : List ℕ) → IsRising ms → IsRising (live_among w ms)
live_among-rising w ms r = live_among-rises w 0 ms r

-- if the nodes of a set are below a bound, then so are its running ones
pub live_among-below : (w : World) (b : ℕ) (ms : List ℕ) → IsBelow b ms → IsBelow b (live_among w ms)
live_among-below w b ms h = λ k here.
    let split = live_among-has w k ms in
    let there : has k ms ≡ true = grind arith in
    h k there

-- what a byte shows rises from one node to the next
pub rising_shown : (ns : List ℕ) → nodes_of (bits_of ns) ≡ ns → IsRising ns
rising_shown ns shown =
    let set : IsNodeSet ns = rw (← shown) (IsNodeSet-nodes_of (bits_of ns)) in
    set.rising

-- ---- one node after another

-- the nodes that run among all, and those that are not looked at yet
pub record IsLeft (w : World) (all left running : List ℕ) : Type 0 where
  pub rises : (n : ℕ) × RisesFrom n left
  pub rising : IsRising running
  pub members : (k : ℕ) → has k running ≡ (has k all && (has k left || is_live w k))

-- at the beginning all nodes of the set are left to look at, and all count as running
pub all_left : (w : World) (ms : List ℕ) → IsRising ms → IsLeft w ms ms ms
all_left w ms r = record {
  rises = (0, r);
  rising = r;
  members = λ k. grind arith;
}

-- ---- numbers below a bound

numbers-below : (i n k : ℕ) → has k (numbers_from i n) ≡ true → k < i + n
unfolding has numbers_from
numbers-below i zero k h = absurd cc
numbers-below i (suc n) k h = grind (arith, nat_tests, numbers-below (suc i) n k)

-- the numbers below n are below n
pub below-bound : (n : ℕ) → IsBelow n (below n)
below-bound n = λ k h. let less = numbers-below 0 n k h in omega arith

-- what stands in a list of nodes is one of them
pub got-has : (ms : List ℕ) (i n : ℕ) → slice_get ms i ≡ Some n → has n ms ≡ true
got-has [] i n h = absurd cc
got-has (m ∷ ms) zero n h = let same : m ≡ n = cc in rw same (has-head n ms)
got-has (m ∷ ms) (suc i) n h = has-tail n m ms (got-has ms i n h)

-- a chosen live node is one that there is
pub chosen_live : (w : World) (u n : ℕ) → chosen u (live_nodes w) ≡ Some n → n < w.config.nodes
chosen_live w u n h = live_among-below w w.config.nodes (below w.config.nodes) (below-bound w.config.nodes) n (got-has (live_nodes w) (u % length (live_nodes w)) n h)

-- ---- a node of those that are left

-- if the head node that is left is live, then it stays among the running ones
pub still_running : (w : World) (all running rest : List ℕ) (n : ℕ) → IsLeft w all (n ∷ rest) running → is_live w n ≡ true → IsLeft w all rest running
unfolding has RisesFrom
still_running w all running rest n h live = record {
  rises = (suc n, h.rises.1.1);
  rising = h.rising;
  members = λ k. grind (arith, nat_tests, h.members k, live);
}

-- if the head node that is left is not live, then it is taken out of the running ones
pub runs_no_more : (w : World) (all running rest : List ℕ) (n : ℕ) → IsLeft w all (n ∷ rest) running → is_live w n ≡ false → IsLeft w all rest (without n running)
unfolding has RisesFrom
runs_no_more w all running rest n h dead =
    let none = has-below n (suc n) rest h.rises.1.1 (omega arith) in
    record {
      rises = (suc n, h.rises.1.1);
      rising = Rattle.zeus_base.specs.NodeLaws.RisesFrom-without 0 n running h.rising;
      members = λ k. grind (arith, nat_tests, has-without k n running, h.members k, none, dead);
    }

-- once no node is left to look at, the running ones are the live ones of the set
pub none_left : (w : World) (all left running : List ℕ) → IsRising all → left ≡ [] → IsLeft w all left running → running ≡ live_among w all
unfolding has
none_left w all left running r done kept =
    let P : List ℕ → Type 0 = λ l. IsLeft w all l running in
    let h : IsLeft w all [] running = subst P done kept in
    same_from_members 0 0 running (live_among w all) h.rising (live_among-rising w all r)
    (λ k. grind (arith, h.members k, live_among-has w k all))

-- one node is looked at
pub looked_at : (w : World) (all running after left rest : List ℕ) (n : ℕ) → IsLeft w all left running → left ≡ n ∷ rest → after ≡ (if is_live w n then running else without n running) → IsLeft w all rest after
looked_at w all running after left rest n h next is =
    let P : List ℕ → Type 0 = λ l. IsLeft w all l running in
    let here : IsLeft w all (n ∷ rest) running = subst P next h in
    elim (cases_Bool (is_live w n)) [
      | inl live ↦ let same : after ≡ running = rw live at is in rw same (still_running w all running rest n here live)
      | inr dead ↦ let same : after ≡ without n running = rw dead at is in rw same (runs_no_more w all running rest n here dead)
    ]

-- ---- the node at a place

-- if no element is to be passed over, then the one looked for is the head
pub found_here : (ms rest : List ℕ) (n left : ℕ) (whole : Option ℕ) → slice_get ms left ≡ whole → ms ≡ n ∷ rest → left ≡ 0 → Some n ≡ whole
found_here ms rest n left whole kept is none =
    let here : slice_get (n ∷ rest) 0 ≡ Some n = refl in
    let same : slice_get ms left ≡ slice_get (n ∷ rest) 0 = rw (is, none) refl in
    sym here ∙ (sym same ∙ kept)
