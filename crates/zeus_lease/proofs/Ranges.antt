-- Each step keeps the ranges.
use Rattle.std.proofs.Common.{◌≡◌, ℕ, zero, suc, ◌+◌, ◌*◌, ◌<◌, ◌≤◌, ◌^◌, Bool, true, false, cond, List, [], ◌∷◌, ◌++◌, length, All, Option, Some, None, refl, arith, length-append, subst}
use Rattle.std.specs.Prelude.{◌==◌, nat_lt, slice_get}
use Rattle.std.specs.List.{AllByRecursion}
use Rattle.std.proofs.lemmas.Bool.{eqb-true, eqb-false}
use Rattle.std.proofs.lemmas.List.Elements.{recursion_from_All}
use Rattle.zeus_base.specs.Nodes.{has, with_node}
use Rattle.zeus_base.specs.TableLaws.{nth-append, nth-last, length-put}
use Rattle.zeus_base.specs.declared.step.Step.TheVariants.{View as ViewStep}
use Rattle.zeus_model.specs.Tables.{nth}
use Rattle.zeus_model.specs.World.{happens as world_does, last_view, view_refused, view_or_not}
use Rattle.zeus_model.specs.declared.answer.Made.{Made}
use Rattle.zeus_lease.specs.declared.answer.LeaseAnswer.{LeaseAnswer}
use Rattle.zeus_lease.specs.declared.answer.LeaseAnswer.TheVariants as answers
use Rattle.zeus_lease.specs.declared.state.Ask.{Ask}
use Rattle.zeus_lease.specs.declared.state.Node.{Node}
use Rattle.zeus_lease.specs.declared.step.LeaseStep.{LeaseStep}
use Rattle.zeus_lease.specs.declared.step.LeaseStep.TheVariants as steps
use Rattle.zeus_lease.specs.Kept.{HasRanges, IsKept, IsSafe, ask_of}
use Rattle.zeus_lease.specs.Machine.{Machine, Did, just, no_node, no_ask, node, with_node_at, start, skew, went_on, pass_or_not, ask, hear, granted, later, take, take_by, act, act_by, seen, view, happens, stepped}
use Rattle.zeus_lease.specs.Scripts.{FitsNumbers, FitsStep}
use Rattle.zeus_lease.proofs.Clocks.{length-went_on, went_on-most}
use Rattle.zeus_lease.proofs.Safe.{changed_clock, found_at, start_length, start_node, start_safe, stepped_safe}
use Rattle.zeus_lease.proofs.Views.{seen_views}

-- ranges by how many steps may have been taken; so one step more gives the next
record Within (count size : ℕ) (m : Machine) : Type 0 where
  same : length m.nodes ≡ size
  numbers : FitsNumbers (length m.nodes) m.length m.percent
  clocks : (k : ℕ) → (node m k).clock ≤ count * 2 ^ 32
  service : m.service ≤ count * 2 ^ 32
  asks : (i : ℕ) → i < length m.asks → ((ask_of m i).node < length m.nodes) × ((ask_of m i).clock ≤ count * 2 ^ 32)
  few_asks : length m.asks ≤ count
  few_grants : length m.grants ≤ count
  few_views : length m.views ≤ count + 1

within : (m : Machine) → HasRanges m → Within (suc m.steps) (length m.nodes) m
within m r = record {
  same = refl;
  numbers = r.numbers;
  clocks = λ k. omega (arith, r.clocks k);
  service = omega (arith, r.service);
  asks = λ i lt. ((r.asks i lt).0, omega (arith, (r.asks i lt).1));
  few_asks = omega (arith, r.few_asks);
  few_grants = omega (arith, r.few_grants);
  few_views = omega (arith, r.few_views);
}

counted : (count size : ℕ) (m : Machine) → Within count size m → count ≤ 50000 → HasRanges (record m { steps = count })
counted count size m w few = record {
  numbers = w.numbers;
  clocks = w.clocks;
  service = w.service;
  asks = w.asks;
  few_asks = w.few_asks;
  few_grants = w.few_grants;
  few_views = w.few_views;
  few_steps = few;
}

-- ---- time passes

small_at : (limit : ℕ) (ts : List ℕ) (k : ℕ) → 0 < limit → AllByRecursion (λ t. t < limit) ts → nth 0 ts k < limit
unfolding nth
small_at limit [] k some h = some
small_at limit (t ∷ ts) zero some h = h.0
small_at limit (t ∷ ts) (suc k) some h = small_at limit ts k some h.1

passed_within : (m : Machine) (ticks : List ℕ) → HasRanges m → All (λ t. t < 2 ^ 32) ticks → Within (suc m.steps) (length m.nodes) (record m { nodes = went_on m.nodes ticks; service = m.service + nth 0 ticks (length m.nodes) })
passed_within m ticks r small =
    let each = recursion_from_All (λ t. t < 2 ^ 32) ticks small in
    let more : suc m.steps * 2 ^ 32 ≡ m.steps * 2 ^ 32 + 2 ^ 32 = omega arith in
    let w = within m r in
    record {
      same = length-went_on m.nodes ticks;
      numbers = rw (length-went_on m.nodes ticks) r.numbers;
      clocks = λ k. omega (arith, more, r.clocks k, went_on-most m.nodes ticks k, small_at (2 ^ 32) ticks k (omega arith) each);
      service = omega (arith, more, r.service, small_at (2 ^ 32) ticks (length m.nodes) (omega arith) each);
      asks = λ i lt. rw (length-went_on m.nodes ticks) (w.asks i lt);
      few_asks = w.few_asks;
      few_grants = w.few_grants;
      few_views = w.few_views;
    }

pass_within : (m : Machine) (ticks : List ℕ) (o : Option LeaseAnswer) → HasRanges m → All (λ t. t < 2 ^ 32) ticks → Within (suc m.steps) (length m.nodes) (pass_or_not m ticks o).machine
unfolding pass_or_not
pass_within m ticks (Some skewed) r small = within m r
pass_within m ticks None r small = passed_within m ticks r small

-- ---- asks

abbrev new_ask : Machine → ℕ → Ask
new_ask m n = record { node = n; clock = (node m n).clock }

ask_choice : (m : Machine) (n i : ℕ) → HasRanges m → n < length m.nodes → i < suc (length m.asks) → (b : Bool) → (i == length m.asks) ≡ b
    → ((nth no_ask (m.asks ++ new_ask m n ∷ []) i).node < length m.nodes) × ((nth no_ask (m.asks ++ new_ask m n ∷ []) i).clock ≤ suc m.steps * 2 ^ 32)
ask_choice m n i r node lt true e =
    let low = (within m r).clocks n in
    rw (eqb-true i (length m.asks) e, nth-last) (node, low)
ask_choice m n i r node lt false e =
    let other = eqb-false i (length m.asks) e in
    let low : i < length m.asks = omega arith in
    rw (nth-append no_ask m.asks (new_ask m n ∷ []) i low) ((within m r).asks i low)

asked_within : (m : Machine) (n : ℕ) → HasRanges m → n < length m.nodes → Within (suc m.steps) (length m.nodes) (record m { asks = m.asks ++ new_ask m n ∷ [] })
asked_within m n r there =
    let more : length (m.asks ++ new_ask m n ∷ []) ≡ length m.asks + 1 = length-append m.asks (new_ask m n ∷ []) in
    let w = within m r in
    record {
      same = refl;
      numbers = w.numbers;
      clocks = w.clocks;
      service = w.service;
      asks = λ i lt. ask_choice m n i r there (omega (arith, more, lt)) (i == length m.asks) refl;
      few_asks = omega (arith, more, r.few_asks);
      few_grants = w.few_grants;
      few_views = w.few_views;
    }

ask_within : (m : Machine) (n : ℕ) → HasRanges m → n < length m.nodes → Within (suc m.steps) (length m.nodes) (ask m n).machine
unfolding ask
ask_within m n r there = go (has n m.ended)
  where
    go : (b : Bool) → Within (suc m.steps) (length m.nodes) (cond {A = Did} b (just m answers.Ended) (just (record m { asks = m.asks ++ new_ask m n ∷ [] }) (answers.Asked (length m.asks)))).machine
    go true = within m r
    go false = asked_within m n r there

-- ---- a node is changed, but for its clock

changed_within : (m : Machine) (n : ℕ) (new : Node) (grants : List ℕ) → HasRanges m → n < length m.nodes → new.clock ≡ (node m n).clock → length grants ≤ suc m.steps
    → Within (suc m.steps) (length m.nodes) (record (with_node_at m n new) { grants = grants })
changed_within m n new grants r there clock few =
    let w = within m r in
    let same = length-put no_node m.nodes n new there in
    record {
      same = same;
      numbers = rw same w.numbers;
      clocks = λ k. rw (changed_clock m n new clock k) (w.clocks k);
      service = w.service;
      asks = λ i lt. rw same (w.asks i lt);
      few_asks = w.few_asks;
      few_grants = few;
      few_views = w.few_views;
    }

hear_within : (m : Machine) (i : ℕ) (o : Option Ask) → slice_get m.asks i ≡ o → HasRanges m → Within (suc m.steps) (length m.nodes) (hear m i o).machine
unfolding hear
hear_within m i None e r = within m r
hear_within m i (Some a) e r = go (has a.node (last_view m.views)) (found_at no_ask m.asks i a e)
  where
    go : (b : Bool) → (ask_of m i ≡ a) × (i < length m.asks) → Within (suc m.steps) (length m.nodes) (cond {A = Did} b (granted m i a.node) (just m answers.Dropped)).machine
    go true found =
        let more : length (m.grants ++ i ∷ []) ≡ length m.grants + 1 = length-append m.grants (i ∷ []) in
        let there : a.node < length m.nodes = subst (λ (b : Ask). b.node < length m.nodes) found.0 (r.asks i found.1).0 in
        changed_within m a.node _ (m.grants ++ i ∷ []) r there refl (omega (arith, more, r.few_grants))
    go false found = within m r

take_by_within : (m : Machine) (i : ℕ) → HasRanges m → i < length m.asks → Within (suc m.steps) (length m.nodes) (take_by m (ask_of m i)).machine
unfolding take_by
take_by_within m i r there = go (has (ask_of m i).node m.ended)
  where
    go : (b : Bool) → Within (suc m.steps) (length m.nodes) (cond {A = Did} b (just m answers.Ended) (just (with_node_at m (ask_of m i).node (record (node m (ask_of m i).node) { end = Some (later (node m (ask_of m i).node).end ((ask_of m i).clock + m.length)) })) (answers.Held (later (node m (ask_of m i).node).end ((ask_of m i).clock + m.length))))).machine
    go true = within m r
    go false = changed_within m (ask_of m i).node _ m.grants r (r.asks i there).0 refl (omega (arith, r.few_grants))

take_within : (m : Machine) (g : ℕ) (o : Option ℕ) → slice_get m.grants g ≡ o → HasRanges m → IsSafe m → Within (suc m.steps) (length m.nodes) (take m o).machine
unfolding take
take_within m g None e r safe = within m r
take_within m g (Some i) e r safe =
    let found = found_at 0 m.grants g i e in
    take_by_within m i r (subst (λ (j : ℕ). j < length m.asks) found.0 (safe.answered g found.1))

-- ---- acts and views

ended_within : (m : Machine) (ended : List ℕ) → HasRanges m → Within (suc m.steps) (length m.nodes) (record m { ended = ended })
ended_within m ended r =
    let w = within m r in
    record { same = refl; numbers = w.numbers; clocks = w.clocks; service = w.service; asks = w.asks; few_asks = w.few_asks; few_grants = w.few_grants; few_views = w.few_views }

act_by_within : (m : Machine) (n : ℕ) (o : Option ℕ) → HasRanges m → Within (suc m.steps) (length m.nodes) (act_by m n o).machine
unfolding act_by
act_by_within m n None r = within m r
act_by_within m n (Some end) r = go (nat_lt (node m n).clock end)
  where
    go : (b : Bool) → Within (suc m.steps) (length m.nodes) (cond {A = Did} b (just m answers.Acted) (just (record m { ended = with_node n m.ended }) answers.Ended)).machine
    go true = within m r
    go false = ended_within m (with_node n m.ended) r

act_within : (m : Machine) (n : ℕ) → HasRanges m → Within (suc m.steps) (length m.nodes) (act m n).machine
unfolding act
act_within m n r = go (has n m.ended)
  where
    go : (b : Bool) → Within (suc m.steps) (length m.nodes) (cond {A = Did} b (just m answers.Ended) (act_by m n (node m n).end)).machine
    go true = within m r
    go false = act_by_within m n (node m n).end r

viewed_within : (m : Machine) (views : List (List ℕ)) → HasRanges m → length views ≤ suc m.steps + 1 → Within (suc m.steps) (length m.nodes) (record m { views = views })
viewed_within m views r few =
    let w = within m r in
    record { same = refl; numbers = w.numbers; clocks = w.clocks; service = w.service; asks = w.asks; few_asks = w.few_asks; few_grants = w.few_grants; few_views = few }

view_within : (m : Machine) (set : List ℕ) → HasRanges m → Within (suc m.steps) (length m.nodes) (view m (world_does (seen m) (ViewStep set))).machine
unfolding view world_does view_or_not
view_within m set r = go (view_refused (seen m) set)
  where
    go : (o : Option Made) → Within (suc m.steps) (length m.nodes) (record m { views = (view_or_not (seen m) set o).world.views })
    go (Some x) = rw (seen_views m) (viewed_within m m.views r (omega (arith, r.few_views)))
    go None = let more : length (m.views ++ set ∷ []) ≡ length m.views + 1 = length-append m.views (set ∷ []) in rw (seen_views m) (viewed_within m (m.views ++ set ∷ []) r (omega (arith, more, r.few_views)))

-- ---- steps

happens_within : (m : Machine) (s : LeaseStep) → HasRanges m → IsSafe m → FitsStep (length m.nodes) s → Within (suc m.steps) (length m.nodes) (happens m s).machine
unfolding happens FitsStep
happens_within m (steps.Pass ticks) r safe fits = pass_within m ticks (skew m.percent ticks (suc (length m.nodes))) r fits.1
happens_within m (steps.Ask n) r safe fits = ask_within m n r fits
happens_within m (steps.Hear i) r safe fits = hear_within m i (slice_get m.asks i) refl r
happens_within m (steps.Take i) r safe fits = take_within m i (slice_get m.grants i) refl r safe
happens_within m (steps.Act n) r safe fits = act_within m n r
happens_within m (steps.View set) r safe fits = view_within m set r

stepped_ranges : (m : Machine) (s : LeaseStep) → HasRanges m → IsSafe m → m.steps < 50000 → FitsStep (length m.nodes) s → HasRanges (stepped m s)
unfolding stepped
stepped_ranges m s r safe few fits = counted (suc m.steps) (length m.nodes) (happens m s).machine (happens_within m s r safe fits) few

-- if a machine is in order and a step fits, then the step leaves how many nodes there are
pub stepped_nodes : (m : Machine) (s : LeaseStep) → IsKept m → FitsStep (length m.nodes) s → length (stepped m s).nodes ≡ length m.nodes
unfolding stepped
stepped_nodes m s kept fits = (happens_within m s kept.ranges kept.safe fits).same

-- if a machine is in order, a step fits and fewer than 50,000 were made, then it is in order after the step
pub stepped_kept : (m : Machine) (s : LeaseStep) → IsKept m → m.steps < 50000 → FitsStep (length m.nodes) s → IsKept (stepped m s)
stepped_kept m s kept few fits = record { ranges = stepped_ranges m s kept.ranges kept.safe few fits; safe = stepped_safe m s kept.safe }

-- ---- the start

-- if the numbers of a script fit, then the machine at the start is in order
pub start_kept : (nodes term percent : ℕ) → FitsNumbers nodes term percent → IsKept (start nodes term percent)
unfolding start
start_kept nodes term percent numbers = record {
  ranges = record {
    numbers = rw (start_length nodes) numbers;
    clocks = λ k. rw (start_node nodes k) (omega arith);
    service = omega arith;
    asks = λ i lt. absurd (omega arith);
    few_asks = omega arith;
    few_grants = omega arith;
    few_views = omega arith;
    few_steps = omega arith;
  };
  safe = start_safe nodes term percent;
}

-- the machine at the start has that many nodes and has made no step
pub start_ready : (nodes term percent : ℕ) → (length (start nodes term percent).nodes ≡ nodes) × ((start nodes term percent).steps ≡ 0)
unfolding start
start_ready nodes term percent = (start_length nodes, refl)
