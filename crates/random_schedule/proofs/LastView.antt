-- The last view, and the nodes that are behind it.
use Rattle.std.proofs.Common.{ℕ, suc, ◌≡◌, ◌<◌, ◌≤◌, ◌-◌, Bool, true, false, List, [], ◌∷◌, Option, Some, None, length, arith, refl, ap, sym, ◌∙◌}
use Rattle.std.specs.Prelude.{nat_lt}
use Rattle.zeus_base.specs.Limits.{limits_of}
use Rattle.zeus_base.specs.Nodes.{has}
use Rattle.zeus_base.specs.NodeLaws.{IsRising, IsBelow, has-head, has-tail}
use Rattle.node_ranges.specs.NodeSets.{nodes_fit-has}
use Rattle.zeus_model.specs.Readers.{live_among}
use Rattle.zeus_model.specs.Scripts.{FitsStep}
use Rattle.zeus_model.specs.Tables.{nth, below, first_of, or_else, where_true}
use Rattle.zeus_model.specs.World.{World, node, last_view}
use Rattle.zeus_base.specs.declared.step.Step.TheVariants.{View}
use Rattle.reached_worlds.specs.Ranged.{IsRanged}
use Rattle.random_schedule.specs.Choices.{chosen, live_nodes}
use Rattle.random_schedule.specs.Schedule.{if_behind, members_left, stops_after, tick_of, tick_or_first}
use Rattle.random_schedule.proofs.Running.{live_among-below, below-bound}

last_at : (v : List ℕ) (vs : List (List ℕ)) → last_view (v ∷ vs) ≡ nth [] (v ∷ vs) (length vs)
unfolding last_view nth
last_at v [] = refl
last_at v (u ∷ us) = last_at u us

-- the last view is that of the last epoch
pub last_is : (vs : List (List ℕ)) → 0 < length vs → nth [] vs (length vs - 1) ≡ last_view vs
last_is [] h = absurd (omega (arith, h))
last_is (v ∷ vs) h =
    let n : length (v ∷ vs) - 1 ≡ length vs = omega arith in
    ap (nth [] (v ∷ vs)) n ∙ sym (last_at v vs)

-- each view has nodes that there are
view_below : (w : World) (i : ℕ) → IsRanged w → IsBelow w.config.nodes (nth [] w.views i)
view_below w i r = λ k h. nodes_fit-has (limits_of w.config) (nth [] w.views i) k (r.members i) h

-- if there is a view and its running members rise, then a view of them is a step that fits
pub left_fits : (w : World) → IsRanged w → 0 < length w.views → IsRising (members_left w) → FitsStep w.config (length w.txs) (View (members_left w))
unfolding FitsStep
left_fits w r some rises =
    let last : IsBelow w.config.nodes (last_view w.views) = rw (← last_is w.views some) (view_below w (length w.views - 1) r) in
    (rises, live_among-below w w.config.nodes (last_view w.views) last)

-- the live nodes are below the configuration's number of nodes
pub live_below : (w : World) → IsBelow w.config.nodes (live_nodes w)
live_below w = live_among-below w w.config.nodes (below w.config.nodes) (below-bound w.config.nodes)

tick_quiet : (o : Option ℕ) (stops : ℕ) → stops_after (tick_or_first o) stops ≡ stops
unfolding tick_or_first stops_after
tick_quiet None stops = refl
tick_quiet (Some n) stops = refl

-- a tick is no stop
pub tick_counts : (w : World) (u stops : ℕ) → stops_after (tick_of w u) stops ≡ stops
tick_counts w u stops = tick_quiet (chosen u (live_nodes w)) stops

-- ---- the nodes that are behind

-- if all nodes of a list are below a bound, then its head is
pub first_below : (b n : ℕ) (ns : List ℕ) → IsBelow b (n ∷ ns) → n < b
first_below b n ns h = h n (has-head n ns)

-- if all nodes of a list are below a bound, then those behind its head are
pub rest_below : (b n : ℕ) (ns : List ℕ) → IsBelow b (n ∷ ns) → IsBelow b ns
rest_below b n ns h = λ k is. h k (has-tail k n ns is)

-- if the head node's epoch is older than the last view's, then it is the least that is behind
pub is_behind : (w : World) (n : ℕ) (ns : List ℕ) → (node w n).epoch < length w.views → Some n ≡ first_of (if_behind w) (n ∷ ns)
unfolding first_of if_behind or_else where_true
is_behind w n ns h = let test = Rattle.std.proofs.lemmas.Bool.lt-ltb (node w n).epoch (length w.views) h in rw test refl

-- if the head node's epoch is the last view's, then the least that is behind is among those after it
pub not_behind : (w : World) (n : ℕ) (ns : List ℕ) → length w.views ≤ (node w n).epoch → first_of (if_behind w) ns ≡ first_of (if_behind w) (n ∷ ns)
unfolding first_of if_behind or_else where_true
not_behind w n ns h = let test = Rattle.std.proofs.lemmas.Bool.le-ltb (node w n).epoch (length w.views) h in rw test refl

-- in an empty list none is behind
pub none_behind : (w : World) → None ≡ first_of (if_behind w) []
unfolding first_of
none_behind w = refl
