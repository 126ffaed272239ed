-- What a view of the membership service changes, and which nodes it leaves out.
use Rattle.std.proofs.Common.{◌≡◌, ◌≢◌, ℕ, zero, suc, ◌<◌, ◌≤◌, Bool, true, false, List, [], ◌∷◌, ◌++◌, length, Option, Some, None, refl, sym, ap, ◌∙◌, arith, inl, inr}
use Rattle.std.specs.Prelude.{◌&&◌, ◌⊎◌, not, nat_le, map}
use Rattle.std.proofs.lemmas.Bool.Decides.{nat_tests}
use Rattle.zeus_base.specs.Nodes.{has}
use Rattle.zeus_base.specs.NodeLaws.{IsBelow}
use Rattle.zeus_base.specs.declared.step.Step.TheVariants.{View as ViewStep}
use Rattle.zeus_model.specs.Tables.{nth, first_of, or_else, where_true}
use Rattle.zeus_model.specs.World.{World, happens as world_does, last_view, is_empty, view_refused, view_or_not, no_node as no_world_node, node as world_node_of}
use Rattle.zeus_model.specs.declared.answer.Made.{Made}
use Rattle.zeus_model.specs.declared.answer.Made.TheVariants.{Installed, Empty, NotMember, NotStopped}
use Rattle.zeus_lease.specs.declared.state.Node.{Node}
use Rattle.zeus_lease.specs.Kept.{IsSafe}
use Rattle.zeus_lease.specs.Machine.{Machine, no_node, node, world_node, seen, made_in, view}
use Rattle.zeus_lease.proofs.Clocks.{none_of, none_where}

-- the last view of views with one more at the end is that one
pub last_view-more : (views : List (List ℕ)) (set : List ℕ) → last_view (views ++ set ∷ []) ≡ set
unfolding last_view
last_view-more [] set = refl
last_view-more (v ∷ []) set = refl
last_view-more (v ∷ u ∷ us) set = last_view-more (u ∷ us) set

nth-map : (service : ℕ) (ns : List Node) (k : ℕ) → k < length ns → nth no_world_node (map (world_node service) ns) k ≡ world_node service (nth no_node ns k)
unfolding nth
nth-map service [] k lt = absurd (omega arith)
nth-map service (n ∷ ns) zero lt = refl
nth-map service (n ∷ ns) (suc k) lt = nth-map service ns k (omega arith)

-- a node counts as stopped where the service has come to its expiry
pub seen_stopped : (m : Machine) (k : ℕ) → k < length m.nodes → (world_node_of (seen m) k).stopped ≡ nat_le (node m k).expiry m.service
unfolding seen
seen_stopped m k lt = rw (nth-map m.service m.nodes k lt) refl

-- the world of the membership service has the machine's views
pub seen_views : (m : Machine) → (seen m).views ≡ m.views
unfolding seen
seen_views m = refl

both_none : {A : Type 0} (a b : Option A) → or_else a b ≡ None → (a ≡ None) × (b ≡ None)
unfolding or_else
both_none None b h = (refl, h)
both_none (Some x) b h = absurd cc

-- a view that is not refused has members of the last one alone, and leaves out nodes that count as stopped
module _ (m : Machine) (set : List ℕ) (made : view_refused (seen m) set ≡ None) where
  parts : (first_of (λ n. where_true (not (has n (last_view m.views))) (NotMember n)) set ≡ None)
      × (first_of (λ n. where_true (not (has n set) && not (world_node_of (seen m) n).stopped) (NotStopped n)) (last_view m.views) ≡ None)
  unfolding view_refused
  parts = let all = rw (seen_views m) at made in both_none _ _ (both_none _ _ all).1

  was_member : (k : ℕ) → has k set ≡ true → has k (last_view m.views) ≡ true
  was_member k h = known (has k (last_view m.views)) (none_where _ _ (none_of _ k set parts.0 h))
    where
      known : (b : Bool) → not b ≡ false → b ≡ true
      known true e = refl
      known false e = absurd cc

  has_stopped : (k : ℕ) → k < length m.nodes → has k (last_view m.views) ≡ true → has k set ≡ false → (node m k).expiry ≤ m.service
  has_stopped k lt h g =
      let row = none_where _ _ (none_of _ k (last_view m.views) parts.1 h) in
      let late = known (world_node_of (seen m) k).stopped (rw g at row) in
      let test : nat_le (node m k).expiry m.service ≡ true = sym (seen_stopped m k lt) ∙ late in
      grind (arith, nat_tests)
    where
      known : (b : Bool) → (not false && not b) ≡ false → b ≡ true
      known true e = refl
      known false e = absurd cc

-- ---- the machine after a view

abbrev with_views : Machine → List (List ℕ) → Machine
with_views m views = record m { views = views }

viewed_safe : (m : Machine) (views : List (List ℕ)) → IsSafe m → IsBelow (length m.nodes) (last_view views) → ((n : ℕ) → has n (last_view views) ≡ false → (node m n).expiry ≤ m.service) → IsSafe (with_views m views)
viewed_safe m views safe members others = record {
  asks = safe.asks;
  grants = λ g lt. let was = safe.grants g lt in record { there = was.there; clocks = was.clocks };
  answered = safe.answered;
  leases = λ n end e. let was = safe.leases n end e in record { there = was.there; clocks = was.clocks };
  members = members;
  others = others;
}

made_others : (m : Machine) (set : List ℕ) → view_refused (seen m) set ≡ None → IsSafe m → (n : ℕ) → has n set ≡ false → (node m n).expiry ≤ m.service
made_others m set made safe n h = go (has n (last_view m.views)) refl
  where
    go : (b : Bool) → has n (last_view m.views) ≡ b → (node m n).expiry ≤ m.service
    go true e = has_stopped m set made n (safe.members n e) e h
    go false e = safe.others n e

made_safe : (m : Machine) (set : List ℕ) → view_refused (seen m) set ≡ None → IsSafe m → IsSafe (with_views m (m.views ++ set ∷ []))
made_safe m set made safe =
    viewed_safe m (m.views ++ set ∷ []) safe
    (rw (last_view-more m.views set) (λ k h. safe.members k (was_member m set made k h)))
    (rw (last_view-more m.views set) (made_others m set made safe))

-- if each lease is covered by the service's expiry, then each is after a view
pub view_safe : (m : Machine) (set : List ℕ) → IsSafe m → IsSafe (view m (world_does (seen m) (ViewStep set))).machine
unfolding view world_does view_or_not
view_safe m set safe = go (view_refused (seen m) set) refl
  where
    go : (o : Option Made) → view_refused (seen m) set ≡ o → IsSafe (with_views m (view_or_not (seen m) set o).world.views)
    go (Some x) e = rw (seen_views m) (viewed_safe m m.views safe safe.members safe.others)
    go None e = rw (seen_views m) (made_safe m set e safe)

-- who is left out stays so
pub view_leaves_out : (m : Machine) (set : List ℕ) (n : ℕ) → has n (last_view m.views) ≡ false → has n (last_view (world_does (seen m) (ViewStep set)).world.views) ≡ false
unfolding world_does view_or_not
view_leaves_out m set n out = go (view_refused (seen m) set) refl
  where
    go : (o : Option Made) → view_refused (seen m) set ≡ o → has n (last_view (view_or_not (seen m) set o).world.views) ≡ false
    go (Some x) e = rw (seen_views m) out
    go None e = rw (seen_views m, last_view-more m.views set) (still (has n set) refl)
      where
        still : (b : Bool) → has n set ≡ b → has n set ≡ false
        still true h = let was = was_member m set e n h in absurd cc
        still false h = h

-- no refusal is a view that is made
or_else_some : {A : Type 0} (a b : Option A) (x : A) → or_else a b ≡ Some x → (a ≡ Some x) ⊎ (b ≡ Some x)
unfolding or_else
or_else_some None b x h = inr h
or_else_some (Some y) b x h = inl h

none_installed : (epoch : ℕ) (f : ℕ → Bool) (c : ℕ → Made) → ((n : ℕ) → c n ≢ Installed epoch) → (ns : List ℕ) → first_of (λ n. where_true (f n) (c n)) ns ≡ Some (Installed epoch) → ⊥
unfolding first_of where_true
none_installed epoch f c never [] e = cc
none_installed epoch f c never (n ∷ ns) e =
    elim (or_else_some (where_true (f n) (c n)) _ (Installed epoch) e) [
      | inl here ↦ one (f n) here
      | inr later ↦ none_installed epoch f c never ns later
    ]
  where
    one : (b : Bool) → where_true b (c n) ≡ Some (Installed epoch) → ⊥
    one true g = let same : c n ≡ Installed epoch = cc in never n same
    one false g = cc

empty_installed : (epoch : ℕ) (b : Bool) → where_true b Empty ≡ Some (Installed epoch) → ⊥
unfolding where_true
empty_installed epoch true g = cc
empty_installed epoch false g = cc

refused_never : (w : World) (set : List ℕ) (epoch : ℕ) → view_refused w set ≡ Some (Installed epoch) → ⊥
unfolding view_refused
refused_never w set epoch h =
    elim (or_else_some _ _ (Installed epoch) h) [
      | inl empty ↦ empty_installed epoch (is_empty set) empty
      | inr other ↦ elim (or_else_some _ _ (Installed epoch) other) [
        | inl stranger ↦ none_installed epoch (λ n. not (has n (last_view w.views))) NotMember (λ n e. cc) set stranger
        | inr running ↦ none_installed epoch (λ n. not (has n set) && not (world_node_of w n).stopped) NotStopped (λ n e. cc) (last_view w.views) running
      ]
    ]

-- a view that is made has these members
pub view_made : (m : Machine) (set : List ℕ) (epoch : ℕ) → made_in (world_does (seen m) (ViewStep set)).answer ≡ Installed epoch → last_view (world_does (seen m) (ViewStep set)).world.views ≡ set
unfolding world_does view_or_not made_in
view_made m set epoch h = go (view_refused (seen m) set) refl h
  where
    go : (o : Option Made) → view_refused (seen m) set ≡ o → made_in (view_or_not (seen m) set o).answer ≡ Installed epoch → last_view (view_or_not (seen m) set o).world.views ≡ set
    go (Some x) e g = absurd (refused_never (seen m) set epoch (e ∙ ap (λ (y : Made). Some y) g))
    go None e g = last_view-more (seen m).views set
