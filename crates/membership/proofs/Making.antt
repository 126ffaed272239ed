-- When a view is made, and what is then the last one.
use Rattle.std.proofs.Common.{ℕ, ◌≡◌, ◌∙◌, ◌<◌, ◌+◌, ◌-◌, Bool, true, false, not, ◌&&◌, List, [], ◌∷◌, ◌++◌, Some, None, length, refl, sym, arith}
use Rattle.std.specs.Prelude.{◌||◌, if◌then◌else◌}
use Rattle.std.specs.List.{find}
use Rattle.std.specs.Option.{option_map}
use Rattle.std.proofs.Math.ListN.{get_or}
use Rattle.std.proofs.lemmas.List.{get_or_default, length_push}
use Rattle.zeus_base.specs.Nodes.{has, join}
use Rattle.zeus_base.specs.NodeLaws.{has-head, has-join, has-tail}
use Rattle.zeus_base.specs.declared.step.Step.TheVariants.{View as ViewStep}
use Rattle.zeus_model.specs.declared.answer.Answer.TheVariants.{View as ViewAnswer}
use Rattle.zeus_model.specs.declared.answer.Made.{Made}
use Rattle.zeus_model.specs.declared.answer.Made.TheVariants.{Empty, Installed, NotMember, NotStopped}
use Rattle.zeus_model.specs.Tables.{first_of, or_else, where_true}
use Rattle.zeus_model.specs.World.{World, happens, is_empty, last_view, node, refuse_step, view_or_not, view_refused}
use Rattle.membership.specs.Views.{IsWorldWith}

-- ---- the last view, and one by its epoch

last_nth : (v : List ℕ) (vs : List (List ℕ)) → last_view (v ∷ vs) ≡ get_or (v ∷ vs) (length vs) v
unfolding last_view
last_nth v [] = refl
last_nth v (u ∷ us) = last_nth u us ∙ get_or_default (u ∷ us) (length us) u v (omega arith)

-- if a view is read at the last place of some views, then it is the last view
pub last_view_read : (vs : List (List ℕ)) (v : List ℕ) → 0 < length vs → v ≡ get_or vs (length vs - 1) v → v ≡ last_view vs
last_view_read [] v h e = absurd (omega arith)
last_view_read (u ∷ us) v h e =
    let last : length (u ∷ us) - 1 ≡ length us = omega arith in
    let there : v ≡ get_or (u ∷ us) (length us) v = rw last at e in
    there ∙ get_or_default (u ∷ us) (length us) v u (omega arith) ∙ sym (last_nth u us)

-- ---- why a view is refused

strangers : (last members : List ℕ) → first_of (λ n. where_true (not (has n last)) (NotMember n)) members ≡ option_map NotMember (find (λ n. not (has n last)) members)
unfolding first_of where_true or_else
strangers last [] = refl
strangers last (m ∷ ms) =
    elim (has m last) as (λ b. or_else (where_true (not b) (NotMember m)) (first_of (λ n. where_true (not (has n last)) (NotMember n)) ms) ≡ option_map NotMember (if not b then Some m else find (λ n. not (has n last)) ms)) [
      | true ↦ strangers last ms
      | false ↦ refl
    ]

neither : (a b : Bool) → not (a || b) ≡ (not a && not b)
neither true b = refl
neither false b = refl

running : (w : World) (set stopped ns : List ℕ) → ((n : ℕ) → has n ns ≡ true → (node w n).stopped ≡ has n stopped) → first_of (λ n. where_true (not (has n set) && not (node w n).stopped) (NotStopped n)) ns ≡ option_map NotStopped (find (λ n. not (has n (join set stopped))) ns)
unfolding first_of where_true or_else
running w set stopped [] h = refl
running w set stopped (n ∷ ns) h =
    rw (h n (has-head n ns), has-join n set stopped, neither (has n set) (has n stopped))
    (elim (not (has n set) && not (has n stopped)) as (λ b. or_else (where_true b (NotStopped n)) (first_of (λ m. where_true (not (has m set) && not (node w m).stopped) (NotStopped m)) ns) ≡ option_map NotStopped (if b then Some n else find (λ m. not (has m (join set stopped))) ns)) [
      | true ↦ refl
      | false ↦ running w set stopped ns (λ m g. h m (has-tail m n ns g))
    ])

view_refused-by : (w : World) (last set stopped : List ℕ) → last_view w.views ≡ last → ((n : ℕ) → has n last ≡ true → (node w n).stopped ≡ has n stopped) → view_refused w set ≡ or_else (where_true (is_empty set) Empty) (or_else (option_map NotMember (find (λ n. not (has n last)) set)) (option_map NotStopped (find (λ n. not (has n (join set stopped))) last)))
unfolding view_refused
view_refused-by w last set stopped is h = rw (is, strangers last set, running w set stopped last h) refl

is_empty-not : (set : List ℕ) → (set ≡ [] → false ≡ true) → is_empty set ≡ false
unfolding is_empty
is_empty-not [] h = let no : false ≡ true = h refl in absurd cc
is_empty-not (n ∷ ns) h = refl

module _ (w : World) (last set stopped : List ℕ) (is : last_view w.views ≡ last) (h : (n : ℕ) → has n last ≡ true → (node w n).stopped ≡ has n stopped) where
  pub refused-empty : set ≡ [] → Some Empty ≡ view_refused w set
  unfolding is_empty where_true or_else
  refused-empty none = sym (view_refused-by w last set stopped is h ∙ rw none refl)

  pub refused-stranger : (n : ℕ) → (set ≡ [] → false ≡ true) → Some n ≡ find (λ n. not (has n last)) set → Some (NotMember n) ≡ view_refused w set
  unfolding where_true or_else
  refused-stranger n some found = sym (view_refused-by w last set stopped is h ∙ rw (is_empty-not set some, ← found) refl)

  pub refused-running : (n : ℕ) → (set ≡ [] → false ≡ true) → None ≡ find (λ n. not (has n last)) set → Some n ≡ find (λ n. not (has n (join set stopped))) last → Some (NotStopped n) ≡ view_refused w set
  unfolding where_true or_else
  refused-running n some known found =
      sym (view_refused-by w last set stopped is h ∙ rw (is_empty-not set some, ← known, ← found) refl)

  pub refused-none : (set ≡ [] → false ≡ true) → None ≡ find (λ n. not (has n last)) set → None ≡ find (λ n. not (has n (join set stopped))) last → None ≡ view_refused w set
  unfolding where_true or_else
  refused-none some known left =
      sym (view_refused-by w last set stopped is h ∙ rw (is_empty-not set some, ← known, ← left) refl)

-- ---- what a view does

-- if a view is refused, then its step answers the refusal and makes no view
pub view-refused : (w : World) (set : List ℕ) (m : Made) → Some m ≡ view_refused w set → happens w (ViewStep set) ≡ refuse_step w (ViewAnswer m)
unfolding happens view_or_not
view-refused w set m e = rw (← e) refl

-- if a view is not refused, then its step makes it
pub view-made : (w : World) (set : List ℕ) → None ≡ view_refused w set → happens w (ViewStep set) ≡ view_or_not w set None
unfolding happens
view-made w set e = rw (← e) refl

-- the step that makes a view answers its number
pub made_answer : (w : World) (set : List ℕ) → (view_or_not w set None).answer ≡ ViewAnswer (Installed (length w.views + 1))
unfolding view_or_not
made_answer w set = refl

-- the step that makes a view puts it behind the views
pub made_views : (w : World) (set : List ℕ) → (view_or_not w set None).world.views ≡ w.views ++ set ∷ []
unfolding view_or_not
made_views w set = refl

-- ---- what a world with these views knows

-- if the world has the views made, then its last view is the last one of these
pub last-known : (w : World) (made : List (List ℕ)) (stopped last : List ℕ) → IsWorldWith w made stopped → last ≡ last_view made → last_view w.views ≡ last
last-known w made stopped last is e = rw (is.views, e) refl

-- if the world has the views and stops made, then a node of the last view has stopped just if its stop was made
pub stops-known : (w : World) (made : List (List ℕ)) (stopped last : List ℕ) → IsWorldWith w made stopped → last ≡ last_view made → (n : ℕ) → has n last ≡ true → (node w n).stopped ≡ has n stopped
stops-known w made stopped last is e = λ n h. is.stops n (rw e at h)

-- if the world has the views made and a view is refused, then the step leaves these views
pub refused_views-known : (w : World) (made : List (List ℕ)) (stopped set : List ℕ) (m : Made) → IsWorldWith w made stopped → Some m ≡ view_refused w set → made ≡ (happens w (ViewStep set)).world.views
refused_views-known w made stopped set m is e = rw (view-refused w set m e) (sym is.views)

-- if the world has the views made and a view is not refused, then its step answers the count with it
pub made_answer-known : (w : World) (made : List (List ℕ)) (stopped set : List ℕ) (count : ℕ) → IsWorldWith w made stopped → None ≡ view_refused w set → count ≡ length (made ++ set ∷ []) → ViewAnswer (Installed count) ≡ (happens w (ViewStep set)).answer
made_answer-known w made stopped set count is none e =
    let more : count ≡ length w.views + 1 = rw (e, is.views) (length_push made set) in
    rw (view-made w set none, made_answer w set, more) refl

-- if the world has the views made and a view is not refused, then its step puts it behind them
pub made_views-known : (w : World) (made : List (List ℕ)) (stopped set : List ℕ) → IsWorldWith w made stopped → None ≡ view_refused w set → made ++ set ∷ [] ≡ (happens w (ViewStep set)).world.views
made_views-known w made stopped set is none = rw (view-made w set none, made_views w set, is.views) refl
