-- The history is in the order in which things happened.
use Rattle.std.specs.Prelude.{ℕ, suc, ◌≡◌, ◌≢◌, ◌<◌, ◌≤◌, ◌==◌, List, [], ◌∷◌, ◌++◌, Option, Some, slice_get, ◌⊎◌}
use Rattle.std.proofs.Common.{arith, refl, ap, sym, ◌∙◌, inl, inr, subst}
use Rattle.std.proofs.lemmas.Bool.{cases_Bool, eqb-true, ne_eqb}
use Rattle.zeus_base.specs.declared.step.Step.{Step}
use Rattle.zeus_model.specs.In.{In, here, there}
use Rattle.zeus_model.specs.Book.{Point, record_of}
use Rattle.zeus_model.specs.Sound.{IsOneHistory, times}
use Rattle.zeus_model.specs.World.{World, Event, events, run}
use Rattle.zeus_model.specs.InLaws.{In-append}
use Rattle.invariants.proofs.ObjectSeen.{same_or_not}
use Rattle.soundness.specs.History.{StandsBefore, first, later, IsInOrder}
use Rattle.soundness.specs.Telling.{IsTold, ids_of, told_points}
use Rattle.soundness.proofs.BookPasses.{HasReplies}

-- ---- one before the other

-- of two that stand in a history, one stands before the other
either_first : (a b : ℕ) (ps : List Point) → a ≢ b → 1 ≤ times a ps → 1 ≤ times b ps → StandsBefore a b ps ⊎ StandsBefore b a ps
unfolding times
either_first a b [] other h g = absurd (omega arith)
either_first a b (p ∷ ps) other h g = elim (same_or_not p.id a) [
  | inl is ↦ inl (first p ps is (times-rest b p ps (λ e. other (sym is ∙ e)) g))
  | inr is_not ↦ elim (same_or_not p.id b) [
    | inl is ↦ inr (first p ps is (times-rest a p ps is_not h))
    | inr neither ↦ elim (either_first a b ps other (times-rest a p ps is_not h) (times-rest b p ps neither g)) [
      | inl before ↦ inl (later p ps before)
      | inr after ↦ inr (later p ps after)
    ]
  ]
]
  where
    times-rest : (c : ℕ) (q : Point) (qs : List Point) → q.id ≢ c → 1 ≤ times c (q ∷ qs) → 1 ≤ times c qs
    times-rest c q qs ne h = rw (ne_eqb q.id c ne) at h

-- the one before the other in a list of transactions
data Before (a b : ℕ) : List ℕ → Type 0 where
  now : (ks : List ℕ) → In b ks → Before a b (a ∷ ks)
  next : (k : ℕ) (ks : List ℕ) → Before a b ks → Before a b (k ∷ ks)

times-In : (id : ℕ) (ps : List Point) → 1 ≤ times id ps → In id (ids_of ps)
unfolding times ids_of
times-In id [] h = absurd (omega arith)
times-In id (p ∷ ps) h = elim (cases_Bool (p.id == id)) [
  | inl same ↦ here p.id (ids_of ps) (sym (eqb-true p.id id same))
  | inr other ↦ there p.id (ids_of ps) (times-In id ps (rw other at h))
]

stands-before : (a b : ℕ) (ps : List Point) → StandsBefore a b ps → Before a b (ids_of ps)
unfolding ids_of
stands-before a b [] h = elim h [ ]
stands-before a b (p ∷ ps) (first _ _ is more) = rw is (now (ids_of ps) (times-In b ps more))
stands-before a b (p ∷ ps) (later _ _ h) = next p.id (ids_of ps) (stands-before a b ps h)

-- in a list that is joined of two
Before-append : (a b : ℕ) (js ks : List ℕ) → Before a b (js ++ ks) → (In a js × (In b js ⊎ In b ks)) ⊎ Before a b ks
Before-append a b [] ks h = inr h
Before-append a b (j ∷ js) ks (now _ i) = inl (here a js refl, elim (In-append b js ks i) [ inl left ↦ inl (there a js left) | inr right ↦ inr right ])
Before-append a b (j ∷ js) ks (next _ _ h) = elim (Before-append a b js ks h) [
  | inl both ↦ inl (there j js both.0, elim both.1 [ inl left ↦ inl (there j js left) | inr right ↦ inr right ])
  | inr right ↦ inr right
]

-- ---- in the order of the steps

-- a step that tells it
abbrev TellsAt : List Event → ℕ → ℕ → Type 0
TellsAt es k id = (e : Event) × (slice_get es k ≡ Some e) × In id e.points

told_somewhere : (id : ℕ) (es : List Event) → In id (told_points es) → (k : ℕ) × TellsAt es k id
unfolding told_points
told_somewhere id [] i = elim i [ ]
told_somewhere id (e ∷ es) i = elim (In-append id e.points (told_points es) i) [
  | inl early ↦ (0, (e, refl, early))
  | inr late ↦ let more = told_somewhere id es late in (suc more.0, more.1)
]

in_steps : (a b : ℕ) (es : List Event) → Before a b (told_points es) → (k : ℕ) × (l : ℕ) × (k ≤ l) × TellsAt es k a × TellsAt es l b
unfolding told_points
in_steps a b [] h = elim h [ ]
in_steps a b (e ∷ es) h = elim (Before-append a b e.points (told_points es) h) [
  | inl both ↦ elim both.1 [
    | inl early ↦ (0, 0, omega arith, (e, refl, both.0), (e, refl, early))
    | inr late ↦ let more = told_somewhere b es late in (0, suc more.0, omega arith, (e, refl, both.0), more.1)
  ]
  | inr late ↦ let more = in_steps a b es late in (suc more.0, suc more.1, let le = more.2 in omega arith, more.3, more.4)
]

some_same : (o : Option ℕ) (a b : ℕ) → o ≡ Some a → o ≡ Some b → a ≡ b
some_same o a b e f = cc

module _ (w : World) (steps : List Step) (t : IsTold w steps) (one : IsOneHistory (run w steps)) (r : HasReplies (run w steps).book) where
  in_order : (a b s l : ℕ) → StandsBefore a b (run w steps).book.points → (record_of (run w steps).book a).point ≡ Some s → (record_of (run w steps).book b).point ≡ Some l → s ≤ l
  in_order a b s l h early late =
      let before : Before a b (told_points (events w steps)) = subst (λ (ks : List ℕ). Before a b ks) t.points (stands-before a b (run w steps).book.points h) in
      let at = in_steps a b (events w steps) before in
      let one_step : s ≡ at.0 = some_same (record_of (run w steps).book a).point s at.0 early ((t.point a at.0).1 at.3) in
      let other_step : l ≡ at.1 = some_same (record_of (run w steps).book b).point l at.1 late ((t.point b at.1).1 at.4) in
      let le = at.2 in
      omega arith

  real_time : (a b acked begun : ℕ) → (record_of (run w steps).book a).acked ≡ Some acked → (record_of (run w steps).book b).begun ≡ Some begun → acked < begun
      → 1 ≤ times b (run w steps).book.points → StandsBefore a b (run w steps).book.points
  real_time a b acked begun ended started less there_b =
      let book = (run w steps).book in
      let there_a : 1 ≤ times a book.points = one.complete a (rw ended refl) in
      let place_a = one.placed a there_a in
      let place_b = one.placed b there_b in
      let point_a = place_a.begun in
      let point_b = place_b.begun in
      let low : point_a.0 ≤ acked = place_a.acked point_a.0 acked point_a.2 ended in
      let same : point_b.1 ≡ begun = some_same (record_of book b).begun point_b.1 begun point_b.3 started in
      let high : begun ≤ point_b.0 = let le = point_b.4 in omega arith in
      let apart : a ≢ b = λ e.
      let both : point_a.0 ≡ point_b.0 = some_same (record_of book a).point point_a.0 point_b.0 point_a.2 (ap (λ (i : ℕ). (record_of book i).point) e ∙ point_b.2) in
      omega arith in
      elim (either_first a b book.points apart there_a there_b) [
        | inl before ↦ before
        | inr after ↦ absurd (let wrong : point_b.0 ≤ point_a.0 = in_order b a point_b.0 point_a.0 after point_b.2 point_a.2 in omega arith)
      ]

  pub is_in_order : IsInOrder (run w steps)
  is_in_order = record { in_order = in_order; real_time = real_time; replies = r.points }
