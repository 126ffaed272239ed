-- What the holds are after a slot holds each of a list of objects once more, or each is held once less.
use Rattle.std.specs.Prelude.{ℕ, zero, suc, ◌≡◌, ◌≢◌, ◌+◌, ◌≤◌, replicate, true, false, ◌||◌, ◌&&◌, ◌==◌, List, [], ◌∷◌, ◌++◌, Option, Some, None, if◌then◌else◌, refl}
use Rattle.std.proofs.Common.{arith, sym, ap, ◌∙◌, inl, inr}
use Rattle.std.proofs.lemmas.Bool.{cases_Bool, cases_eq, eqb-false, eqb-true}
use Rattle.zeus_base.specs.TableLaws.{nth-put_other, nth-put_same}
use Rattle.zeus_txn.specs.Ops.{mentions}
use Rattle.zeus_txn.specs.RunLaws.{AreDistinct}
use Rattle.zeus_model.specs.declared.state.Pending.{Pending}
use Rattle.zeus_model.specs.Tables.{nth, put}
use Rattle.object_table.specs.declared.hold.Hold.{Hold}
use Rattle.object_table.specs.Entries.{AreNamed, naming}
use Rattle.object_table.specs.Holding.{IsFreeFor, IsPositive, held_times}
use Rattle.object_table.specs.HoldLaws.{held_times-beside, held_times-held, held_times-unheld, hold_slot-held, positive-held, positive-unheld}
use Rattle.object_table.specs.Table.{each_held, each_unheld, held, hold_count, hold_slot, unheld}

module _ (f : Option Hold → Option Hold) where
  -- the holds after each of the objects has changed its own
  unfoldable each_changed : List (Option Hold) → List ℕ → List (Option Hold)
  each_changed holds [] = holds
  each_changed holds (x ∷ xs) = each_changed (put None holds x (f (nth None holds x))) xs

  changed-other : (holds : List (Option Hold)) (xs : List ℕ) (x : ℕ) → mentions x xs ≡ false → nth None (each_changed holds xs) x ≡ nth None holds x
  unfolding each_changed mentions
  changed-other holds [] x h = refl
  changed-other holds (y ∷ ys) x h =
      elim (x == y) as (λ b. (x == y) ≡ b → (b || mentions x ys) ≡ false → nth None (each_changed (put None holds y (f (nth None holds y))) ys) x ≡ nth None holds x) [
        | true ↦ λ _ e. absurd cc
        | false ↦ λ apart e.
            changed-other (put None holds y (f (nth None holds y))) ys x e
            ∙ nth-put_other None holds y x (f (nth None holds y)) (λ same. eqb-false x y apart (sym same))
      ] refl h

  changed-once : (holds : List (Option Hold)) (xs : List ℕ) (x : ℕ) → AreDistinct xs → mentions x xs ≡ true → nth None (each_changed holds xs) x ≡ f (nth None holds x)
  unfolding each_changed mentions AreDistinct
  changed-once holds [] x d h = absurd cc
  changed-once holds (y ∷ ys) x d h =
      elim (x == y) as (λ b. (x == y) ≡ b → (b || mentions x ys) ≡ true → nth None (each_changed (put None holds y (f (nth None holds y))) ys) x ≡ f (nth None holds x)) [
        | true ↦ λ is _.
            let same : x ≡ y = eqb-true x y is in
            rw same
            (changed-other (put None holds y (f (nth None holds y))) ys y d.0
            ∙ nth-put_same None holds y (f (nth None holds y)))
        | false ↦ λ apart e.
            changed-once (put None holds y (f (nth None holds y))) ys x d.1 e
            ∙ ap f (nth-put_other None holds y x (f (nth None holds y)) (λ same. eqb-false x y apart (sym same)))
      ] refl h

  -- what is true of each hold, and goes on to be where one changes
  changed-all : (P : Option Hold → Type 0) → ((h : Option Hold) → P h → P (f h)) → (holds : List (Option Hold)) (xs : List ℕ) → ((x : ℕ) → P (nth None holds x)) → (x : ℕ) → P (nth None (each_changed holds xs) x)
  unfolding each_changed
  changed-all P kept holds [] all = all
  changed-all P kept holds (y ∷ ys) all =
      changed-all P kept (put None holds y (f (nth None holds y))) ys
      (λ x. elim (cases_eq y x) [
        | inl same ↦ rw (← same, nth-put_same None holds y (f (nth None holds y))) (kept (nth None holds y) (all y))
        | inr other ↦ rw (nth-put_other None holds y x (f (nth None holds y)) other) (all x)
      ])

held-changed : (s : ℕ) (holds : List (Option Hold)) (xs : List ℕ) → each_held s holds xs ≡ each_changed (λ h. Some (held s h)) holds xs
unfolding each_held each_changed
held-changed s holds [] = refl
held-changed s holds (x ∷ xs) = held-changed s (put None holds x (Some (held s (nth None holds x)))) xs

unheld-changed : (holds : List (Option Hold)) (xs : List ℕ) → each_unheld holds xs ≡ each_changed unheld holds xs
unfolding each_unheld each_changed
unheld-changed holds [] = refl
unheld-changed holds (x ∷ xs) = unheld-changed (put None holds x (unheld (nth None holds x))) xs

-- any other object is held as before
pub held-other : (s : ℕ) (holds : List (Option Hold)) (xs : List ℕ) (x : ℕ) → mentions x xs ≡ false → nth None (each_held s holds xs) x ≡ nth None holds x
held-other s holds xs x h = rw (held-changed s holds xs) (changed-other (λ o. Some (held s o)) holds xs x h)

-- letting go of objects leaves the hold of each other object
pub unheld-other : (holds : List (Option Hold)) (xs : List ℕ) (x : ℕ) → mentions x xs ≡ false → nth None (each_unheld holds xs) x ≡ nth None holds x
unheld-other holds xs x h = rw (unheld-changed holds xs) (changed-other unheld holds xs x h)

-- each of them is held once more, or once less, where none stands twice
pub held-once : (s : ℕ) (holds : List (Option Hold)) (xs : List ℕ) (x : ℕ) → AreDistinct xs → mentions x xs ≡ true → nth None (each_held s holds xs) x ≡ Some (held s (nth None holds x))
held-once s holds xs x d h = rw (held-changed s holds xs) (changed-once (λ o. Some (held s o)) holds xs x d h)

-- letting go of distinct objects lets go of each of them once
pub unheld-once : (holds : List (Option Hold)) (xs : List ℕ) (x : ℕ) → AreDistinct xs → mentions x xs ≡ true → nth None (each_unheld holds xs) x ≡ unheld (nth None holds x)
unheld-once holds xs x d h = rw (unheld-changed holds xs) (changed-once unheld holds xs x d h)

-- what is held is held at least once
pub positive-each_held : (s : ℕ) (holds : List (Option Hold)) (xs : List ℕ) → ((x : ℕ) → IsPositive (nth None holds x)) → (x : ℕ) → IsPositive (nth None (each_held s holds xs) x)
positive-each_held s holds xs all =
    rw (held-changed s holds xs) (changed-all (λ o. Some (held s o)) IsPositive (λ o _. positive-held s o) holds xs all)

-- if each hold counts at least one, then so does each that is left after objects are let go
pub positive-each_unheld : (holds : List (Option Hold)) (xs : List ℕ) → ((x : ℕ) → IsPositive (nth None holds x)) → (x : ℕ) → IsPositive (nth None (each_unheld holds xs) x)
positive-each_unheld holds xs all =
    rw (unheld-changed holds xs) (changed-all unheld IsPositive positive-unheld holds xs all)

-- some objects are held once less, then others
pub unheld-nil : (holds : List (Option Hold)) → each_unheld holds [] ≡ holds
unfolding each_unheld
unheld-nil holds = refl

-- letting go of two lists of objects in turn is letting go of both in one
pub unheld-append : (holds : List (Option Hold)) (xs ys : List ℕ) → each_unheld holds (xs ++ ys) ≡ each_unheld (each_unheld holds xs) ys
unfolding each_unheld
unheld-append holds [] ys = refl
unheld-append holds (x ∷ xs) ys = unheld-append (put None holds x (unheld (nth None holds x))) xs ys

-- the slot holds each of them once more, and any other object as before
pub held_times-each_held : (s t : ℕ) (holds : List (Option Hold)) (xs : List ℕ) (x : ℕ) → AreDistinct xs → (mentions x xs ≡ true → IsFreeFor s (nth None holds x)) → held_times t (nth None (each_held s holds xs) x) ≡ (if mentions x xs && (s == t) then 1 else 0) + held_times t (nth None holds x)
held_times-each_held s t holds xs x d free =
    elim (cases_Bool (mentions x xs)) [
      | inl is ↦
          rw (is, held-once s holds xs x d is) (held_times-held s t (nth None holds x) (free is))
      | inr not_it ↦ rw (not_it, held-other s holds xs x not_it) (omega arith)
    ]

-- its entry has passed: the slot holds as often what the other entries name
pub held_times-passed : (s : ℕ) (holds : List (Option Hold)) (xs : List ℕ) (x k : ℕ) → AreDistinct xs → (if mentions x xs then 1 else 0) + k ≡ held_times s (nth None holds x) → k ≡ held_times s (nth None (each_unheld holds xs) x)
held_times-passed s holds xs x k d e =
    elim (cases_Bool (mentions x xs)) [
      | inl is ↦ rw (unheld-once holds xs x d is) (held_times-unheld s (nth None holds x) k (rw is at e))
      | inr not_it ↦
          let same : 0 + k ≡ held_times s (nth None holds x) = rw not_it at e in
          rw (unheld-other holds xs x not_it) (omega arith)
    ]

-- and another slot what it held
pub held_times-passed_beside : (s t : ℕ) (holds : List (Option Hold)) (xs : List ℕ) (x k : ℕ) → t ≢ s → AreDistinct xs → (if mentions x xs then 1 else 0) + k ≡ held_times s (nth None holds x) → held_times t (nth None (each_unheld holds xs) x) ≡ held_times t (nth None holds x)
held_times-passed_beside s t holds xs x k other d e =
    elim (cases_Bool (mentions x xs)) [
      | inl is ↦ rw (unheld-once holds xs x d is) (held_times-beside s t (nth None holds x) k other (rw is at e))
      | inr not_it ↦ ap (held_times t) (unheld-other holds xs x not_it)
    ]

-- one entry more
pub naming-push : (x : ℕ) (ps : List Pending) (p : Pending) → naming x (ps ++ p ∷ []) ≡ (if mentions x p.named then 1 else 0) + naming x ps
unfolding naming
naming-push x [] p = refl
naming-push x (q ∷ qs) p = let rest = naming-push x qs p in omega arith

-- if a new entry names the object, then one entry more names it
pub naming-more : (x : ℕ) (ps : List Pending) (p : Pending) → mentions x p.named ≡ true → naming x (ps ++ p ∷ []) ≡ naming x ps + 1
naming-more x ps p h = let push = rw h at (naming-push x ps p) in omega arith

-- if a new entry does not name the object, then as many entries name it as before
pub naming-same : (x : ℕ) (ps : List Pending) (p : Pending) → mentions x p.named ≡ false → naming x (ps ++ p ∷ []) ≡ naming x ps
naming-same x ps p h = let push = rw h at (naming-push x ps p) in omega arith

-- what one slot holds leaves how often another one holds
pub named-beside : (s t : ℕ) (holds : List (Option Hold)) (y : ℕ) (ps : List Pending) → t ≢ s → AreNamed t holds ps → AreNamed t (put None holds y (Some (held s (nth None holds y)))) ps
named-beside s t holds y ps other counts = λ x here.
    elim (x == y) as (λ b. (x == y) ≡ b → hold_count (nth None (put None holds y (Some (held s (nth None holds y)))) x) ≤ naming x ps) [
      | true ↦ λ is.
          let same : x ≡ y = eqb-true x y is in
          let at : nth None (put None holds y (Some (held s (nth None holds y)))) x ≡ Some (held s (nth None holds y)) =
          rw same (nth-put_same None holds y (Some (held s (nth None holds y))))
          in
          let both : Some s ≡ Some t = sym (hold_slot-held s (nth None holds y)) ∙ ap hold_slot (sym at) ∙ here in
          let equal : t ≡ s = cc in
          absurd (other equal)
      | false ↦ λ apart.
          let at = nth-put_other None holds y x (Some (held s (nth None holds y))) (λ same. eqb-false x y apart (sym same)) in
          rw at (counts x (rw at at here))
    ] refl

-- if a slot holds more objects, then each other slot still holds none more often than its entries name it
pub named-others : (s t : ℕ) (xs : List ℕ) (holds : List (Option Hold)) (ps : List Pending) → t ≢ s → AreNamed t holds ps → AreNamed t (each_held s holds xs) ps
unfolding each_held
named-others s t [] holds ps other counts = counts
named-others s t (x ∷ xs) holds ps other counts =
    named-others s t xs (put None holds x (Some (held s (nth None holds x)))) ps other (named-beside s t holds x ps other counts)

free_at : (s k x : ℕ) → hold_slot (nth None (replicate k None) x) ≡ Some s → ⊥
unfolding hold_slot nth
free_at s zero x e = cc
free_at s (suc k) zero e = cc
free_at s (suc k) (suc x) e = free_at s k x e

-- no slot holds an object of a free table
pub named-free : (s k : ℕ) (ps : List Pending) → AreNamed s (replicate k None) ps
named-free s k ps = λ x here. absurd (free_at s k x here)
