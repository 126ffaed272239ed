-- What a node that may commit has: it owns what the transaction names, and no other slot holds it.
use Rattle.std.specs.Prelude.{ℕ, suc, ◌≡◌, ◌==◌, ◌<◌, Bool, true, false, not, List, [], ◌∷◌, length, Option, Some, None, ◌⊎◌}
use Rattle.std.proofs.Common.{arith, refl, ap, ◌∙◌, inl, inr}
use Rattle.std.proofs.lemmas.Bool.{cases_Bool, eqb-true}
use Rattle.zeus_txn.specs.Ops.{mentions, named}
use Rattle.zeus_txn.specs.declared.ops.Op.{Op}
use Rattle.zeus_model.specs.Tables.{nth, or_else, where_true, first_of}
use Rattle.zeus_model.specs.State.{Node, slot, owns, holder, pending_names}
use Rattle.zeus_model.specs.Commit.{no_pending}
use Rattle.zeus_model.specs.Local.{write_cause, owner_cause, holder_cause, held_elsewhere}
use Rattle.zeus_model.specs.declared.state.Pending.{Pending}
use Rattle.machine_moves.proofs.Causes.{or_else-none, where_true-none}

first_of-each : {A : Type 0} (f : ℕ → Option A) (xs : List ℕ) (x : ℕ) → first_of f xs ≡ None → mentions x xs ≡ true → f x ≡ None
unfolding first_of mentions
first_of-each f [] x h m = absurd cc
first_of-each f (y ∷ ys) x h m =
    let parts = or_else-none (f y) (first_of f ys) h in
    elim (cases_Bool (x == y)) [
      | inl same ↦ ap f (eqb-true x y same) ∙ parts.0
      | inr other ↦ first_of-each f ys x parts.1 (rw other at m)
    ]

not-false : (b : Bool) → not b ≡ false → b ≡ true
not-false true h = refl
not-false false h = absurd cc

-- the node owns each object
pub cause-owns : (n : Node) (s x : ℕ) (tx : List Op) → write_cause n s tx ≡ None → mentions x (named tx) ≡ true → owns n x ≡ true
unfolding write_cause owner_cause
cause-owns n s x tx h m =
    let first = or_else-none _ _ h in
    let second = or_else-none _ _ first.1 in
    not-false (owns n x) (where_true-none _ _ (first_of-each _ (named tx) x second.0 m))

held-cases : (s x : ℕ) (o : Option ℕ) → held_elsewhere s x o ≡ None → (o ≡ None) ⊎ (o ≡ Some s)
unfolding held_elsewhere
held-cases s x None h = inl refl
held-cases s x (Some other) h = inr (ap (λ (k : ℕ). Some k) (eqb-true other s (not-false (other == s) (where_true-none _ _ h))))

-- no slot holds it, or this one does
pub cause-held : (n : Node) (s x : ℕ) (tx : List Op) → write_cause n s tx ≡ None → mentions x (named tx) ≡ true → (holder n x ≡ None) ⊎ (holder n x ≡ Some s)
unfolding write_cause holder_cause
cause-held n s x tx h m =
    let first = or_else-none _ _ h in
    let second = or_else-none _ _ first.1 in
    let third = or_else-none _ _ second.1 in
    held-cases s x (holder n x) (first_of-each (λ k. held_elsewhere s k (holder n k)) (named tx) x third.0 m)

first_of-found : (f : ℕ → Bool) (xs : List ℕ) (o : ℕ) → first_of (λ k. where_true (f k) k) xs ≡ Some o → f o ≡ true
unfolding first_of where_true or_else
first_of-found f [] o h = absurd cc
first_of-found f (x ∷ xs) o h = elim (cases_Bool (f x)) [
  | inl yes_it ↦
      let got : Some x ≡ Some o = rw yes_it at h in
      let same : x ≡ o = some_same x o got in
      rw (← same) yes_it
  | inr other ↦ first_of-found f xs o (rw other at h)
]
  where
    some_same : (a b : ℕ) → ◌≡◌ {A = Option ℕ} (Some a) (Some b) → a ≡ b
    some_same a b e = cc

names-in : (x : ℕ) (ps : List Pending) → pending_names x ps ≡ true → (i : ℕ) × (i < length ps) × (mentions x (nth no_pending ps i).named ≡ true)
unfolding pending_names nth
names-in x [] h = absurd cc
names-in x (p ∷ ps) h = elim (cases_Bool (mentions x p.named)) [
  | inl here ↦ (0, omega arith, here)
  | inr other ↦ let rest = names-in x ps (rw other at h) in (suc rest.0, omega (arith, rest.1), rest.2)
]

-- the slot that holds an object has a pending entry that names it
pub holder-names : (n : Node) (x s : ℕ) → holder n x ≡ Some s → (i : ℕ) × (i < length (slot n s).pending) × (mentions x (nth no_pending (slot n s).pending i).named ≡ true)
unfolding holder
holder-names n x s h = names-in x (slot n s).pending (first_of-found (λ k. pending_names x (slot n k).pending) _ s h)
