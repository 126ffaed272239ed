-- The table of holds says which slot holds an object.
use Rattle.std.specs.Prelude.{ℕ, zero, suc, ◌≡◌, ◌≢◌, ◌+◌, ◌≤◌, ◌<◌, Bool, true, false, List, [], ◌∷◌, length, Option, Some, None, refl}
use Rattle.std.proofs.Common.{arith, ◌∙◌, inl, inr}
use Rattle.std.proofs.lemmas.Bool.{cases_eq, cases_order}
use Rattle.std.proofs.lemmas.Bool.Decides.{nat_tests}
use Rattle.zeus_base.specs.TableLaws.{nth-past}
use Rattle.zeus_model.specs.declared.state.Pending.{Pending}
use Rattle.zeus_model.specs.State.{Node, Slot, holder, no_slot, pending_names, slot}
use Rattle.zeus_model.specs.Tables.{below, first_of, nth, numbers_from, or_else, where_true}
use Rattle.object_table.specs.declared.hold.Hold.{Hold}
use Rattle.object_table.specs.Entries.{AreNamed, naming}
use Rattle.object_table.specs.Holding.{AreHeld, IsPositive, held_times}
use Rattle.object_table.specs.Table.{hold_count, hold_slot}

held_times-all : (s : ℕ) (o : Option Hold) → hold_slot o ≡ Some s → hold_count o ≤ held_times s o
unfolding hold_slot hold_count held_times
held_times-all s None e = absurd cc
held_times-all s (Some o) e = let same : o.slot ≡ s = cc in grind (arith, nat_tests)

-- the holds of a slot are named by its pending entries
pub AreNamed-held : (n : Node) (s : ℕ) (holds : List (Option Hold)) → AreHeld n holds → AreNamed s holds (slot n s).pending
AreNamed-held n s holds h = λ x here. rw (h.counts s x) (held_times-all s (nth None holds x) here)

-- an entry names the object where the count of those that do is not 0
names-some : (x : ℕ) (ps : List Pending) → 1 ≤ naming x ps → pending_names x ps ≡ true
unfolding naming pending_names
names-some x [] h = absurd (omega arith)
names-some x (p ∷ ps) h = grind (arith, nat_tests, names-some x ps)

names-none : (x : ℕ) (ps : List Pending) → naming x ps ≡ 0 → pending_names x ps ≡ false
unfolding naming pending_names
names-none x [] h = refl
names-none x (p ∷ ps) h = grind (arith, nat_tests, names-none x ps)

first-none : (f : ℕ → Bool) (xs : List ℕ) → ((s : ℕ) → f s ≡ false) → first_of (λ s. where_true (f s) s) xs ≡ None
unfolding first_of where_true or_else
first-none f [] none = refl
first-none f (x ∷ xs) none = rw (none x) (first-none f xs none)

first-only : (f : ℕ → Bool) (s i k : ℕ) → f s ≡ true → ((t : ℕ) → s ≢ t → f t ≡ false) → i ≤ s → s < i + k → first_of (λ t. where_true (f t) t) (numbers_from i k) ≡ Some s
unfolding first_of where_true or_else numbers_from
first-only f s i zero here others low high = absurd (omega arith)
first-only f s i (suc k) here others low high =
    elim (cases_eq s i) [
      | inl same ↦ rw (← same, here) refl
      | inr other ↦ rw (others i other) (first-only f s (suc i) k here others (omega arith) (omega arith))
    ]

-- a slot that has an entry is one that there is
there_is : (slots : List Slot) (s x : ℕ) → 1 ≤ naming x (nth no_slot slots s).pending → s < length slots
unfolding naming
there_is slots s x h =
    elim (cases_order s (length slots)) [
      | inl at_end ↦ past (omega arith)
      | inr (inl low) ↦ low
      | inr (inr above) ↦ past (omega arith)
    ]
  where
    past : length slots ≤ s → s < length slots
    past far = let none : 1 ≤ 0 = rw (nth-past no_slot slots s far) at h in absurd (omega arith)

held_times-some : (o : Hold) → 1 ≤ o.count → 1 ≤ held_times o.slot (Some o)
unfolding held_times
held_times-some o h = grind (arith, nat_tests)

held_times-other : (t : ℕ) (o : Hold) → o.slot ≢ t → held_times t (Some o) ≡ 0
unfolding held_times
held_times-other t o other = grind (arith, nat_tests)

found-by : (n : Node) (x : ℕ) (o : Option Hold) → ((s : ℕ) → naming x (slot n s).pending ≡ held_times s o) → IsPositive o → first_of (λ s. where_true (pending_names x (slot n s).pending) s) (below (length n.slots)) ≡ hold_slot o
unfolding held_times IsPositive hold_slot
found-by n x None counts positive =
    first-none (λ s. pending_names x (slot n s).pending) (below (length n.slots)) (λ s. names-none x (slot n s).pending (counts s))
found-by n x (Some o) counts positive =
    let some : 1 ≤ naming x (slot n o.slot).pending = rw (counts o.slot) (held_times-some o positive) in
    let low = there_is n.slots o.slot x some in
    first-only (λ s. pending_names x (slot n s).pending) o.slot 0 (length n.slots) (names-some x (slot n o.slot).pending some)
    (λ t other. names-none x (slot n t).pending (counts t ∙ held_times-other t o other)) (omega arith) (omega arith)

-- an object is held by the slot that the table of holds names
pub holder-held : (n : Node) (holds : List (Option Hold)) (x : ℕ) → AreHeld n holds → holder n x ≡ hold_slot (nth None holds x)
unfolding holder
holder-held n holds x h = found-by n x (nth None holds x) (λ s. h.counts s x) (h.positive x)
