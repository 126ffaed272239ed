-- What single holds come to.
use Rattle.std.specs.Prelude.{ℕ, ◌≡◌, ◌≢◌, ◌+◌, ◌==◌, Option, Some, None, if◌then◌else◌, refl}
use Rattle.std.proofs.Common.{arith}
use Rattle.std.proofs.lemmas.Bool.Decides.{nat_tests}
use Rattle.object_table.specs.declared.hold.Hold.{Hold}
use Rattle.object_table.specs.Holding.{IsFreeFor, IsPositive, held_times}
use Rattle.object_table.specs.Table.{hold_count, hold_slot, held, unheld}

-- an object is held by who held it last, once more than before
pub hold_slot-held : (s : ℕ) (h : Option Hold) → hold_slot (Some (held s h)) ≡ Some s
unfolding hold_slot held
hold_slot-held s None = refl
hold_slot-held s (Some h) = refl

-- an object that is held once more is held one time more
pub hold_count-held : (s : ℕ) (h : Option Hold) → hold_count (Some (held s h)) ≡ hold_count h + 1
unfolding hold_count held
hold_count-held s None = refl
hold_count-held s (Some h) = refl

-- ---- by slot

-- held once more by its slot, and by no other one
pub held_times-held : (s t : ℕ) (h : Option Hold) → IsFreeFor s h → held_times t (Some (held s h)) ≡ (if s == t then 1 else 0) + held_times t h
unfolding held_times held IsFreeFor
held_times-held s t None free = grind (arith, nat_tests)
held_times-held s t (Some h) free = grind (arith, nat_tests)

-- held once less by its slot
pub held_times-unheld : (s : ℕ) (h : Option Hold) (k : ℕ) → 1 + k ≡ held_times s h → k ≡ held_times s (unheld h)
unfolding held_times unheld
held_times-unheld s None k e = absurd (omega arith)
held_times-unheld s (Some h) k e = grind (arith, nat_tests)

-- and by no other one, as before
pub held_times-beside : (s t : ℕ) (h : Option Hold) (k : ℕ) → t ≢ s → 1 + k ≡ held_times s h → held_times t (unheld h) ≡ held_times t h
unfolding held_times unheld
held_times-beside s t None k other e = refl
held_times-beside s t (Some h) k other e = grind (arith, nat_tests)

-- what is held is held at least once, also then
pub positive-held : (s : ℕ) (h : Option Hold) → IsPositive (Some (held s h))
unfolding IsPositive held
positive-held s None = omega arith
positive-held s (Some h) = omega arith

-- if a hold counts at least one, then so does what is left of it when it is let go once
pub positive-unheld : (h : Option Hold) → IsPositive h → IsPositive (unheld h)
unfolding IsPositive unheld
positive-unheld None p = tt
positive-unheld (Some h) p = grind (arith, nat_tests)
