-- What entries name as they are pushed, acknowledged and passed, and how often a slot then holds it.
use Rattle.std.specs.Prelude.{ℕ, zero, suc, ◌≡◌, ◌≢◌, ◌+◌, List, [], ◌∷◌, ◌++◌, take, drop, Option, None, if◌then◌else◌, refl}
use Rattle.std.proofs.Common.{arith, ap, ◌∙◌}
use Rattle.zeus_txn.specs.Ops.{mentions}
use Rattle.zeus_txn.specs.RunLaws.{AreDistinct}
use Rattle.zeus_model.specs.declared.state.Pending.{Pending}
use Rattle.zeus_model.specs.Commit.{acked_pending, no_pending}
use Rattle.zeus_model.specs.Tables.{nth, put}
use Rattle.object_table.specs.declared.hold.Hold.{Hold}
use Rattle.object_table.specs.Entries.{named_of, naming}
use Rattle.object_table.specs.HeldLaws.{held_times-passed, held_times-passed_beside, unheld-append, unheld-nil}
use Rattle.object_table.specs.Holding.{NameOnce, held_times}
use Rattle.object_table.specs.Table.{each_unheld}

-- each names an object once, as before: with one entry more that does so
pub once-push : (ps : List Pending) (p : Pending) → NameOnce ps → AreDistinct p.named → NameOnce (ps ++ p ∷ [])
unfolding NameOnce
once-push [] p h d = (d, tt)
once-push (q ∷ qs) p h d = (h.0, once-push qs p h.1 d)

-- an entry with one acknowledgement more names the same
pub naming-acked : (x : ℕ) (ps : List Pending) (i from : ℕ) → naming x (put no_pending ps i (acked_pending (nth no_pending ps i) from)) ≡ naming x ps
unfolding naming put nth mentions
naming-acked x [] zero from = refl
naming-acked x [] (suc i) from = let rest = naming-acked x [] i from in omega arith
naming-acked x (p ∷ ps) zero from = refl
naming-acked x (p ∷ ps) (suc i) from = ap (λ k. (if mentions x p.named then 1 else 0) + k) (naming-acked x ps i from)

-- with one acknowledgement more
pub once-acked : (ps : List Pending) (i from : ℕ) → NameOnce ps → NameOnce (put no_pending ps i (acked_pending (nth no_pending ps i) from))
unfolding NameOnce put nth AreDistinct
once-acked [] zero from h = (tt, tt)
once-acked [] (suc i) from h = (tt, once-acked [] i from tt)
once-acked (p ∷ ps) zero from h = h
once-acked (p ∷ ps) (suc i) from h = (h.0, once-acked ps i from h.1)

-- without the first ones
pub once-drop : (k : ℕ) (ps : List Pending) → NameOnce ps → NameOnce (drop k ps)
unfolding NameOnce
once-drop zero ps h = h
once-drop (suc k) [] h = h
once-drop (suc k) (p ∷ ps) h = once-drop k ps h.1

-- the first entries have passed: the slot holds what the others name
pub held_times-drop : (s x k : ℕ) (ps : List Pending) (holds : List (Option Hold)) → NameOnce ps → naming x ps ≡ held_times s (nth None holds x) → naming x (drop k ps) ≡ held_times s (nth None (each_unheld holds (named_of (take k ps))) x)
unfolding naming NameOnce named_of
held_times-drop s x zero ps holds h e = rw (unheld-nil holds) e
held_times-drop s x (suc k) [] holds h e = rw (unheld-nil holds) e
held_times-drop s x (suc k) (p ∷ ps) holds h e =
    rw (unheld-append holds p.named (named_of (take k ps)))
    (held_times-drop s x k ps (each_unheld holds p.named) h.1 (held_times-passed s holds p.named x (naming x ps) h.0 e))

-- and another slot what it held
pub held_times-drop_beside : (s t x k : ℕ) (ps : List Pending) (holds : List (Option Hold)) → t ≢ s → NameOnce ps → naming x ps ≡ held_times s (nth None holds x) → held_times t (nth None (each_unheld holds (named_of (take k ps))) x) ≡ held_times t (nth None holds x)
unfolding naming NameOnce named_of
held_times-drop_beside s t x zero ps holds other h e = rw (unheld-nil holds) refl
held_times-drop_beside s t x (suc k) [] holds other h e = rw (unheld-nil holds) refl
held_times-drop_beside s t x (suc k) (p ∷ ps) holds other h e =
    rw (unheld-append holds p.named (named_of (take k ps)))
    (held_times-drop_beside s t x k ps (each_unheld holds p.named) other h.1 (held_times-passed s holds p.named x (naming x ps) h.0 e)
    ∙ held_times-passed_beside s t holds p.named x (naming x ps) other h.0 e)
