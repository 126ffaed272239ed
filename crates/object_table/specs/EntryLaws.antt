-- Entries that write and name objects that there are go on to do so.
use Rattle.std.specs.Prelude.{ℕ, zero, suc, ◌≡◌, ◌<◌, List, [], ◌∷◌, ◌++◌, drop, Some, slice_get}
use Rattle.std.proofs.lemmas.List.Elements.{All-nil}
use Rattle.zeus_model.specs.declared.state.Pending.{Pending}
use Rattle.zeus_model.specs.Commit.{acked_pending, no_pending}
use Rattle.zeus_model.specs.Tables.{nth, put}
use Rattle.object_table.specs.Entries.{AreEntriesWithin, IsWithin}
use Rattle.object_table.specs.Table.{AreWithin}

-- there is no entry
pub within-none : (objects : ℕ) → AreEntriesWithin objects []
unfolding AreEntriesWithin
within-none objects = tt

-- one entry more
pub within-push : (objects : ℕ) (ps : List Pending) (p : Pending) → AreEntriesWithin objects ps → IsWithin objects p → AreEntriesWithin objects (ps ++ p ∷ [])
unfolding AreEntriesWithin
within-push objects [] p h k = (k, tt)
within-push objects (q ∷ qs) p h k = (h.0, within-push objects qs p h.1 k)

-- an entry has one acknowledgement more; where there is none of that place, what fills the list up writes and names nothing
pub within-acked : (objects : ℕ) (ps : List Pending) (i from : ℕ) → AreEntriesWithin objects ps → AreEntriesWithin objects (put no_pending ps i (acked_pending (nth no_pending ps i) from))
unfolding AreEntriesWithin put nth AreWithin
within-acked objects [] zero from h = (record { writes = tt; named = All-nil (λ (x : ℕ). x < objects) }, tt)
within-acked objects [] (suc i) from h =
    (record { writes = tt; named = All-nil (λ (x : ℕ). x < objects) }, within-acked objects [] i from tt)
within-acked objects (p ∷ ps) zero from h = (record { writes = h.0.writes; named = h.0.named }, h.1)
within-acked objects (p ∷ ps) (suc i) from h = (h.0, within-acked objects ps i from h.1)

-- the first entries have passed
pub within-drop : (objects k : ℕ) (ps : List Pending) → AreEntriesWithin objects ps → AreEntriesWithin objects (drop k ps)
unfolding AreEntriesWithin
within-drop objects zero ps h = h
within-drop objects (suc k) [] h = h
within-drop objects (suc k) (p ∷ ps) h = within-drop objects k ps h.1

-- the first entry of a list
pub within-first : (objects : ℕ) (ps : List Pending) (p : Pending) → AreEntriesWithin objects ps → Some p ≡ slice_get ps 0 → IsWithin objects p
unfolding AreEntriesWithin
within-first objects [] p h is = absurd cc
within-first objects (q ∷ qs) p h is = let same : p ≡ q = cc in rw same h.0
