-- Acknowledgements of pending entries, by the entry's place.
use Rattle.std.proofs.Common.{ℕ, zero, suc, ◌≡◌, ◌+◌, ◌-◌, ◌<◌, ◌≤◌, Bool, true, false, not, if◌then◌else◌, List, [], ◌∷◌, Option, Some, None, length, slice_get, slice_set, refl, sym, ap, ◌∙◌, arith}
use Rattle.std.proofs.lemmas.Bool.{false≢true, lt-ltb, le-ltb}
use Rattle.std.proofs.lemmas.Option.{slice_get_within}
use Rattle.zeus_base.specs.Nodes.{has}
use Rattle.zeus_base.specs.TableLaws.{nth_found}
use Rattle.zeus_model.specs.declared.state.Pending.{Pending}
use Rattle.zeus_model.specs.Commit.{acked_pending, is_within, no_pending}
use Rattle.zeus_model.specs.Tables.{nth, put}
use Rattle.commit_pipeline.specs.Pipes.{Waiting, counts}

-- if the index is within the list, then writing there is std's slice_set
pub put_within : {A : Type 0} (d : A) (xs : List A) (i : ℕ) (v : A) → i < length xs → put d xs i v ≡ slice_set xs i v
unfolding put
put_within d [] i v h = absurd (omega arith)
put_within d (x ∷ xs) zero v h = refl
put_within d (x ∷ xs) (suc i) v h = ap (λ l. x ∷ l) (put_within d xs i v (omega arith))

-- an element that is written as it was
pub set_read : {A : Type 0} (xs : List A) (i : ℕ) (x : A) → slice_get xs i ≡ Some x → slice_set xs i x ≡ xs
set_read [] i x e = absurd cc
set_read (y ∷ xs) zero x e = let same : y ≡ x = cc in rw same refl
set_read (y ∷ xs) (suc i) x e = ap (λ l. y ∷ l) (set_read xs i x e)

-- if nothing is read at an index, then the list ends before it
pub read_past : {A : Type 0} (xs : List A) (i : ℕ) → slice_get xs i ≡ None → length xs ≤ i
read_past [] i e = omega arith
read_past (x ∷ xs) zero e = absurd cc
read_past (x ∷ xs) (suc i) e = let rest = read_past xs i e in omega arith

-- none counts of an entry that has passed
pub counts_low : (w : Waiting) (number from : ℕ) → number < w.done → counts w number from ≡ false
unfolding counts is_within
counts_low w number from h = rw (lt-ltb number w.done h) refl

-- nor of one that was never pushed
pub counts_past : (w : Waiting) (number from : ℕ) → w.done ≤ number → slice_get w.pending (number - w.done) ≡ None → counts w number from ≡ false
unfolding counts is_within
counts_past w number from h e =
    let past = read_past w.pending (number - w.done) e in
    rw (le-ltb number w.done h, le-ltb number (w.done + length w.pending) (omega arith)) refl

-- an acknowledgement of a pending entry counts exactly if its sender has not acknowledged it yet
pub counts_here : (w : Waiting) (number from : ℕ) (p : Pending) → w.done ≤ number → slice_get w.pending (number - w.done) ≡ Some p → counts w number from ≡ not (has from p.acks)
unfolding counts is_within
counts_here w number from p h e =
    let here = slice_get_within w.pending (number - w.done) p e in
    rw (le-ltb number w.done h, lt-ltb number (w.done + length w.pending) (omega arith), nth_found no_pending w.pending (number - w.done) p (sym e)) refl

sub-zero : (n : ℕ) → n - 0 ≡ n
sub-zero n = omega arith

-- the same where no entry has passed, so that a number is a place
pub counts_none : (ps : List Pending) (place from : ℕ) → slice_get ps place ≡ None → counts record { done = 0; pending = ps } place from ≡ false
counts_none ps place from e = counts_past record { done = 0; pending = ps } place from (omega arith) (rw (sub-zero place) e)

-- by the place of its entry an acknowledgement counts exactly if its sender has not acknowledged that entry yet
pub counts_some : (ps : List Pending) (place from : ℕ) (p : Pending) → slice_get ps place ≡ Some p → counts record { done = 0; pending = ps } place from ≡ not (has from p.acks)
counts_some ps place from p e = counts_here record { done = 0; pending = ps } place from p (omega arith) (rw (sub-zero place) e)

-- whether one counts shows by the entry's place alone
counts_place-by : (w : Waiting) (number from : ℕ) (o : Option Pending) → w.done ≤ number → slice_get w.pending (number - w.done) ≡ o → counts w number from ≡ counts record { done = 0; pending = w.pending } (number - w.done) from
counts_place-by w number from None h e = counts_past w number from h e ∙ sym (counts_none w.pending (number - w.done) from e)
counts_place-by w number from (Some p) h e = counts_here w number from p h e ∙ sym (counts_some w.pending (number - w.done) from p e)

-- an acknowledgement counts by its number exactly if it counts by its place
pub counts_place : (w : Waiting) (number from : ℕ) → w.done ≤ number → counts w number from ≡ counts record { done = 0; pending = w.pending } (number - w.done) from
counts_place w number from h = counts_place-by w number from (slice_get w.pending (number - w.done)) h refl

-- one that counts is of a pending entry
place_within-by : (ps : List Pending) (place from : ℕ) (o : Option Pending) → slice_get ps place ≡ o → counts record { done = 0; pending = ps } place from ≡ true → place < length ps
place_within-by ps place from None e h = absurd (false≢true (sym (counts_none ps place from e) ∙ h))
place_within-by ps place from (Some p) e h = slice_get_within ps place p e

-- if an acknowledgement counts by its place, then the place is within the pending entries
pub place_within : (ps : List Pending) (place from : ℕ) → counts record { done = 0; pending = ps } place from ≡ true → place < length ps
place_within ps place from h = place_within-by ps place from (slice_get ps place) refl h

-- the entries with the one that was read and acknowledged written back
pub acked_set : (ps after : List Pending) (place from : ℕ) (p new : Pending) (b : Bool) → slice_get ps place ≡ Some p → after ≡ slice_set ps place new → new ≡ (if b then acked_pending p from else p) → after ≡ (if b then put no_pending ps place (acked_pending (nth no_pending ps place) from) else ps)
acked_set ps after place from p new true e is by =
    rw (is, by, nth_found no_pending ps place p (sym e)) (sym (put_within no_pending ps place (acked_pending p from) (slice_get_within ps place p e)))
acked_set ps after place from p new false e is by = rw (is, by) (set_read ps place p e)
