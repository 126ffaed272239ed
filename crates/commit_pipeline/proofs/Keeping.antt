-- What a pipe keeps, through each call that changes it.
use Rattle.std.proofs.Common.{ℕ, suc, ◌≡◌, ◌+◌, ◌-◌, ◌^◌, ◌<◌, ◌≤◌, Bool, true, false, if◌then◌else◌, List, [], ◌∷◌, ◌++◌, Some, length, drop, slice_get, refl, sym, ◌∙◌, arith, length-append, lit<, lit≤}
use Rattle.std.specs.List.{filter}
use Rattle.zeus_base.specs.TableLaws.{length-put}
use Rattle.zeus_model.specs.declared.state.Pending.{Pending}
use Rattle.zeus_model.specs.Commit.{acked_pending, no_pending}
use Rattle.zeus_model.specs.Membership.{apart}
use Rattle.zeus_model.specs.Tables.{nth, put}
use Rattle.commit_pipeline.specs.declared.due.Due.{Due}
use Rattle.commit_pipeline.specs.Pipes.{HaveFewFollowers, IsKept, Waiting, acknowledged, counts, is_of_other, is_other, lacking, sends, sends_of}
use Rattle.commit_pipeline.proofs.Acks.{counts_place}
use Rattle.commit_pipeline.proofs.Sends.{HaveFewFollowers-acked, HaveFewFollowers-append, HaveFewFollowers-rest, filter_acked, filter_lowest, length-sends_of, sends_of-append}

abbrev waiting : ℕ → List Pending → Waiting
waiting done ps = record { done = done; pending = ps }

-- there is none at first
pub kept_empty : (ps : List Pending) (kept : List Due) → ps ≡ [] → kept ≡ [] → IsKept record { done = 0; pending = ps } kept
unfolding HaveFewFollowers sends_of
kept_empty ps kept none nothing =
    rw (none, nothing) record { few = lit≤ tt; numbered = lit< tt; followers = tt; due = refl }

-- the lowest entry goes
pub kept_passed :
    (done : ℕ) (ps rest : List Pending) (p : Pending) (kept after : List Due) → IsKept record { done = done; pending = ps } kept
    → slice_get ps 0 ≡ Some p → rest ≡ drop 1 ps → after ≡ filter (is_of_other done) kept
    → IsKept record { done = done + 1; pending = rest } after
kept_passed done [] rest p kept after k e is by = absurd cc
kept_passed done (q ∷ ps) rest p kept after k e is by =
    let next : done + 1 ≡ suc done = omega arith in
    rw (is, next)
    record {
      few = omega (arith, k.few);
      numbered = omega (arith, k.numbered);
      followers = HaveFewFollowers-rest (q ∷ ps) k.followers;
      due = rw (by, k.due) (filter_lowest lacking done q ps);
    }

-- an entry has one acknowledgement more
pub kept_acked :
    (done : ℕ) (ps rest : List Pending) (number from : ℕ) (kept after : List Due) → IsKept record { done = done; pending = ps } kept
    → done ≤ number → number - done < length ps
    → rest ≡ put no_pending ps (number - done) (acked_pending (nth no_pending ps (number - done)) from)
    → after ≡ filter (is_other number from) kept → IsKept record { done = done; pending = rest } after
kept_acked done ps rest number from kept after k low within is by =
    let same = length-put no_pending ps (number - done) (acked_pending (nth no_pending ps (number - done)) from) within in
    rw is
    record {
      few = rw same k.few;
      numbered = rw same k.numbered;
      followers = HaveFewFollowers-acked ps (number - done) from within k.followers;
      due = rw (by, k.due) (filter_acked done number (number - done) from ps (omega arith) within);
    }

-- an entry comes at the end
pub kept_pushed :
    (done : ℕ) (ps rest : List Pending) (p : Pending) (number : ℕ) (kept after : List Due)
    → IsKept record { done = done; pending = ps } kept → length ps < 16 → done + length ps < 2 ^ 32 - 1 → length p.followers ≤ 8
    → rest ≡ ps ++ p ∷ [] → number ≡ done + length ps → after ≡ kept ++ sends number (apart p.followers p.acks)
    → IsKept record { done = done; pending = rest } after
kept_pushed done ps rest p number kept after k room numbered few is named by =
    rw is
    record {
      few = rw length-append (omega arith);
      numbered = rw length-append (omega arith);
      followers = HaveFewFollowers-append ps p k.followers few;
      due = rw (by, k.due) (sym (sends_of-append lacking done number ps p named));
    }

-- there is room for the sends of one entry more
pub room_kept : (w : Waiting) (kept : List Due) → IsKept w kept → length w.pending < 16 → length kept ≤ 120
room_kept w kept k room = rw k.due (omega (arith, length-sends_of w.done w.pending k.followers))

-- what became of the pipe, by what became of its entries
pub acked_by :
    (done : ℕ) (ps rest : List Pending) (number from : ℕ) (b : Bool) → done ≤ number
    → b ≡ counts record { done = 0; pending = ps } (number - done) from
    → rest ≡ (if b then put no_pending ps (number - done) (acked_pending (nth no_pending ps (number - done)) from) else ps)
    → waiting done rest ≡ (if counts (waiting done ps) number from then acknowledged (waiting done ps) number from else waiting done ps)
acked_by done ps rest number from true low is by =
    let yes : counts (waiting done ps) number from ≡ true = counts_place (waiting done ps) number from low ∙ sym is in
    rw (yes, by) refl
acked_by done ps rest number from false low is by =
    let no : counts (waiting done ps) number from ≡ false = counts_place (waiting done ps) number from low ∙ sym is in
    rw (no, by) refl

-- if an acknowledgement does not count, then taking it only if it counts changes nothing
pub uncounted : (w : Waiting) (number from : ℕ) → counts w number from ≡ false → w ≡ (if counts w number from then acknowledged w number from else w)
uncounted w number from none = rw none refl
