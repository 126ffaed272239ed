-- What one call does to the log of a stream, and what it leaves of the others.
use Rattle.std.proofs.Common.{ℕ, zero, suc, ◌≡◌, ◌<◌, ◌≤◌, ◌+◌, ◌-◌, Bool, true, false, not, ◌&&◌, ◌==◌, nat_lt, List, [], ◌∷◌, ◌++◌, Option, Some, None, length, drop, refl, sym, ap, ◌∙◌, arith, inl, inr, if◌then◌else◌}
use Rattle.std.specs.List.{slice_get, slice_set}
use Rattle.std.specs.Prelude.{OnSome}
use Rattle.std.proofs.Math.ListN.{get_or, set}
use Rattle.std.proofs.lemmas.Bool.{cases_order, lt-ltb, le-ltb, eq-eqb, ne_eqb}
use Rattle.zeus_base.specs.Nodes.{has}
use Rattle.zeus_base.specs.Tables.{nth, put}
use Rattle.zeus_base.specs.declared.order.Stream.{Stream}
use Rattle.zeus_base.specs.TableLaws.{nth_read, put-set, put-nth, nth_found}
use Rattle.zeus_packet.specs.declared.letter.RInv.{RInv}
use Rattle.zeus_model.specs.declared.state.Kept.{Kept}
use Rattle.zeus_model.specs.Commit.{acked_kept, is_within, next_kept, no_kept, on_kept_rack, stored_rinv}
use Rattle.zeus_model.specs.State.{Node, StreamLog, log, no_log}
use Rattle.zeus_model.specs.Tables.{front}
use Rattle.follower_log.specs.StreamLaws.{log_at-with_log_at}
use Rattle.follower_log.specs.Streams.{IsStreamOf, log_at, outcome_of, outcome_of_ack, raised_by_one, raised_rest, with_log_at}
use Rattle.follower_log.specs.declared.stored.Store.TheVariants.{Stored, Again, Gap, Window}

-- ---- elements by place

-- if something is found at a place of a list, then the place is in the list
pub found_within : {A : Type 0} (xs : List A) (i : ℕ) (x : A) → Some x ≡ slice_get xs i → i < length xs
found_within [] i x e = absurd cc
found_within (y ∷ ys) zero x e = omega arith
found_within (y ∷ ys) (suc i) x e = let h = found_within ys i x e in omega arith

-- if nothing is found at a place of a list, then the place is past its end
pub missing_past : {A : Type 0} (xs : List A) (i : ℕ) → None ≡ slice_get xs i → length xs ≤ i
missing_past [] i e = omega arith
missing_past (y ∷ ys) zero e = absurd cc
missing_past (y ∷ ys) (suc i) e = let h = missing_past ys i e in omega arith

-- ---- the log of a stream among the others

-- a stream that becomes what it is leaves all as they are
pub with_log_at-same : (logs : List (List StreamLog)) (s : Stream) → IsStreamOf logs s → with_log_at logs s (log_at logs s) ≡ logs
with_log_at-same logs s h =
    ap (λ (row : List StreamLog). put [] logs s.node row) (put-nth no_log (nth [] logs s.node) s.slot h.slot)
    ∙ put-nth [] logs s.node h.node

-- if a stream is one of those stored, then its slot is in the row of its node
pub slot_within : (logs : List (List StreamLog)) (s : Stream) (row : List StreamLog) → IsStreamOf logs s → row ≡ get_or logs s.node row → s.slot < length row
slot_within logs s row h e = rw (nth_read [] logs s.node row h.node e) at h.slot

-- if a stream is one of those stored, then reading its node's row and its slot gives it
pub log_read : (logs : List (List StreamLog)) (s : Stream) (row : List StreamLog) (l : StreamLog) → IsStreamOf logs s → row ≡ get_or logs s.node row → l ≡ get_or row s.slot l → log_at logs s ≡ l
log_read logs s row l h e f =
    ap (λ (r : List StreamLog). nth no_log r s.slot) (nth_read [] logs s.node row h.node e)
    ∙ nth_read no_log row s.slot l (slot_within logs s row h e) f

-- if a stream is one of those stored, then writing its slot in its node's row writes it
pub log_written : (logs : List (List StreamLog)) (s : Stream) (row : List StreamLog) (l : StreamLog) → IsStreamOf logs s → row ≡ get_or logs s.node row → set logs s.node (set row s.slot l) ≡ with_log_at logs s l
log_written logs s row l h e =
    rw (nth_read [] logs s.node row h.node e)
    (sym (put-set [] logs s.node (put no_log row s.slot l) h.node ∙ ap (set logs s.node) (put-set no_log row s.slot l (slot_within logs s row h e))))

-- ---- an entry that a letter brings

-- if an entry's number is below the next one, then the node answers `Again`
pub stored-again : (n : Node) (from : ℕ) (r : RInv) (l : StreamLog) → log n r.stream ≡ l → r.number < next_kept l → outcome_of Again ≡ (stored_rinv n from r).answer
unfolding outcome_of stored_rinv
stored-again n from r l here h = rw (here, lt-ltb r.number (next_kept l) h) refl

-- if an entry's number is below the next one, then the stored stream stays
pub stored_at-again : (n : Node) (from : ℕ) (r : RInv) (l : StreamLog) → log n r.stream ≡ l → r.number < next_kept l → l ≡ log (stored_rinv n from r).node r.stream
unfolding stored_rinv
stored_at-again n from r l here h = rw (here, lt-ltb r.number (next_kept l) h) (sym here)

-- if an entry's number is above the next one, then the node answers `Gap` with the next number
pub stored-gap : (n : Node) (from : ℕ) (r : RInv) (l : StreamLog) → log n r.stream ≡ l → next_kept l < r.number → outcome_of (Gap (next_kept l)) ≡ (stored_rinv n from r).answer
unfolding outcome_of stored_rinv
stored-gap n from r l here h = rw (here, le-ltb r.number (next_kept l) (omega arith), lt-ltb (next_kept l) r.number h) refl

-- if an entry's number is above the next one, then the stored stream stays
pub stored_at-gap : (n : Node) (from : ℕ) (r : RInv) (l : StreamLog) → log n r.stream ≡ l → next_kept l < r.number → l ≡ log (stored_rinv n from r).node r.stream
unfolding stored_rinv
stored_at-gap n from r l here h = rw (here, le-ltb r.number (next_kept l) (omega arith), lt-ltb (next_kept l) r.number h) (sym here)

-- if an entry is the next one and 16 are stored, then the node refuses it because the window is full
pub stored-full : (n : Node) (from : ℕ) (r : RInv) (l : StreamLog) → log n r.stream ≡ l → r.number ≡ next_kept l → length l.kept ≡ 16 → outcome_of Window ≡ (stored_rinv n from r).answer
unfolding outcome_of stored_rinv
stored-full n from r l here h full =
    rw (here, le-ltb r.number (next_kept l) (omega arith), le-ltb (next_kept l) r.number (omega arith), eq-eqb (length l.kept) 16 full) refl

-- if an entry is the next one and 16 are stored, then the stored stream stays
pub stored_at-full : (n : Node) (from : ℕ) (r : RInv) (l : StreamLog) → log n r.stream ≡ l → r.number ≡ next_kept l → length l.kept ≡ 16 → l ≡ log (stored_rinv n from r).node r.stream
unfolding stored_rinv
stored_at-full n from r l here h full =
    rw (here, le-ltb r.number (next_kept l) (omega arith), le-ltb (next_kept l) r.number (omega arith), eq-eqb (length l.kept) 16 full) (sym here)

-- if an entry is the next one and fewer than 16 are stored, then the node answers `Stored`
pub stored-new : (n : Node) (from : ℕ) (r : RInv) (l : StreamLog) → log n r.stream ≡ l → r.number ≡ next_kept l → length l.kept < 16 → outcome_of Stored ≡ (stored_rinv n from r).answer
unfolding outcome_of stored_rinv
stored-new n from r l here h room =
    rw (here, le-ltb r.number (next_kept l) (omega arith), le-ltb (next_kept l) r.number (omega arith), ne_eqb (length l.kept) 16 (λ e. omega arith)) refl

-- if an entry is the next one and fewer than 16 are stored, then it stands last in the stored stream, without acknowledgements
pub stored_at-new : (n : Node) (from : ℕ) (r : RInv) (l : StreamLog) (kept : List Kept) → log n r.stream ≡ l → r.number ≡ next_kept l → length l.kept < 16 → kept ≡ l.kept ++ record { followers = r.followers; writes = r.writes; acks = [] } ∷ [] → (let m : StreamLog = record { done = l.done; kept = kept } in m) ≡ log (stored_rinv n from r).node r.stream
unfolding stored_rinv
stored_at-new n from r l kept here h room is =
    rw (here, le-ltb r.number (next_kept l) (omega arith), le-ltb (next_kept l) r.number (omega arith), ne_eqb (length l.kept) 16 (λ e. omega arith), is)
    (sym (log_at-with_log_at n.logs r.stream record { done = l.done; kept = l.kept ++ record { followers = r.followers; writes = r.writes; acks = [] } ∷ [] }))

stored_logs-by : (n : Node) (from : ℕ) (r : RInv) (a b c : Bool) → IsStreamOf n.logs r.stream → nat_lt r.number (next_kept (log n r.stream)) ≡ a → nat_lt (next_kept (log n r.stream)) r.number ≡ b → (length (log n r.stream).kept == 16) ≡ c → (stored_rinv n from r).node.logs ≡ with_log_at n.logs r.stream (log (stored_rinv n from r).node r.stream)
unfolding stored_rinv
stored_logs-by n from r true b c h low high full = rw low (sym (with_log_at-same n.logs r.stream h))
stored_logs-by n from r false true c h low high full = rw (low, high) (sym (with_log_at-same n.logs r.stream h))
stored_logs-by n from r false false true h low high full = rw (low, high, full) (sym (with_log_at-same n.logs r.stream h))
stored_logs-by n from r false false false h low high full =
    rw (low, high, full) (sym (ap (with_log_at n.logs r.stream) (log_at-with_log_at n.logs r.stream _)))

-- an entry changes the log of its stream and no other
pub stored_logs : (n : Node) (from : ℕ) (r : RInv) → IsStreamOf n.logs r.stream → (stored_rinv n from r).node.logs ≡ with_log_at n.logs r.stream (log (stored_rinv n from r).node r.stream)
stored_logs n from r h =
    stored_logs-by n from r (nat_lt r.number (next_kept (log n r.stream))) (nat_lt (next_kept (log n r.stream)) r.number) (length (log n r.stream).kept == 16) h refl refl refl

-- ---- an acknowledgement

-- whether one counts
unfoldable pub counts : StreamLog → ℕ → ℕ → Bool
counts l from number = is_within number l.done (length l.kept) && not (has from (nth no_kept l.kept (number - l.done)).acks)

-- if an entry has passed, then its acknowledgement does not count
pub counts-low : (l : StreamLog) (from number : ℕ) → number < l.done → counts l from number ≡ false
unfolding counts is_within
counts-low l from number h = rw (lt-ltb number l.done h) refl

-- if an entry is not stored yet, then its acknowledgement does not count
pub counts-high : (l : StreamLog) (from number : ℕ) → l.done ≤ number → length l.kept ≤ number - l.done → counts l from number ≡ false
unfolding counts is_within
counts-high l from number h k =
    rw (le-ltb number l.done h, le-ltb number (l.done + length l.kept) (omega arith)) refl

-- if an entry is stored, then an acknowledgement counts just if its node has not acknowledged the entry before
pub counts-here : (l : StreamLog) (from number : ℕ) (e : Kept) (b : Bool) → l.done ≤ number → Some e ≡ slice_get l.kept (number - l.done) → has from e.acks ≡ b → counts l from number ≡ not b
unfolding counts is_within
counts-here l from number e b h is acked =
    rw (le-ltb number l.done h, lt-ltb number (l.done + length l.kept) (omega (arith, found_within l.kept (number - l.done) e is)), nth_found no_kept l.kept (number - l.done) e is, acked) refl

-- if an acknowledgement does not count, then the node answers so
pub acked-no : (n : Node) (from : ℕ) (s : Stream) (number : ℕ) (l : StreamLog) → log n s ≡ l → counts l from number ≡ false → outcome_of_ack false ≡ (on_kept_rack n from s number).answer
unfolding on_kept_rack counts
acked-no n from s number l here counted = rw here (rw counted refl)

-- if an acknowledgement does not count, then the stored stream stays
pub acked_at-no : (n : Node) (from : ℕ) (s : Stream) (number : ℕ) (l : StreamLog) → log n s ≡ l → counts l from number ≡ false → l ≡ log (on_kept_rack n from s number).node s
unfolding on_kept_rack counts
acked_at-no n from s number l here counted = rw here (rw counted (sym here))

-- if an acknowledgement counts, then the node answers so
pub acked-yes : (n : Node) (from : ℕ) (s : Stream) (number : ℕ) (l : StreamLog) → log n s ≡ l → counts l from number ≡ true → outcome_of_ack true ≡ (on_kept_rack n from s number).answer
unfolding on_kept_rack counts
acked-yes n from s number l here counted = rw here (rw counted refl)

-- if an acknowledgement counts, then the stored entry has it
pub acked_at-yes : (n : Node) (from : ℕ) (s : Stream) (number : ℕ) (l : StreamLog) (e : Kept) (kept : List Kept) → log n s ≡ l → counts l from number ≡ true → Some e ≡ slice_get l.kept (number - l.done) → kept ≡ slice_set l.kept (number - l.done) (acked_kept e from) → (let m : StreamLog = record { done = l.done; kept = kept } in m) ≡ log (on_kept_rack n from s number).node s
unfolding on_kept_rack counts
acked_at-yes n from s number l e kept here counted is becomes =
    rw here
    (rw (counted, becomes, nth_found no_kept l.kept (number - l.done) e is, ← put-set no_kept l.kept (number - l.done) (acked_kept e from) (found_within l.kept (number - l.done) e is))
    (sym (log_at-with_log_at n.logs s record { done = l.done; kept = put no_kept l.kept (number - l.done) (acked_kept e from) })))

-- of an entry that is stored, one counts where it is new
acked-by : (n : Node) (from : ℕ) (s : Stream) (number : ℕ) (l : StreamLog) (e : Kept) (b : Bool) → log n s ≡ l → l.done ≤ number → Some e ≡ slice_get l.kept (number - l.done) → has from e.acks ≡ b → outcome_of_ack (not b) ≡ (on_kept_rack n from s number).answer
acked-by n from s number l e true here h is acked = acked-no n from s number l here (counts-here l from number e true h is acked)
acked-by n from s number l e false here h is acked = acked-yes n from s number l here (counts-here l from number e false h is acked)

-- if an entry is stored, then the node answers whether its acknowledgement is a new one
pub acked-here : (n : Node) (from : ℕ) (s : Stream) (number : ℕ) (l : StreamLog) (e : Kept) → log n s ≡ l → l.done ≤ number → Some e ≡ slice_get l.kept (number - l.done) → outcome_of_ack (not (has from e.acks)) ≡ (on_kept_rack n from s number).answer
acked-here n from s number l e here h is = acked-by n from s number l e (has from e.acks) here h is refl

set_found : {A : Type 0} (xs : List A) (i : ℕ) (x : A) → Some x ≡ slice_get xs i → slice_set xs i x ≡ xs
set_found [] i x e = absurd cc
set_found (y ∷ ys) zero x e = let same : x ≡ y = cc in rw same refl
set_found (y ∷ ys) (suc i) x e = ap (λ l. y ∷ l) (set_found ys i x e)

-- the log with the same entries
pub same_log : (done : ℕ) (kept old : List Kept) (l : StreamLog) → kept ≡ old → (let m : StreamLog = record { done = done; kept = old } in m) ≡ l → (let m : StreamLog = record { done = done; kept = kept } in m) ≡ l
same_log done kept old l e is = rw e is

acked_at-by : (n : Node) (from : ℕ) (s : Stream) (number : ℕ) (l : StreamLog) (e f : Kept) (b : Bool) (kept : List Kept) → log n s ≡ l → l.done ≤ number → Some e ≡ slice_get l.kept (number - l.done) → has from e.acks ≡ b → f ≡ (if not b then acked_kept e from else e) → kept ≡ slice_set l.kept (number - l.done) f → (let m : StreamLog = record { done = l.done; kept = kept } in m) ≡ log (on_kept_rack n from s number).node s
acked_at-by n from s number l e f true kept here h is acked becomes written =
    same_log l.done kept l.kept l (rw becomes at written ∙ set_found l.kept (number - l.done) e is) refl
    ∙ acked_at-no n from s number l here (counts-here l from number e true h is acked)
acked_at-by n from s number l e f false kept here h is acked becomes written =
    acked_at-yes n from s number l e kept here (counts-here l from number e false h is acked) is (rw becomes at written)

-- if an entry is stored, then it has the acknowledgement afterwards, whether it is a new one or not
pub acked_at-here : (n : Node) (from : ℕ) (s : Stream) (number : ℕ) (l : StreamLog) (e f : Kept) (result : Bool) (kept : List Kept) → log n s ≡ l → l.done ≤ number → Some e ≡ slice_get l.kept (number - l.done) → result ≡ not (has from e.acks) → f ≡ (if result then acked_kept e from else e) → kept ≡ slice_set l.kept (number - l.done) f → (let m : StreamLog = record { done = l.done; kept = kept } in m) ≡ log (on_kept_rack n from s number).node s
acked_at-here n from s number l e f result kept here h is answer becomes written =
    acked_at-by n from s number l e f (has from e.acks) kept here h is refl (rw answer at becomes) written

-- a window that takes no more entries has 16
pub no_room : (before after count : ℕ) → before ≡ after → count ≡ before → count ≤ 16 → (before < 16 → ⊥) → after ≡ 16
no_room before after count e f h full =
    elim (cases_order before 16) [
      | inl same ↦ omega arith
      | inr other ↦ elim other [ inl less ↦ absurd (full less) | inr more ↦ absurd (omega arith) ]
    ]

acked_logs-by : (n : Node) (from : ℕ) (s : Stream) (number : ℕ) (b : Bool) → IsStreamOf n.logs s → counts (log n s) from number ≡ b → (on_kept_rack n from s number).node.logs ≡ with_log_at n.logs s (log (on_kept_rack n from s number).node s)
unfolding on_kept_rack counts
acked_logs-by n from s number true h counted = rw counted (sym (ap (with_log_at n.logs s) (log_at-with_log_at n.logs s _)))
acked_logs-by n from s number false h counted = rw counted (sym (with_log_at-same n.logs s h))

-- an acknowledgement changes the log of its stream and no other
pub acked_logs : (n : Node) (from : ℕ) (s : Stream) (number : ℕ) → IsStreamOf n.logs s → (on_kept_rack n from s number).node.logs ≡ with_log_at n.logs s (log (on_kept_rack n from s number).node s)
acked_logs n from s number h = acked_logs-by n from s number (counts (log n s) from number) h refl

-- ---- entries that pass from the front on

-- if the entry at a place passes the test, then the front from there is one longer than that from the next place
pub front-step : (p : Kept → Bool) (ks : List Kept) (i : ℕ) (e : Kept) → Some e ≡ slice_get ks i → p e ≡ true → front p (drop i ks) ≡ suc (front p (drop (suc i) ks))
unfolding front
front-step p [] i e is t = absurd cc
front-step p (k ∷ ks) zero e is t = let same : k ≡ e = cc in rw (same, t) refl
front-step p (k ∷ ks) (suc i) e is t = front-step p ks i e is t

-- if the entry at a place fails the test, then the front from there is empty
pub front-stop : (p : Kept → Bool) (ks : List Kept) (i : ℕ) (e : Kept) → Some e ≡ slice_get ks i → p e ≡ false → front p (drop i ks) ≡ 0
unfolding front
front-stop p [] i e is t = absurd cc
front-stop p (k ∷ ks) zero e is t = let same : k ≡ e = cc in rw (same, t) refl
front-stop p (k ∷ ks) (suc i) e is t = front-stop p ks i e is t

-- if a place is past the last entry, then the front from there is empty
pub front-end : (p : Kept → Bool) (ks : List Kept) (i : ℕ) → length ks ≤ i → front p (drop i ks) ≡ 0
unfolding front
front-end p [] zero h = refl
front-end p [] (suc i) h = refl
front-end p (k ∷ ks) zero h = absurd (omega arith)
front-end p (k ∷ ks) (suc i) h = front-end p ks i (omega arith)

-- ---- the streams afterwards

-- the log of a node that has these streams
pub log_of : (n : Node) (logs : List (List StreamLog)) (s : Stream) (l : StreamLog) → n.logs ≡ logs → log_at logs s ≡ l → log n s ≡ l
log_of n logs s l same here = rw same here

-- if a node's change is one of a stored stream alone, then writing that stream in its row gives the streams after it
pub written_of : (n : Node) (logs : List (List StreamLog)) (s : Stream) (row : List StreamLog) (l : StreamLog) (m : Node) → n.logs ≡ logs → IsStreamOf logs s → row ≡ get_or logs s.node row → l ≡ log m s → (IsStreamOf n.logs s → m.logs ≡ with_log_at n.logs s (log m s)) → set logs s.node (set row s.slot l) ≡ m.logs
written_of n logs s row l m same h e is frame =
    log_written logs s row l h e ∙ ap (with_log_at logs s) is ∙ ap (λ (ls : List (List StreamLog)). with_log_at ls s (log m s)) (sym same)
    ∙ sym (frame (rw same h))

-- if an entry is taken from the front of a stored stream, then writing the stream without it is the same change
pub raised_written : (logs : List (List StreamLog)) (s : Stream) (l m : StreamLog) (o : Option Kept) → OnSome o (m ≡ raised_by_one l) → OnSome o (with_log_at logs s m ≡ with_log_at logs s (raised_by_one l))
raised_written logs s l m None h = h
raised_written logs s l m (Some e) h = ap (with_log_at logs s) h

rest_written-by : (logs : List (List StreamLog)) (s : Stream) (l m : StreamLog) (d : ℕ) (b : Bool) → IsStreamOf logs s → log_at logs s ≡ l → nat_lt l.done d ≡ b → m ≡ (if nat_lt l.done d then record { done = d; kept = [] } else l) → with_log_at logs s m ≡ raised_rest logs s d
rest_written-by logs s l m d true h here low is = rw (is, here, low) refl
rest_written-by logs s l m d false h here low is = rw (is, here, low, ← here) (with_log_at-same logs s h)

-- if a stored stream with no entry left is raised to a count, then writing it gives the streams raised so
pub rest_written : (logs : List (List StreamLog)) (s : Stream) (l m : StreamLog) (d : ℕ) → IsStreamOf logs s → log_at logs s ≡ l → m ≡ (if nat_lt l.done d then record { done = d; kept = [] } else l) → with_log_at logs s m ≡ raised_rest logs s d
rest_written logs s l m d h here is = rest_written-by logs s l m d (nat_lt l.done d) h here refl is
