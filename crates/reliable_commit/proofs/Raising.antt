-- Stored entries of a stream that have passed elsewhere, taken out one by one.
use Rattle.std.proofs.Common.{ℕ, zero, suc, ◌≡◌, ◌<◌, ◌≤◌, ◌+◌, ◌-◌, Bool, true, false, nat_lt, List, [], ◌∷◌, Option, Some, None, length, take, drop, refl, sym, ap, ◌∙◌, arith, inl, inr, if◌then◌else◌}
use Rattle.std.specs.List.{slice_get}
use Rattle.std.proofs.lemmas.Bool.{cases_order, lt-ltb, le-ltb, ltb-true}
use Rattle.zeus_base.specs.declared.order.Stream.{Stream}
use Rattle.zeus_model.specs.declared.state.Copy.{Copy}
use Rattle.zeus_model.specs.declared.state.Kept.{Kept}
use Rattle.zeus_model.specs.Commit.{each_write, validated, writes_of}
use Rattle.zeus_model.specs.State.{StreamLog}
use Rattle.object_table.specs.Table.{AreWithin}
use Rattle.object_table.specs.WriteLaws.{each_write-append, each_write-nil}
use Rattle.follower_log.specs.StreamLaws.{log_at-with_log_at, with_log_at-with_log_at}
use Rattle.follower_log.specs.Streams.{log_at, lowest_below, raised_by_one, raised_rest, with_log_at}
use Rattle.reliable_commit.specs.Following.{IsFollowed, raised_copies, raised_logs}
use Rattle.reliable_commit.specs.FollowLaws.{AreWithin-left, AreWithin-nil, IsFollowed-with_log_at, within_rest}

-- ---- the lowest entry

first_of_rest : (ks : List Kept) (e : Kept) → Some e ≡ slice_get ks 0 → ks ≡ e ∷ drop 1 ks
first_of_rest [] e h = absurd cc
first_of_rest (k ∷ ks) e h = let same : e ≡ k = cc in rw same refl

-- an entry that is taken out is the first, and is below the number
pub record IsLowest (l : StreamLog) (d : ℕ) (e : Kept) : Type 0 where
  pub low : l.done < d
  pub first : l.kept ≡ e ∷ drop 1 l.kept

lowest-by : (l : StreamLog) (d : ℕ) (e : Kept) (b : Bool) → nat_lt l.done d ≡ b → Some e ≡ (if b then slice_get l.kept 0 else None) → IsLowest l d e
lowest-by l d e true low h = record { low = ltb-true l.done d low; first = first_of_rest l.kept e h }
lowest-by l d e false low h = absurd cc

-- if there is a lowest stored entry below a count, then it stands in front, and the count is above the stream's own
pub lowest : (l : StreamLog) (d : ℕ) (e : Kept) → Some e ≡ lowest_below l d → IsLowest l d e
lowest l d e h = lowest-by l d e (nat_lt l.done d) refl h

-- ---- one entry, and then the others

step_copies : (copies : List (Option Copy)) (done d : ℕ) (e : Kept) (ks : List Kept) → done < d → raised_copies (each_write validated copies e.writes) record { done = done + 1; kept = ks } d ≡ raised_copies copies record { done = done; kept = e ∷ ks } d
unfolding raised_copies writes_of
step_copies copies done d e ks h =
    elim (cases_order (done + 1) d) [
      | inl same ↦
          let one : d - done ≡ suc 0 = omega arith in
          rw (lt-ltb done d h, le-ltb (done + 1) d (omega arith), one) (sym (each_write-append validated copies e.writes [] ∙ each_write-nil validated (each_write validated copies e.writes)))
      | inr other ↦ elim other [
        | inl less ↦
            let more : d - done ≡ suc (d - (done + 1)) = omega arith in
            rw (lt-ltb done d h, lt-ltb (done + 1) d less, more) (sym (each_write-append validated copies e.writes (writes_of (take (d - (done + 1)) ks))))
        | inr more ↦ absurd (omega arith)
      ]
    ]

-- validating the writes of the lowest entry, and then those of the others below a count, is validating those of all
pub raised_copies-step : (copies : List (Option Copy)) (l : StreamLog) (d : ℕ) (e : Kept) → IsLowest l d e → raised_copies (each_write validated copies e.writes) (raised_by_one l) d ≡ raised_copies copies l d
raised_copies-step copies l d e h =
    step_copies copies l.done d e (drop 1 l.kept) h.low
    ∙ ap (λ (ks : List Kept). raised_copies copies (let m : StreamLog = record { done = l.done; kept = ks } in m) d) (sym h.first)

step_logs : (logs : List (List StreamLog)) (s : Stream) (l m : StreamLog) (d : ℕ) (e : Kept) (ks : List Kept) → log_at logs s ≡ l → l.done < d → l.kept ≡ e ∷ ks → m ≡ record { done = l.done + 1; kept = ks } → raised_logs (with_log_at logs s m) s d ≡ raised_logs logs s d
unfolding raised_logs
step_logs logs s l m d e ks here h first is =
    rw (log_at-with_log_at logs s m, here, is, first, with_log_at-with_log_at logs s record { done = l.done + 1; kept = ks })
    (elim (cases_order (l.done + 1) d) [
      | inl same ↦
          let one : d - l.done ≡ suc 0 = omega arith in
          rw (lt-ltb l.done d h, le-ltb (l.done + 1) d (omega arith), one, same) refl
      | inr other ↦ elim other [
        | inl less ↦
            let more : d - l.done ≡ suc (d - (l.done + 1)) = omega arith in
            rw (lt-ltb l.done d h, lt-ltb (l.done + 1) d less, more) refl
        | inr more ↦ absurd (omega arith)
      ]
    ])

-- taking out the lowest entry of a stored stream, and then the others below a count, is raising the stream to it
pub raised_logs-step : (logs : List (List StreamLog)) (s : Stream) (d : ℕ) (e : Kept) → IsLowest (log_at logs s) d e → raised_logs (with_log_at logs s (raised_by_one (log_at logs s))) s d ≡ raised_logs logs s d
raised_logs-step logs s d e h = step_logs logs s (log_at logs s) (raised_by_one (log_at logs s)) d e (drop 1 (log_at logs s).kept) refl h.low h.first refl

-- ---- nothing stored below the number

take_nil : (n : ℕ) → take n (let none : List Kept = [] in none) ≡ []
take_nil zero = refl
take_nil (suc n) = refl

drop_nil : (n : ℕ) → drop n (let none : List Kept = [] in none) ≡ []
drop_nil zero = refl
drop_nil (suc n) = refl

-- if a stored stream has no entry below a count, then raising it to the count leaves the copies
pub raised_copies-none : (copies : List (Option Copy)) (l : StreamLog) (d : ℕ) → (l.done < d → l.kept ≡ []) → copies ≡ raised_copies copies l d
unfolding raised_copies writes_of
raised_copies-none copies l d none =
    elim (cases_order l.done d) [
      | inl same ↦ rw (le-ltb l.done d (omega arith)) refl
      | inr other ↦ elim other [
        | inl less ↦ rw (lt-ltb l.done d less, none less, take_nil (d - l.done)) (sym (each_write-nil validated copies))
        | inr more ↦ rw (le-ltb l.done d (omega arith)) refl
      ]
    ]

-- if a stored stream has no entry below a count, then setting its count is raising it
pub raised_logs-none : (logs : List (List StreamLog)) (s : Stream) (d : ℕ) → ((log_at logs s).done < d → (log_at logs s).kept ≡ []) → raised_rest logs s d ≡ raised_logs logs s d
unfolding raised_logs
raised_logs-none logs s d none =
    elim (cases_order (log_at logs s).done d) [
      | inl same ↦ rw (le-ltb (log_at logs s).done d (omega arith)) refl
      | inr other ↦ elim other [
        | inl less ↦ rw (lt-ltb (log_at logs s).done d less, none less, drop_nil (d - (log_at logs s).done)) refl
        | inr more ↦ rw (le-ltb (log_at logs s).done d (omega arith)) refl
      ]
    ]

-- ---- as many have passed as the number says

-- if a count is not above a stored stream's own, then raising the stream to it leaves the copies
pub raised_copies-low : (copies : List (Option Copy)) (l : StreamLog) (d : ℕ) → d ≤ l.done → copies ≡ raised_copies copies l d
unfolding raised_copies
raised_copies-low copies l d h = rw (le-ltb l.done d h) refl

-- if a count is not above a stored stream's own, then raising the stream to it leaves the streams
pub raised_logs-low : (logs : List (List StreamLog)) (s : Stream) (d : ℕ) → d ≤ (log_at logs s).done → logs ≡ raised_logs logs s d
unfolding raised_logs
raised_logs-low logs s d h = rw (le-ltb (log_at logs s).done d h) refl

-- ---- which streams are followed

-- if all writes of a stored stream are of objects within a bound, then so are those of its lowest entry
pub within_lowest : (n : ℕ) (l : StreamLog) (d : ℕ) (e : Kept) → IsLowest l d e → AreWithin n (writes_of l.kept) → AreWithin n e.writes
unfolding writes_of
within_lowest n l d e low h = AreWithin-left n e.writes (writes_of (drop 1 l.kept)) (rw low.first at h)

-- if the lowest entry is taken out of a stored stream, then the stream has fewer
pub smaller : (logs after : List (List StreamLog)) (s : Stream) (d : ℕ) (e : Kept) → IsLowest (log_at logs s) d e → after ≡ with_log_at logs s (raised_by_one (log_at logs s)) → length (log_at after s).kept < length (log_at logs s).kept
smaller logs after s d e low is =
    let size = ap length low.first in
    rw (is, log_at-with_log_at logs s (raised_by_one (log_at logs s))) (omega (arith, size))

-- if two streams are followed, then the second is so after the lowest entry of the first is taken out
pub followed_step : (n : ℕ) (logs : List (List StreamLog)) (s t : Stream) → IsFollowed n logs s → IsFollowed n logs t → IsFollowed n (with_log_at logs s (raised_by_one (log_at logs s))) t
followed_step n logs s t h g =
    IsFollowed-with_log_at n logs s t (raised_by_one (log_at logs s)) h.stream (within_rest n (log_at logs s).kept h.within) g

followed_rest-by : (n : ℕ) (logs : List (List StreamLog)) (s t : Stream) (d : ℕ) (b : Bool) → nat_lt (log_at logs s).done d ≡ b → IsFollowed n logs s → IsFollowed n logs t → IsFollowed n (raised_rest logs s d) t
unfolding writes_of
followed_rest-by n logs s t d true e h g =
    rw e (IsFollowed-with_log_at n logs s t record { done = d; kept = [] } h.stream (AreWithin-nil n) g)
followed_rest-by n logs s t d false e h g = rw e g

-- if two streams are followed, then the second is so after the count of the first is set
pub followed_rest : (n : ℕ) (logs : List (List StreamLog)) (s t : Stream) (d : ℕ) → IsFollowed n logs s → IsFollowed n logs t → IsFollowed n (raised_rest logs s d) t
followed_rest n logs s t d h g = followed_rest-by n logs s t d (nat_lt (log_at logs s).done d) refl h g
