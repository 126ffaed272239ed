-- Laws of what is followed: which objects entries write, and which streams there are.
use Rattle.std.specs.Prelude.{ℕ, zero, suc, ◌≡◌, ◌<◌, List, [], ◌∷◌, ◌++◌, length, drop, replicate, get_or, refl}
use Rattle.std.proofs.Common.{sym, ap, ◌∙◌, arith, inl, inr, append_assoc}
use Rattle.std.proofs.lemmas.Bool.{cases_eq}
use Rattle.zeus_base.specs.Nodes.{has}
use Rattle.zeus_base.specs.TableLaws.{nth-put_other, nth-put_same, nth-replicate}
use Rattle.zeus_base.specs.Tables.{nth, put}
use Rattle.zeus_base.specs.declared.order.Stream.{Stream}
use Rattle.zeus_packet.specs.declared.write.Write.{Write}
use Rattle.zeus_model.specs.declared.state.Kept.{Kept}
use Rattle.zeus_model.specs.Commit.{acked_kept, no_kept, writes_of}
use Rattle.zeus_model.specs.State.{StreamLog, no_log}
use Rattle.object_table.specs.Table.{AreWithin}
use Rattle.follower_log.specs.StreamLaws.{IsStreamOf-start, IsStreamOf-with_log_at}
use Rattle.follower_log.specs.Streams.{IsStreamOf, log_at, with_log_at}
use Rattle.reliable_commit.specs.Following.{IsFollowed}

-- each write is of an object that there is
pub AreWithin-at : (n : ℕ) (ws : List Write) (i : ℕ) (d : Write) → AreWithin n ws → i < length ws → (get_or ws i d).obj < n
unfolding AreWithin
AreWithin-at n [] i d h k = absurd (omega arith)
AreWithin-at n (w ∷ ws) zero d h k = h.0
AreWithin-at n (w ∷ ws) (suc i) d h k = AreWithin-at n ws i d h.1 (omega arith)

-- if two lists of writes are of objects within a bound, then so are both put together
pub AreWithin-append : (n : ℕ) (vs ws : List Write) → AreWithin n vs → AreWithin n ws → AreWithin n (vs ++ ws)
unfolding AreWithin
AreWithin-append n [] ws h k = k
AreWithin-append n (v ∷ vs) ws h k = (h.0, AreWithin-append n vs ws h.1 k)

-- if two lists of writes put together are of objects within a bound, then so is the first
pub AreWithin-left : (n : ℕ) (vs ws : List Write) → AreWithin n (vs ++ ws) → AreWithin n vs
unfolding AreWithin
AreWithin-left n [] ws h = tt
AreWithin-left n (v ∷ vs) ws h = (h.0, AreWithin-left n vs ws h.1)

-- if two lists of writes put together are of objects within a bound, then so is the second
pub AreWithin-right : (n : ℕ) (vs ws : List Write) → AreWithin n (vs ++ ws) → AreWithin n ws
unfolding AreWithin
AreWithin-right n [] ws h = h
AreWithin-right n (v ∷ vs) ws h = AreWithin-right n vs ws h.1

-- no writes at all are of objects within every bound
pub AreWithin-nil : (n : ℕ) → AreWithin n []
unfolding AreWithin
AreWithin-nil n = tt

-- so do the others than the first entry
pub within_rest : (n : ℕ) (ks : List Kept) → AreWithin n (writes_of ks) → AreWithin n (writes_of (drop 1 ks))
unfolding writes_of
within_rest n [] h = h
within_rest n (k ∷ ks) h = AreWithin-right n k.writes (writes_of ks) h

-- the writes of some entries and then others
pub writes_of-append : (ks ls : List Kept) → writes_of (ks ++ ls) ≡ writes_of ks ++ writes_of ls
unfolding writes_of
writes_of-append [] ls = refl
writes_of-append (k ∷ ks) ls = ap (λ l. k.writes ++ l) (writes_of-append ks ls) ∙ sym (append_assoc k.writes (writes_of ks) (writes_of ls))

-- with one entry more
pub within_more : (n : ℕ) (ks : List Kept) (e : Kept) → AreWithin n (writes_of ks) → AreWithin n e.writes → AreWithin n (writes_of (ks ++ e ∷ []))
unfolding writes_of
within_more n ks e h k =
    rw (writes_of-append ks (e ∷ []))
    (AreWithin-append n (writes_of ks) (e.writes ++ []) h (AreWithin-append n e.writes [] k (AreWithin-nil n)))

-- ---- where one stream has become another

put_row : (P : StreamLog → Type 0) (row : List StreamLog) (i j : ℕ) (l : StreamLog) → P l → P (nth no_log row j) → P (nth no_log (put no_log row i l) j)
put_row P row i j l new old =
    elim (cases_eq i j) [
      | inl same ↦ rw (← same, nth-put_same no_log row i l) new
      | inr other ↦ rw (nth-put_other no_log row i j l other) old
    ]

-- if a fact holds of a stored stream and of a new one, then it holds after the new one is written, of each stream
pub log_at-either : (P : StreamLog → Type 0) (logs : List (List StreamLog)) (s t : Stream) (l : StreamLog) → P l → P (log_at logs t) → P (log_at (with_log_at logs s l) t)
log_at-either P logs s t l new old =
    let row = put no_log (nth [] logs s.node) s.slot l in
    elim (cases_eq s.node t.node) [
      | inl same ↦ rw (← same, nth-put_same [] logs s.node row) (put_row P (nth [] logs s.node) s.slot t.slot l new (rw same old))
      | inr other ↦ rw (nth-put_other [] logs s.node t.node row other) old
    ]

-- if a stream is followed and a new stored stream writes objects within the bound, then it is so after the new one is written
pub IsFollowed-with_log_at : (n : ℕ) (logs : List (List StreamLog)) (s t : Stream) (l : StreamLog) → IsStreamOf logs s → AreWithin n (writes_of l.kept) → IsFollowed n logs t → IsFollowed n (with_log_at logs s l) t
IsFollowed-with_log_at n logs s t l h w f =
    record {
      stream = IsStreamOf-with_log_at logs s t l h f.stream;
      within = log_at-either (λ (m : StreamLog). AreWithin n (writes_of m.kept)) logs s t l w f.within;
    }

-- an entry that gets an acknowledgement writes what it wrote
within_acked : (k : ℕ) (ks : List Kept) (i from : ℕ) → AreWithin k (writes_of ks) → AreWithin k (writes_of (put no_kept ks i (acked_kept (nth no_kept ks i) from)))
unfolding writes_of put nth AreWithin
within_acked k [] zero from h = tt
within_acked k [] (suc i) from h = within_acked k [] i from h
within_acked k (e ∷ es) zero from h = h
within_acked k (e ∷ es) (suc i) from h =
    AreWithin-append k e.writes (writes_of (put no_kept es i (acked_kept (nth no_kept es i) from))) (AreWithin-left k e.writes (writes_of es) h) (within_acked k es i from (AreWithin-right k e.writes (writes_of es) h))

-- at the start each stream that there is is followed
pub IsFollowed-start : (k nodes slots : ℕ) (s : Stream) → s.node < nodes → s.slot < slots → IsFollowed k (replicate nodes (replicate slots no_log)) s
unfolding writes_of AreWithin
IsFollowed-start k nodes slots s h g =
    record {
      stream = IsStreamOf-start nodes slots s h g;
      within = rw (nth-replicate [] (replicate slots no_log) nodes s.node h, nth-replicate no_log no_log slots s.slot g) tt;
    }
