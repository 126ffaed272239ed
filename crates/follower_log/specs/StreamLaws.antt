-- Laws of the stored streams: what one becomes, what the others stay, and which streams there are.
use Rattle.std.specs.List.{slice_get}
use Rattle.std.specs.Prelude.{ℕ, zero, suc, ◌≡◌, ◌<◌, Bool, true, false, nat_lt, List, [], ◌∷◌, None, length, replicate, refl, if◌then◌else◌}
use Rattle.std.proofs.Common.{arith, sym, ap, ◌∙◌, inl, inr}
use Rattle.std.proofs.lemmas.Bool.{cases_eq, ltb-false}
use Rattle.std.proofs.lemmas.List.{length-replicate}
use Rattle.zeus_base.specs.TableLaws.{length-put, nth-put_other, nth-put_same, nth-replicate}
use Rattle.zeus_base.specs.Tables.{nth, put}
use Rattle.zeus_base.specs.declared.order.Stream.{Stream}
use Rattle.zeus_model.specs.declared.state.Kept.{Kept}
use Rattle.zeus_model.specs.State.{StreamLog, no_log}
use Rattle.follower_log.specs.Streams.{IsStreamOf, log_at, lowest_below, with_log_at}

-- the stream that becomes this is this
pub log_at-with_log_at : (logs : List (List StreamLog)) (s : Stream) (l : StreamLog) → log_at (with_log_at logs s l) s ≡ l
log_at-with_log_at logs s l =
    ap (λ (row : List StreamLog). nth no_log row s.slot) (nth-put_same [] logs s.node (put no_log (nth [] logs s.node) s.slot l))
    ∙ nth-put_same no_log (nth [] logs s.node) s.slot l

put-put_same : {A : Type 0} (d : A) (xs : List A) (i : ℕ) (v w : A) → put d (put d xs i v) i w ≡ put d xs i w
unfolding put
put-put_same d [] zero v w = refl
put-put_same d [] (suc i) v w = ap (λ l. d ∷ l) (put-put_same d [] i v w)
put-put_same d (x ∷ xs) zero v w = refl
put-put_same d (x ∷ xs) (suc i) v w = ap (λ l. x ∷ l) (put-put_same d xs i v w)

-- a stream that becomes one thing and then another is the last
pub with_log_at-with_log_at : (logs : List (List StreamLog)) (s : Stream) (l m : StreamLog) → with_log_at (with_log_at logs s l) s m ≡ with_log_at logs s m
with_log_at-with_log_at logs s l m =
    ap (λ (row : List StreamLog). put [] (with_log_at logs s l) s.node (put no_log row s.slot m)) (nth-put_same [] logs s.node (put no_log (nth [] logs s.node) s.slot l))
    ∙ ap (put [] (with_log_at logs s l) s.node) (put-put_same no_log (nth [] logs s.node) s.slot l m)
    ∙ put-put_same [] logs s.node (put no_log (nth [] logs s.node) s.slot l) (put no_log (nth [] logs s.node) s.slot m)

-- the same streams there are after one has become another
pub length_row-put : (logs : List (List StreamLog)) (s : Stream) (row : List StreamLog) (m : ℕ) → length row ≡ length (nth [] logs s.node) → length (nth [] (put [] logs s.node row) m) ≡ length (nth [] logs m)
length_row-put logs s row m e =
    elim (cases_eq s.node m) [
      | inl same ↦ ap (λ (k : ℕ). length (nth [] (put [] logs s.node row) k)) (sym same) ∙ ap length (nth-put_same [] logs s.node row) ∙ e ∙ ap (λ (k : ℕ). length (nth [] logs k)) same
      | inr other ↦ ap length (nth-put_other [] logs s.node m row other)
    ]

-- if a stream is one of those stored, then it is so after another or itself is written
pub IsStreamOf-with_log_at : (logs : List (List StreamLog)) (s t : Stream) (l : StreamLog) → IsStreamOf logs s → IsStreamOf logs t → IsStreamOf (with_log_at logs s l) t
IsStreamOf-with_log_at logs s t l h g =
    let row = put no_log (nth [] logs s.node) s.slot l in
    record {
      node = rw (length-put [] logs s.node row h.node) g.node;
      slot = rw (length_row-put logs s row t.node (length-put no_log (nth [] logs s.node) s.slot l h.slot)) g.slot;
    }

-- the streams that there are at the start
pub IsStreamOf-start : (nodes slots : ℕ) (s : Stream) → s.node < nodes → s.slot < slots → IsStreamOf (replicate nodes (replicate slots no_log)) s
IsStreamOf-start nodes slots s h g =
    record {
      node = rw (length-replicate nodes (replicate slots no_log)) h;
      slot = rw (nth-replicate [] (replicate slots no_log) nodes s.node h, length-replicate slots no_log) g;
    }

none_first : (ks : List Kept) → None ≡ slice_get ks 0 → ks ≡ []
none_first [] h = refl
none_first (k ∷ ks) h = absurd cc

none_lowest-by : (l : StreamLog) (d : ℕ) (b : Bool) → nat_lt l.done d ≡ b → None ≡ (if b then slice_get l.kept 0 else None) → l.done < d → l.kept ≡ []
none_lowest-by l d true low h less = none_first l.kept h
none_lowest-by l d false low h less = absurd (omega (arith, ltb-false l.done d low))

-- where no entry is taken out, none is stored below the number
pub none_lowest : (l : StreamLog) (d : ℕ) → None ≡ lowest_below l d → l.done < d → l.kept ≡ []
none_lowest l d h less = none_lowest-by l d (nat_lt l.done d) refl h less
