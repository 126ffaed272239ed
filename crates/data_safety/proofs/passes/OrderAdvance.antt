-- Streams that advance: what a node becomes does not depend on the order in which they do.
use Rattle.std.specs.Prelude.{ℕ, zero, suc, ◌≡◌, ◌≢◌, ◌-◌, ◌==◌, List, [], ◌∷◌, Option, Some, None, take, map, ◌⊎◌, if◌then◌else◌}
use Rattle.std.proofs.Common.{arith, refl, sym, ap, ◌∙◌, inl, inr, eq-eqb}
use Rattle.std.proofs.lemmas.Bool.{cases_eq, ne_eqb}
use Rattle.zeus_base.specs.declared.order.Stream.{Stream}
use Rattle.zeus_base.specs.declared.step.Passed.{Passed}
use Rattle.zeus_base.specs.TableLaws.{nth-put_same}
use Rattle.zeus_packet.specs.declared.write.Write.{Write}
use Rattle.zeus_model.specs.Tables.{nth, put}
use Rattle.zeus_model.specs.declared.state.Copy.{Copy}
use Rattle.zeus_model.specs.State.{Node, Slot, StreamLog, no_slot, no_log, slot, log}
use Rattle.zeus_model.specs.Commit.{validated, each_write, writes_of, as_kept, pass_own, pass_kept}
use Rattle.machine_moves.proofs.Lists.{nth-put_other, put-put}
use Rattle.machine_moves.proofs.Within.{slot-with_slot_other, log-with_log_other, stream_cases}
use Rattle.machine_moves.proofs.Passing.{node_by, node_with_logs, pass_of, pass_kept_of}

-- ---- tables

put-swap : {A : Type 0} (d : A) (xs : List A) (i j : ℕ) (v w : A) → i ≢ j → put d (put d xs i v) j w ≡ put d (put d xs j w) i v
unfolding put
put-swap d xs zero zero v w ne = absurd (ne refl)
put-swap d [] zero (suc j) v w ne = refl
put-swap d [] (suc i) zero v w ne = refl
put-swap {A = A} d [] (suc i) (suc j) v w ne = ap (λ (ys : List A). d ∷ ys) (put-swap d [] i j v w (λ e. ne (ap suc e)))
put-swap d (x ∷ xs) zero (suc j) v w ne = refl
put-swap d (x ∷ xs) (suc i) zero v w ne = refl
put-swap {A = A} d (x ∷ xs) (suc i) (suc j) v w ne = ap (λ (ys : List A). x ∷ ys) (put-swap d xs i j v w (λ e. ne (ap suc e)))

-- ---- copies

-- the copies after one write is validated
abbrev validated_at : List (Option Copy) → Write → List (Option Copy)
validated_at copies w = put None copies w.obj (validated w (nth None copies w.obj))

validated-swap : (v w : Write) (c : Option Copy) → validated v (validated w c) ≡ validated w (validated v c)
unfolding validated
validated-swap v w None = refl
validated-swap v w (Some c) = grind arith

same_twice : (copies : List (Option Copy)) (x : ℕ) (f g : Option Copy → Option Copy) → put None (put None copies x (f (nth None copies x))) x (g (nth None (put None copies x (f (nth None copies x))) x)) ≡ put None copies x (g (f (nth None copies x)))
same_twice copies x f g = rw (nth-put_same None copies x (f (nth None copies x)), put-put) refl

other_twice : (copies : List (Option Copy)) (x y : ℕ) (f g : Option Copy → Option Copy) → x ≢ y → put None (put None copies x (f (nth None copies x))) y (g (nth None (put None copies x (f (nth None copies x))) y)) ≡ put None (put None copies x (f (nth None copies x))) y (g (nth None copies y))
other_twice copies x y f g ne =
    ap (λ (c : Option Copy). put None (put None copies x (f (nth None copies x))) y (g c)) (nth-put_other None copies x y (f (nth None copies x)) (λ e. ne (sym e)))

validated_at-swap : (copies : List (Option Copy)) (v w : Write) → validated_at (validated_at copies v) w ≡ validated_at (validated_at copies w) v
unfolding validated
validated_at-swap copies v w =
    elim (cases_eq v.obj w.obj) [
      | inl same ↦ rw same
          (same_twice copies w.obj (validated v) (validated w)
          ∙ ap (λ (c : Option Copy). put None copies w.obj c) (validated-swap w v (nth None copies w.obj))
          ∙ sym (same_twice copies w.obj (validated w) (validated v)))
      | inr other ↦
          other_twice copies v.obj w.obj (validated v) (validated w) other
          ∙ put-swap None copies v.obj w.obj (validated v (nth None copies v.obj)) (validated w (nth None copies w.obj)) other
          ∙ sym (other_twice copies w.obj v.obj (validated w) (validated v) (λ e. other (sym e)))
    ]

validated_first : (copies : List (Option Copy)) (w : Write) (ws : List Write) → each_write validated (validated_at copies w) ws ≡ validated_at (each_write validated copies ws) w
unfolding each_write
validated_first copies w [] = refl
validated_first copies w (v ∷ ws) =
    ap (λ (c : List (Option Copy)). each_write validated c ws) (validated_at-swap copies w v) ∙ validated_first (validated_at copies v) w ws

validated_swap : (copies : List (Option Copy)) (a b : List Write) → each_write validated (each_write validated copies a) b ≡ each_write validated (each_write validated copies b) a
unfolding each_write
validated_swap copies [] b = refl
validated_swap copies (w ∷ a) b =
    validated_swap (validated_at copies w) a b ∙ ap (λ (c : List (Option Copy)). each_write validated c a) (validated_first copies w b)

-- ---- two streams

own_swap : (m : Node) (i j a b : ℕ) → i ≢ j → pass_own (pass_own m i a) j b ≡ pass_own (pass_own m j b) i a
own_swap m i j a b ne =
    ap (λ (l : Slot). pass_of (pass_own m i a) j l b) (slot-with_slot_other m i j _ (λ e. ne (sym e)))
    ∙ node_by m _ _ _ _ (validated_swap m.copies (writes_of (take a (map as_kept (slot m i).pending))) (writes_of (take b (map as_kept (slot m j).pending)))) (put-swap no_slot m.slots i j _ _ ne)
    ∙ sym (ap (λ (l : Slot). pass_of (pass_own m j b) i l a) (slot-with_slot_other m j i _ ne))

mixed_swap : (m : Node) (i : ℕ) (t : Stream) (a b : ℕ) → pass_kept (pass_own m i a) t b ≡ pass_own (pass_kept m t b) i a
mixed_swap m i t a b =
    let x = pass_kept (pass_own m i a) t b in
    node_by x _ _ _ _ (validated_swap m.copies (writes_of (take a (map as_kept (slot m i).pending))) (writes_of (take b (log m t).kept))) refl

-- the logs with another of one stream
abbrev with_row : List (List StreamLog) → Stream → StreamLog → List (List StreamLog)
with_row logs t l = put [] logs t.node (put no_log (nth [] logs t.node) t.slot l)

rows_node : (logs : List (List StreamLog)) (t u : Stream) (a b : StreamLog) → t.node ≢ u.node → with_row (with_row logs t a) u b ≡ put [] (put [] logs t.node (put no_log (nth [] logs t.node) t.slot a)) u.node (put no_log (nth [] logs u.node) u.slot b)
rows_node logs t u a b ne =
    ap (λ (row : List StreamLog). put [] (with_row logs t a) u.node (put no_log row u.slot b)) (nth-put_other [] logs t.node u.node (put no_log (nth [] logs t.node) t.slot a) (λ e. ne (sym e)))

rows_same : (logs : List (List StreamLog)) (node s r : ℕ) (a b : StreamLog) → put [] (put [] logs node (put no_log (nth [] logs node) s a)) node (put no_log (nth [] (put [] logs node (put no_log (nth [] logs node) s a)) node) r b) ≡ put [] logs node (put no_log (put no_log (nth [] logs node) s a) r b)
rows_same logs node s r a b = rw (nth-put_same [] logs node (put no_log (nth [] logs node) s a), put-put) refl

rows_other : (logs : List (List StreamLog)) (t u : Stream) (a b : StreamLog) → t.node ≢ u.node → with_row (with_row logs t a) u b ≡ with_row (with_row logs u b) t a
rows_other logs t u a b ne =
    rows_node logs t u a b ne
    ∙ put-swap [] logs t.node u.node (put no_log (nth [] logs t.node) t.slot a) (put no_log (nth [] logs u.node) u.slot b) ne
    ∙ sym (rows_node logs u t b a (λ e. ne (sym e)))

rows_swap : (logs : List (List StreamLog)) (t u : Stream) (a b : StreamLog) → (t.node ≢ u.node) ⊎ (t.slot ≢ u.slot) → with_row (with_row logs t a) u b ≡ with_row (with_row logs u b) t a
rows_swap logs t u a b (inl ne) = rows_other logs t u a b ne
rows_swap logs t u a b (inr ne) =
    elim (cases_eq t.node u.node) [
      | inl same ↦ rw same
          (rows_same logs u.node t.slot u.slot a b
          ∙ ap (λ (row : List StreamLog). put [] logs u.node row) (put-swap no_log (nth [] logs u.node) t.slot u.slot a b ne)
          ∙ sym (rows_same logs u.node u.slot t.slot b a))
      | inr other ↦ rows_other logs t u a b other
    ]

kept_swap : (m : Node) (t u : Stream) (a b : ℕ) → (t.node ≢ u.node) ⊎ (t.slot ≢ u.slot) → pass_kept (pass_kept m t a) u b ≡ pass_kept (pass_kept m u b) t a
kept_swap m t u a b ne =
    ap (λ (l : StreamLog). pass_kept_of (pass_kept m t a) u l b) (log-with_log_other m t u _ (turned t u ne))
    ∙ node_with_logs m _ _ _ _ (validated_swap m.copies (writes_of (take a (log m t).kept)) (writes_of (take b (log m u).kept))) (rows_swap m.logs t u _ _ ne)
    ∙ sym (ap (λ (l : StreamLog). pass_kept_of (pass_kept m u b) t l a) (log-with_log_other m u t _ ne))
  where
    turned : (t u : Stream) → (t.node ≢ u.node) ⊎ (t.slot ≢ u.slot) → (u.node ≢ t.node) ⊎ (u.slot ≢ t.slot)
    turned t u (inl ne) = inl (λ e. ne (sym e))
    turned t u (inr ne) = inr (λ e. ne (sym e))

-- ---- what a node becomes

-- a stream advances: an own one, or a stored one
unfoldable pub advanced : Node → Passed → Node
advanced m p =
    if p.stream.node == m.me then pass_own m p.stream.slot (p.after - p.first) else pass_kept m p.stream (p.after - p.first)

-- streams advance one after another
unfoldable pub all_advanced : Node → List Passed → Node
all_advanced m [] = m
all_advanced m (p ∷ ps) = all_advanced (advanced m p) ps

-- for a pass of the node's own stream, to advance is to let that many of its pending entries pass
pub advanced-own : (m : Node) (p : Passed) → p.stream.node ≡ m.me → advanced m p ≡ pass_own m p.stream.slot (p.after - p.first)
unfolding advanced
advanced-own m p own = rw (eq-eqb p.stream.node m.me own) refl

-- for a pass of the stream of another node, to advance is to let that many of its stored entries pass
pub advanced-kept : (m : Node) (p : Passed) → p.stream.node ≢ m.me → advanced m p ≡ pass_kept m p.stream (p.after - p.first)
unfolding advanced
advanced-kept m p other = rw (ne_eqb p.stream.node m.me other) refl

-- two streams that are not the same
pub two_streams : (t u : Stream) → t ≢ u → (t.node ≢ u.node) ⊎ (t.slot ≢ u.slot)
two_streams t u ne = elim (stream_cases u t) [ inl same ↦ absurd (ne same) | inr other ↦ other ]

-- two different streams that advance in either order make the same node
pub advanced-swap : (m : Node) (p q : Passed) → p.stream ≢ q.stream → advanced (advanced m p) q ≡ advanced (advanced m q) p
advanced-swap m p q ne =
    elim (cases_eq p.stream.node m.me) [
      | inl own ↦ elim (cases_eq q.stream.node m.me) [
        | inl both ↦ rw (advanced-own m p own, advanced-own m q both)
            (advanced-own (pass_own m p.stream.slot (p.after - p.first)) q both
            ∙ own_swap m p.stream.slot q.stream.slot (p.after - p.first) (q.after - q.first) (slots_apart p.stream q.stream ne (own ∙ sym both))
            ∙ sym (advanced-own (pass_own m q.stream.slot (q.after - q.first)) p own))
        | inr other ↦ rw (advanced-own m p own, advanced-kept m q other)
            (advanced-kept (pass_own m p.stream.slot (p.after - p.first)) q other
            ∙ mixed_swap m p.stream.slot q.stream (p.after - p.first) (q.after - q.first)
            ∙ sym (advanced-own (pass_kept m q.stream (q.after - q.first)) p own))
      ]
      | inr foreign ↦ elim (cases_eq q.stream.node m.me) [
        | inl own ↦ rw (advanced-kept m p foreign, advanced-own m q own)
            (advanced-own (pass_kept m p.stream (p.after - p.first)) q own
            ∙ sym (mixed_swap m q.stream.slot p.stream (q.after - q.first) (p.after - p.first))
            ∙ sym (advanced-kept (pass_own m q.stream.slot (q.after - q.first)) p foreign))
        | inr other ↦ rw (advanced-kept m p foreign, advanced-kept m q other)
            (advanced-kept (pass_kept m p.stream (p.after - p.first)) q other
            ∙ kept_swap m p.stream q.stream (p.after - p.first) (q.after - q.first) (two_streams p.stream q.stream ne)
            ∙ sym (advanced-kept (pass_kept m q.stream (q.after - q.first)) p foreign))
      ]
    ]
  where
    slots_apart : (t u : Stream) → t ≢ u → t.node ≡ u.node → t.slot ≢ u.slot
    slots_apart t u ne node slot = ne (λ i. record { node = node i; slot = slot i })
