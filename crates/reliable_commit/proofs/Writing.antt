-- Loops over writes and names, from the first on.
use Rattle.std.proofs.Common.{ℕ, zero, suc, ◌≡◌, ◌<◌, ◌≤◌, ◌+◌, List, [], ◌∷◌, Option, None, length, drop, refl, sym, ap, ◌∙◌, arith, add-one, drop-cons}
use Rattle.std.specs.Prelude.{All}
use Rattle.std.proofs.Math.ListN.{get_or}
use Rattle.std.proofs.lemmas.List.{drop_all}
use Rattle.std.proofs.lemmas.List.Elements.{All-head, All-tail}
use Rattle.zeus_packet.specs.declared.write.Write.{Write}
use Rattle.zeus_model.specs.declared.state.Copy.{Copy}
use Rattle.zeus_model.specs.Commit.{each_write}
use Rattle.zeus_model.specs.Tables.{nth, put}
use Rattle.object_table.specs.HeldLaws.{unheld-nil}
use Rattle.object_table.specs.Table.{after_write, each_unheld, unheld}
use Rattle.object_table.specs.WriteLaws.{each_write-cons, each_write-nil}
use Rattle.object_table.specs.declared.hold.Hold.{Hold}

-- ---- writes one by one

-- making the write at a place, and then those behind it, is making the writes from the place on
pub each_write-at : (f : Write → Option Copy → Option Copy) (copies : List (Option Copy)) (ws : List Write) (i : ℕ) (w : Write) → i < length ws → w ≡ get_or ws i w → each_write f (after_write f copies w) (drop (i + 1) ws) ≡ each_write f copies (drop i ws)
each_write-at f copies ws i w h e =
    sym (each_write-cons f copies w (drop (i + 1) ws))
    ∙ ap (each_write f copies) (ap (λ (u : Write). u ∷ drop (i + 1) ws) e ∙ rw add-one (sym (drop-cons ws i w h)))

-- if a place is past the last write, then no write is made from there on
pub each_write-end : (f : Write → Option Copy → Option Copy) (copies : List (Option Copy)) (ws : List Write) (i : ℕ) → length ws ≤ i → copies ≡ each_write f copies (drop i ws)
each_write-end f copies ws i h = rw (drop_all i ws h) (sym (each_write-nil f copies))

-- ---- names one by one

unheld-cons : (holds : List (Option Hold)) (x : ℕ) (xs : List ℕ) → each_unheld holds (x ∷ xs) ≡ each_unheld (put None holds x (unheld (nth None holds x))) xs
unfolding each_unheld
unheld-cons holds x xs = refl

-- releasing the name at a place, and then those behind it, is releasing the names from the place on
pub unheld-at : (holds : List (Option Hold)) (xs : List ℕ) (i x : ℕ) → i < length xs → x ≡ get_or xs i x → each_unheld (put None holds x (unheld (nth None holds x))) (drop (i + 1) xs) ≡ each_unheld holds (drop i xs)
unheld-at holds xs i x h e =
    sym (unheld-cons holds x (drop (i + 1) xs))
    ∙ ap (each_unheld holds) (ap (λ (u : ℕ). u ∷ drop (i + 1) xs) e ∙ rw add-one (sym (drop-cons xs i x h)))

-- if a place is past the last name, then no name is released from there on
pub unheld-end : (holds : List (Option Hold)) (xs : List ℕ) (i : ℕ) → length xs ≤ i → holds ≡ each_unheld holds (drop i xs)
unheld-end holds xs i h = rw (drop_all i xs h) (sym (unheld-nil holds))

-- if a fact holds of all names of a list, then it holds of the one at each place
pub All-at : (P : ℕ → Type 0) (xs : List ℕ) (i d : ℕ) → All P xs → i < length xs → P (get_or xs i d)
All-at P [] i d h k = absurd (omega arith)
All-at P (x ∷ xs) zero d h k = All-head P x xs h
All-at P (x ∷ xs) (suc i) d h k = All-at P xs i d (All-tail P x xs h) (omega arith)
