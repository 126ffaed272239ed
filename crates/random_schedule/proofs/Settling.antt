-- When all transactions are closed.
use Rattle.std.proofs.Common.{ℕ, zero, suc, ◌≡◌, ◌<◌, ◌≤◌, ◌+◌, ◌-◌, Bool, true, false, List, [], length, arith, refl, ap, sym, ◌∙◌, inl, inr}
use Rattle.std.proofs.lemmas.Bool.{cases_eq}
use Rattle.zeus_base.specs.LoopLaws.{numbers-next}
use Rattle.zeus_model.specs.Readers.{is_closed, each_closed, all_closed}
use Rattle.zeus_model.specs.Tables.{numbers_from}
use Rattle.zeus_model.specs.World.{World}
use Rattle.random_schedule.specs.Ready.{AreSettled, is_settled}

settled-closed : (w : World) (k : ℕ) → is_settled w k ≡ true → is_closed w k ≡ true
unfolding is_settled is_closed
settled-closed w k h = rw h refl

-- one more is settled
pub settled_more : (w : World) (i : ℕ) → AreSettled w i → i < length w.txs → is_settled w i ≡ true → AreSettled w (i + 1)
settled_more w i s h here = record {
  within = omega arith;
  each = λ k below. elim (cases_eq k i) [
    | inl same ↦ rw same here
    | inr other ↦ s.each k (omega arith)
  ];
}

-- a closed one in front changes nothing
pub closed_on : (w : World) (k n : ℕ) → k < n → is_closed w k ≡ true → each_closed w (numbers_from (k + 1) (n - (k + 1))) ≡ each_closed w (numbers_from k (n - k))
unfolding each_closed
closed_on w k n h c = rw (numbers-next k n h, c) refl

-- one that is not closed decides
pub not_closed : (w : World) (k n : ℕ) → k < n → is_closed w k ≡ false → false ≡ each_closed w (numbers_from k (n - k))
unfolding each_closed
not_closed w k n h c = rw (numbers-next k n h, c) refl

-- past the last transaction all that are left are closed
pub none_left : (w : World) (k n : ℕ) → n ≤ k → each_closed w (numbers_from k (n - k)) ≡ true
unfolding each_closed numbers_from
none_left w k n h = let s : n - k ≡ 0 = omega arith in rw s refl

skip : (w : World) (m n : ℕ) → m ≤ n → ((k : ℕ) → k < m → is_settled w k ≡ true) → each_closed w (numbers_from m (n - m)) ≡ each_closed w (numbers_from 0 (n - 0))
skip w zero n h s = refl
skip w (suc m) n h s =
    let one : suc m ≡ m + 1 = omega arith in
    ap (λ j. each_closed w (numbers_from j (n - j))) one ∙ (closed_on w m n (omega arith) (settled-closed w m (s m (omega arith))) ∙ skip w m n (omega arith) (λ k b. s k (omega arith)))

-- those that are settled need not be looked at
pub skip_settled : (w : World) (m : ℕ) → AreSettled w m → each_closed w (numbers_from m (length w.txs - m)) ≡ all_closed w
skip_settled w m s =
    let n : length w.txs - 0 ≡ length w.txs = omega arith in
    skip w m (length w.txs) s.within s.each ∙ ap (λ j. each_closed w (numbers_from 0 j)) n
