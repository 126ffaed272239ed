-- A search through the slots in order.
use Rattle.std.proofs.Common.{ℕ, ◌≡◌, ◌<◌, ◌≤◌, ◌+◌, ◌-◌, true, false, Option, Some, None, length, refl, arith}
use Rattle.std.proofs.Math.ListN.{get_or}
use Rattle.zeus_base.specs.TableLaws.{nth_read}
use Rattle.zeus_base.specs.LoopLaws.{numbers-next, numbers-none}
use Rattle.zeus_model.specs.Ownership.{keeper, keeps}
use Rattle.zeus_model.specs.State.{Node, Slot, no_slot, slot}
use Rattle.zeus_model.specs.Tables.{below, first_of, numbers_from, or_else, where_true}

module _ {B : Type 0} (f : ℕ → Option B) (n : ℕ) where
  -- what is found from a number on
  abbrev pub found_from : ℕ → Option B
  found_from i = first_of f (numbers_from i (n - i))

  pub found_from-all : found_from 0 ≡ first_of f (below n)
  found_from-all =
      let all : n - 0 ≡ n = omega arith in
      rw all refl

  pub found_from-none : (i : ℕ) → n ≤ i → found_from i ≡ None
  unfolding first_of
  found_from-none i h = rw (numbers-none i n h) refl

  pub found_from-here : (i : ℕ) (b : B) → i < n → f i ≡ Some b → found_from i ≡ Some b
  unfolding first_of or_else
  found_from-here i b h e = rw (numbers-next i n h, e) refl

  pub found_from-later : (i : ℕ) → i < n → f i ≡ None → found_from (i + 1) ≡ found_from i
  unfolding first_of or_else
  found_from-later i h e = rw (numbers-next i n h, e) refl

-- ---- the keeper of an object

module _ (n : Node) (x : ℕ) where
  -- the least slot from one on whose current write transaction names the object
  abbrev pub keeper_from : ℕ → Option ℕ
  keeper_from i = found_from (λ s. where_true (keeps x (slot n s).current) s) (length n.slots) i

  pub keeper_from-all : keeper_from 0 ≡ keeper n x
  unfolding keeper
  keeper_from-all = found_from-all (λ s. where_true (keeps x (slot n s).current) s) (length n.slots)

  pub keeper_from-none : (i : ℕ) → length n.slots ≤ i → keeper_from i ≡ None
  keeper_from-none i h = found_from-none (λ s. where_true (keeps x (slot n s).current) s) (length n.slots) i h

  module _ (i : ℕ) (l : Slot) (less : i < length n.slots) (here : l ≡ get_or n.slots i l) where
    pub keeper_from-here : true ≡ keeps x l.current → keeper_from i ≡ Some i
    unfolding where_true
    keeper_from-here e =
        found_from-here (λ s. where_true (keeps x (slot n s).current) s) (length n.slots) i i less
        (rw (nth_read no_slot n.slots i l less here, ← e) refl)

    pub keeper_from-later : false ≡ keeps x l.current → keeper_from (i + 1) ≡ keeper_from i
    unfolding where_true
    keeper_from-later e =
        found_from-later (λ s. where_true (keeps x (slot n s).current) s) (length n.slots) i less
        (rw (nth_read no_slot n.slots i l less here, ← e) refl)
