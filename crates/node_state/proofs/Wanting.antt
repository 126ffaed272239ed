-- Whether some slot passes a test, by a search through the slots in order.
use Rattle.std.proofs.Common.{ℕ, zero, suc, ◌≡◌, ◌<◌, ◌≤◌, ◌+◌, Bool, true, false, List, ◌∷◌, Some, None, length, drop, refl, sym, ap, ◌∙◌, add-one, drop-cons, arith}
use Rattle.std.specs.List.{list_any}
use Rattle.std.specs.Prelude.{is_some}
use Rattle.std.proofs.lemmas.List.{drop_all}
use Rattle.zeus_base.specs.TableLaws.{nth_here}
use Rattle.zeus_model.specs.Membership.{is_wanted, names_it}
use Rattle.zeus_model.specs.State.{Node, Slot, no_slot, slot}
use Rattle.zeus_model.specs.Tables.{nth, where_true}
use Rattle.node_state.proofs.Searching.{found_from, found_from-all, found_from-here, found_from-later, found_from-none}

module _ {A : Type 0} (P : A → Bool) (d : A) (all : List A) where
  -- the place of an element, if it passes the test
  drop_here : (i : ℕ) → i < length all → drop i all ≡ nth d all i ∷ drop (suc i) all
  drop_here i h = drop-cons all i (nth d all i) h ∙ ap (λ x. x ∷ drop (suc i) all) (sym (nth_here d all i h))

  -- some element from a place on passes the test where the search from there finds one
  any_from : (i k : ℕ) → i + k ≡ length all → list_any P (drop i all) ≡ is_some (found_from (λ s. where_true (P (nth d all s)) s) (length all) i)
  unfolding where_true
  any_from i zero e =
      let past : length all ≤ i = omega arith in
      rw (drop_all i all past, found_from-none (λ s. where_true (P (nth d all s)) s) (length all) i past) refl
  any_from i (suc k) e =
      let less : i < length all = omega arith in
      let rest = any_from (suc i) k (omega arith) in
      elim (P (nth d all i)) as (λ b. P (nth d all i) ≡ b → list_any P (drop i all) ≡ is_some (found_from (λ s. where_true (P (nth d all s)) s) (length all) i)) [
        | true ↦ λ here.
            let found : where_true (P (nth d all i)) i ≡ Some i = rw here refl in
            rw (drop_here i less, here, found_from-here (λ s. where_true (P (nth d all s)) s) (length all) i i less found) refl
        | false ↦ λ other.
            let none : where_true (P (nth d all i)) i ≡ None = rw other refl in
            let later = found_from-later (λ s. where_true (P (nth d all s)) s) (length all) i less none in
            rw (drop_here i less, other) (rest ∙ ap is_some (rw add-one at later))
      ] refl

-- a current transaction names the object where that of some slot does
pub wanted-any : (n : Node) (x : ℕ) → list_any (λ (l : Slot). names_it x l.current) n.slots ≡ is_wanted n x
unfolding is_wanted
wanted-any n x =
    any_from (λ (l : Slot). names_it x l.current) no_slot n.slots 0 (length n.slots) (omega arith)
    ∙ ap is_some (found_from-all (λ s. where_true (names_it x (slot n s).current) s) (length n.slots))
