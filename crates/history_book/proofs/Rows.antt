-- The lists of the streams, when an entry is added to one.
use Rattle.std.proofs.Common.{ℕ, zero, suc, ◌≡◌, ◌≢◌, ◌<◌, ◌≤◌, ◌+◌, ◌++◌, ◌⊎◌, inl, inr, List, [], ◌∷◌, Option, Some, None, length, refl, sym, ap, ◌∙◌, arith}
use Rattle.std.specs.List.{slice_get}
use Rattle.zeus_base.specs.TableLaws.{nth-put_same, nth-put_other, length-put}
use Rattle.zeus_base.specs.declared.order.Stream.{Stream}
use Rattle.zeus_model.specs.Tables.{nth, put}
use Rattle.history_book.specs.Ids.{IdsState, no_ids}
use Rattle.history_book.specs.Entries.{HasSlots, IsStream, of_stream}
use Rattle.history_book.proofs.History.{equal_or_not}

-- the rows with another list at a stream
abbrev pub with_list : List (List IdsState) → Stream → IdsState → List (List IdsState)
with_list rows s l = put [] rows s.node (put no_ids (nth [] rows s.node) s.slot l)

pub record IsSameStream (s t : Stream) : Type 0 where
  pub node : s.node ≡ t.node
  pub slot : s.slot ≡ t.slot

-- two streams are the same, or differ in node or slot
pub same_or_not : (s t : Stream) → IsSameStream s t ⊎ ((s.node ≢ t.node) ⊎ (s.slot ≢ t.slot))
same_or_not s t = elim (equal_or_not s.node t.node) [
  | inl node ↦ elim (equal_or_not s.slot t.slot) [
    | inl slot ↦ inl (record { node = node; slot = slot })
    | inr other ↦ inr (inr other)
  ]
  | inr other ↦ inr (inl other)
]

-- the stream that was written has the new list
pub list_here : (rows : List (List IdsState)) (s t : Stream) (l : IdsState) → IsSameStream s t → of_stream (with_list rows s l) t ≡ l
list_here rows s t l e =
    rw (← e.node, ← e.slot, nth-put_same [] rows s.node (put no_ids (nth [] rows s.node) s.slot l)) (nth-put_same no_ids (nth [] rows s.node) s.slot l)

-- each other stream has the list that it had
pub list_other : (rows : List (List IdsState)) (s t : Stream) (l : IdsState) → (s.node ≢ t.node) ⊎ (s.slot ≢ t.slot) → of_stream (with_list rows s l) t ≡ of_stream rows t
list_other rows s t l (inl node) = ap (λ (r : List IdsState). nth no_ids r t.slot) (nth-put_other [] rows s.node t.node (put no_ids (nth [] rows s.node) s.slot l) node)
list_other rows s t l (inr slot) = elim (equal_or_not s.node t.node) [
  | inl same ↦ rw (← same, nth-put_same [] rows s.node (put no_ids (nth [] rows s.node) s.slot l)) (nth-put_other no_ids (nth [] rows s.node) s.slot t.slot l slot)
  | inr other ↦ ap (λ (r : List IdsState). nth no_ids r t.slot) (nth-put_other [] rows s.node t.node (put no_ids (nth [] rows s.node) s.slot l) other)
]

-- there are as many nodes and slots as before
pub slots_stay : (nodes slots : ℕ) (rows : List (List IdsState)) (s : Stream) (l : IdsState) → HasSlots nodes slots rows → IsStream nodes slots s → HasSlots nodes slots (with_list rows s l)
slots_stay nodes slots rows s l h is =
    let there : s.node < length rows = rw h.count is.node in
    let slot : s.slot < length (nth [] rows s.node) = rw (h.each s.node is.node) is.slot in
    record {
      count = length-put [] rows s.node (put no_ids (nth [] rows s.node) s.slot l) there ∙ h.count;
      each = λ n k. elim (equal_or_not s.node n) [
        | inl same ↦ rw (← same, nth-put_same [] rows s.node (put no_ids (nth [] rows s.node) s.slot l)) (length-put no_ids (nth [] rows s.node) s.slot l slot ∙ h.each s.node is.node)
        | inr other ↦ ap length (nth-put_other [] rows s.node n (put no_ids (nth [] rows s.node) s.slot l) other) ∙ h.each n k
      ];
    }

-- the last of a list stands at its end, and all others as before
pub get_last : (ids : List ℕ) (id : ℕ) → slice_get (ids ++ id ∷ []) (length ids) ≡ Some id
get_last [] id = refl
get_last (x ∷ ids) id = get_last ids id

-- one more transaction at the end of a stream leaves those at other places
pub get_others : (ids : List ℕ) (id k : ℕ) → k ≢ length ids → slice_get (ids ++ id ∷ []) k ≡ slice_get ids k
get_others [] id zero h = absurd (h refl)
get_others [] id (suc k) h = refl
get_others (x ∷ ids) id zero h = refl
get_others (x ∷ ids) id (suc k) h = get_others ids id k (λ e. h (ap suc e))

-- past the end of a stream there is no transaction
pub none_past : (ids : List ℕ) (k : ℕ) → length ids ≤ k → slice_get ids k ≡ None
none_past [] k h = refl
none_past (x ∷ ids) zero h = absurd (omega arith)
none_past (x ∷ ids) (suc k) h = none_past ids k (omega arith)

-- a node without lists has none for any slot
pub no_list : (slot : ℕ) → nth no_ids [] slot ≡ no_ids
unfolding nth
no_list slot = refl

-- what holds of each, and of one more, holds of each behind it
pub holds_append : {A : Type 0} (P : A → Type 0) (d : A) (xs : List A) (y : A) → ((i : ℕ) → P (nth d xs i)) → P y → (i : ℕ) → P (nth d (xs ++ y ∷ []) i)
unfolding nth
holds_append P d [] y each h zero = h
holds_append P d [] y each h (suc i) = each i
holds_append P d (x ∷ xs) y each h zero = each 0
holds_append P d (x ∷ xs) y each h (suc i) = holds_append P d xs y (λ j. each (suc j)) h i

-- if a fact holds of each element of a list and of one more, then it holds of each with that one at the end
pub holds_below : {A : Type 0} (P : A → Type 0) (d : A) (xs : List A) (y : A) → ((i : ℕ) → i < length xs → P (nth d xs i)) → P y → (i : ℕ) → i < length xs + 1 → P (nth d (xs ++ y ∷ []) i)
unfolding nth
holds_below P d [] y each h zero k = h
holds_below P d [] y each h (suc i) k = absurd (omega arith)
holds_below P d (x ∷ xs) y each h zero k = each 0 (omega arith)
holds_below P d (x ∷ xs) y each h (suc i) k = holds_below P d xs y (λ j m. each (suc j) (omega arith)) h i (omega arith)

-- without streams, each stream is empty
pub no_rows : (s : Stream) → (of_stream [] s).ids ≡ []
unfolding nth
no_rows s = refl

-- without lists, the list of each slot is empty
pub nothing_in : (s : ℕ) → (nth no_ids [] s).ids ≡ []
unfolding nth
nothing_in s = refl
