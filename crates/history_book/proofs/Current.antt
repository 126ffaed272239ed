-- What a current transaction has not got yet, and which number its entry will have.
use Rattle.std.proofs.Common.{ℕ, zero, suc, ◌≡◌, ◌<◌, ◌≤◌, Bool, true, false, List, [], ◌∷◌, Option, Some, None, length, refl, sym, ap, ◌∙◌, arith, inl, inr, ◌⊎◌}
use Rattle.std.specs.Prelude.{is_some, if◌then◌else◌}
use Rattle.std.specs.List.{slice_get}
use Rattle.std.proofs.lemmas.Bool.{cases_lt}
use Rattle.zeus_model.specs.Book.{EntryId, TxRecord}
use Rattle.zeus_model.specs.Readers.{state_of}
use Rattle.zeus_model.specs.declared.answer.TxState.TheVariants.{New, Current, Pending, Passed, Acked, Refused}
use Rattle.history_book.proofs.Rows.{none_past}

-- a transaction has neither an entry nor a point
pub record IsFree (r : TxRecord) : Type 0 where
  pub entry : r.entry ≡ None
  pub point : r.point ≡ None

free_by : (r : TxRecord) (refused : Bool) (acked point begun : Option ℕ) (entry : Option EntryId) → r.entry ≡ entry → r.point ≡ point
    → (if refused then Refused else (if is_some acked then Acked else (if is_some point then Passed else (if is_some entry then Pending else (if is_some begun then Current else New))))) ≡ Current → IsFree r
free_by r true acked point begun entry e p h = cc
free_by r false (Some a) point begun entry e p h = cc
free_by r false None (Some a) begun entry e p h = cc
free_by r false None None begun (Some a) e p h = cc
free_by r false None None begun None e p h = record { entry = e; point = p }

-- a current transaction has neither an entry nor a point
pub current_free : (r : TxRecord) → state_of r ≡ Current → IsFree r
unfolding state_of
current_free r h = free_by r r.refused r.acked r.point r.begun r.entry refl refl h

get_some : (ids : List ℕ) (k : ℕ) → k < length ids → is_some (slice_get ids k) ≡ true
get_some [] k h = absurd (omega arith)
get_some (x ∷ ids) zero h = refl
get_some (x ∷ ids) (suc k) h = get_some ids k (omega arith)

-- a list that has just the numbers below one has so many
pub next_is : (ids : List ℕ) (number : ℕ) (o : ℕ → Option ℕ) → ((k : ℕ) → o k ≡ slice_get ids k) → ((k : ℕ) → k < number → is_some (o k) ≡ true) → o number ≡ None → length ids ≡ number
next_is ids number o found below free = elim (cases_lt (length ids) number) [
  | inl less ↦
      let has : is_some (o (length ids)) ≡ true = below (length ids) less in
      let no : is_some (o (length ids)) ≡ false = ap is_some (found (length ids) ∙ none_past ids (length ids) (omega arith)) in
      cc
  | inr not_less ↦ elim (cases_lt number (length ids)) [
    | inl more ↦
        let has : is_some (o number) ≡ true = ap is_some (found number) ∙ get_some ids number more in
        let no : is_some (o number) ≡ false = ap is_some free in
        cc
    | inr not_more ↦ omega arith
  ]
]

acked_by : (r : TxRecord) (refused : Bool) (acked point begun : Option ℕ) (entry : Option EntryId) → r.acked ≡ acked
    → (if refused then Refused else (if is_some acked then Acked else (if is_some point then Passed else (if is_some entry then Pending else (if is_some begun then Current else New))))) ≡ Current → r.acked ≡ None
acked_by r true acked point begun entry e h = cc
acked_by r false (Some a) point begun entry e h = cc
acked_by r false None point begun entry e h = e

-- nor is it acknowledged
pub current_acked : (r : TxRecord) → state_of r ≡ Current → r.acked ≡ None
unfolding state_of
current_acked r h = acked_by r r.refused r.acked r.point r.begun r.entry refl h
