-- The transaction of an entry, when a record is changed.
use Rattle.std.proofs.Common.{ℕ, zero, suc, ◌≡◌, ◌<◌, ◌≤◌, ◌+◌, ◌⊎◌, inl, inr, Bool, true, false, List, [], ◌∷◌, Option, Some, None, length, refl, sym, ap, ◌∙◌, arith}
use Rattle.std.specs.Prelude.{replicate, if◌then◌else◌, is_some}
use Rattle.std.proofs.lemmas.Bool.{cases_Bool}
use Rattle.zeus_base.specs.declared.order.Stream.{Stream}
use Rattle.zeus_model.specs.Tables.{nth, put}
use Rattle.zeus_model.specs.Book.{EntryId, TxRecord, is_entry, no_record, tx_from}

from_first : (s : Stream) (number i : ℕ) (r : TxRecord) (rs : List TxRecord) → is_entry s number r.entry ≡ true → tx_from s number i (r ∷ rs) ≡ Some i
unfolding tx_from
from_first s number i r rs h = rw h refl

from_next : (s : Stream) (number i : ℕ) (r : TxRecord) (rs : List TxRecord) → is_entry s number r.entry ≡ false → tx_from s number i (r ∷ rs) ≡ tx_from s number (suc i) rs
unfolding tx_from
from_next s number i r rs h = rw h refl

from_none : (s : Stream) (number i : ℕ) → tx_from s number i [] ≡ None
unfolding tx_from
from_none s number i = refl

same_head : (s : Stream) (number j : ℕ) (x r : TxRecord) (rs : List TxRecord) → is_entry s number r.entry ≡ is_entry s number x.entry
    → tx_from s number j (r ∷ rs) ≡ tx_from s number j (x ∷ rs)
unfolding tx_from
same_head s number j x r rs e = ap (λ (b : Bool). if b then Some j else tx_from s number (suc j) rs) e

same_tail : (s : Stream) (number j : ℕ) (x : TxRecord) (rs qs : List TxRecord) → tx_from s number (suc j) rs ≡ tx_from s number (suc j) qs
    → tx_from s number j (x ∷ rs) ≡ tx_from s number j (x ∷ qs)
unfolding tx_from
same_tail s number j x rs qs e = ap (λ (o : Option ℕ). if is_entry s number x.entry then Some j else o) e

-- a record that is the entry as before makes no difference
pub found_same :
    (s : Stream) (number j : ℕ) (rs : List TxRecord) (i : ℕ) (r : TxRecord) → i < length rs → is_entry s number r.entry ≡ is_entry s number (nth no_record rs i).entry
    → tx_from s number j (put no_record rs i r) ≡ tx_from s number j rs
unfolding nth put
found_same s number j [] i r h e = absurd (omega arith)
found_same s number j (x ∷ rs) zero r h e = same_head s number j x r rs e
found_same s number j (x ∷ rs) (suc i) r h e = same_tail s number j x (put no_record rs i r) rs (found_same s number (suc j) rs i r (omega arith) e)

some_none : (i : ℕ) → Some i ≡ None → ⊥
some_none i e = cc

not_first : (s : Stream) (number j : ℕ) (x : TxRecord) (rs : List TxRecord) → tx_from s number j (x ∷ rs) ≡ None → is_entry s number x.entry ≡ false
not_first s number j x rs e = elim (cases_Bool (is_entry s number x.entry)) [
  | inl is ↦ let f = from_first s number j x rs is in absurd (some_none j (sym f ∙ e))
  | inr not ↦ not
]

-- a record that becomes the entry, where none was it, is found
pub found_new :
    (s : Stream) (number j : ℕ) (rs : List TxRecord) (i : ℕ) (r : TxRecord) → i < length rs → tx_from s number j rs ≡ None → is_entry s number r.entry ≡ true
    → tx_from s number j (put no_record rs i r) ≡ Some (j + i)
unfolding put
found_new s number j [] i r h none is = absurd (omega arith)
found_new s number j (x ∷ rs) zero r h none is = let z : j + 0 ≡ j = omega arith in rw z (from_first s number j r rs is)
found_new s number j (x ∷ rs) (suc i) r h none is =
    let other = not_first s number j x rs none in
    let rest : tx_from s number (suc j) rs ≡ None = sym (from_next s number j x rs other) ∙ none in
    let z : suc j + i ≡ j + suc i = omega arith in
    from_next s number j x (put no_record rs i r) other ∙ found_new s number (suc j) rs i r (omega arith) rest is ∙ ap Some z

-- nobody is an entry at the start
pub found_nobody : (s : Stream) (number j n : ℕ) → tx_from s number j (replicate n no_record) ≡ None
unfolding tx_from is_entry
found_nobody s number j zero = refl
found_nobody s number j (suc n) = found_nobody s number (suc j) n

-- who is found is the entry
pub record IsFound (s : Stream) (number j : ℕ) (rs : List TxRecord) (id : ℕ) : Type 0 where
  pub place : ℕ
  pub at : id ≡ j + place
  pub there : place < length rs
  pub is : is_entry s number (nth no_record rs place).entry ≡ true

some_same : (i j : ℕ) → Some i ≡ Some j → i ≡ j
some_same i j e = cc

-- if an entry's transaction is found, then its record has the entry
pub found_is : (s : Stream) (number j : ℕ) (rs : List TxRecord) (id : ℕ) → tx_from s number j rs ≡ Some id → IsFound s number j rs id
unfolding nth
found_is s number j [] id e = absurd (some_none id (sym e ∙ from_none s number j))
found_is s number j (x ∷ rs) id e = elim (cases_Bool (is_entry s number x.entry)) [
  | inl is ↦ record { place = 0; at = let here = some_same id j (sym e ∙ from_first s number j x rs is) in omega arith; there = omega arith; is = is }
  | inr not ↦
      let later = found_is s number (suc j) rs id (sym (from_next s number j x rs not) ∙ e) in
      record { place = suc later.place; at = let a = later.at in omega arith; there = let h = later.there in omega arith; is = later.is }
]

-- the entry that a record has is some
pub entry_there : (s : Stream) (number : ℕ) (e : Option EntryId) → is_entry s number e ≡ true → is_some e ≡ true
unfolding is_entry
entry_there s number None h = cc
entry_there s number (Some e) h = refl
