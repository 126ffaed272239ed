-- What a step writes into the book, transaction by transaction.
use Rattle.std.specs.Prelude.{ℕ, zero, suc, ◌≡◌, ◌≢◌, ◌==◌, ◌+◌, Bool, true, false, List, [], ◌∷◌, ◌++◌, Option, Some, None, if◌then◌else◌}
use Rattle.std.proofs.Common.{arith, refl, sym, ap, ◌∙◌, inl, inr}
use Rattle.std.proofs.lemmas.Bool.{cases_Bool, eqb-true, eq-eqb}
use Rattle.zeus_base.specs.Order.{same_stream}
use Rattle.zeus_base.specs.OrderLaws.{same_stream-true, same_stream-refl}
use Rattle.zeus_base.specs.TableLaws.{nth-put_same, nth-put_other}
use Rattle.zeus_base.specs.declared.order.Stream.{Stream}
use Rattle.zeus_model.specs.Tables.{nth}
use Rattle.zeus_model.specs.Book.{Book, TxRecord, EntryId, no_record, record_of, reply_or, book_point, book_ack, point_once, ack_once, is_entry, tx_from, tx_of, pass_tx}

-- the transaction of an entry is found

is_entry-same : (s : Stream) (k : ℕ) (e : Option EntryId) → e ≡ Some record { stream = s; number = k } → is_entry s k e ≡ true
unfolding is_entry
is_entry-same s k e h = rw h (rw (same_stream-refl s, eq-eqb k k refl) refl)

entry_of_parts : (s t : Stream) (j k : ℕ) → t ≡ s → j ≡ k → ◌≡◌ {A = EntryId} record { stream = t; number = j } record { stream = s; number = k }
entry_of_parts s t j k a b = rw (a, b) refl

is_entry-true : (s : Stream) (k : ℕ) (e : Option EntryId) → is_entry s k e ≡ true → e ≡ Some record { stream = s; number = k }
unfolding is_entry
is_entry-true s k None h = absurd cc
is_entry-true s k (Some e) h =
    elim (cases_Bool (same_stream e.stream s)) [
      | inl same ↦ let number : (e.number == k) ≡ true = rw same at h in
          ap (λ (i : EntryId). Some i) (entry_of_parts s e.stream e.number k (same_stream-true e.stream s same) (eqb-true e.number k number))
      | inr other ↦ absurd (cc (rw other at h))
    ]

tx_from-found : (s : Stream) (k i j : ℕ) (rs : List TxRecord) → (nth no_record rs j).entry ≡ Some record { stream = s; number = k }
    → (m : ℕ) × (tx_from s k i rs ≡ Some (i + m)) × ((nth no_record rs m).entry ≡ Some record { stream = s; number = k })
unfolding tx_from nth
tx_from-found s k i j [] h = absurd cc
tx_from-found s k i zero (r ∷ rs) h =
    let here : is_entry s k r.entry ≡ true = is_entry-same s k r.entry h in
    let at : i ≡ i + 0 = omega arith in
    (0, rw here (ap (λ (m : ℕ). Some m) at), h)
tx_from-found s k i (suc j) (r ∷ rs) h =
    elim (cases_Bool (is_entry s k r.entry)) [
      | inl here ↦
          let at : i ≡ i + 0 = omega arith in
          (0, rw here (ap (λ (m : ℕ). Some m) at), is_entry-true s k r.entry here)
      | inr other ↦
          let rest = tx_from-found s k (suc i) j rs h in
          let at : suc i + rest.0 ≡ i + suc rest.0 = omega arith in
          (suc rest.0, rw other (rest.1 ∙ ap (λ (m : ℕ). Some m) at), rest.2)
    ]

-- where it is the only one
pub tx_of-found : (b : Book) (s : Stream) (k id : ℕ) → ((i j : ℕ) (e : EntryId) → (record_of b i).entry ≡ Some e → (record_of b j).entry ≡ Some e → i ≡ j)
    → (record_of b id).entry ≡ Some record { stream = s; number = k } → tx_of b s k ≡ Some id
tx_of-found b s k id one h =
    let found = tx_from-found s k 0 id b.records h in
    let at : 0 + found.0 ≡ id = omega (arith, one found.0 id record { stream = s; number = k } found.2 h) in
    found.1 ∙ ap (λ (m : ℕ). Some m) at

-- ---- an entry passes

-- the record of a transaction that has its point now
abbrev pub pointed_record : Book → Bool → ℕ → TxRecord
pointed_record b own id =
    record {
      begun = (record_of b id).begun;
      entry = (record_of b id).entry;
      reply = (record_of b id).reply;
      point = Some b.steps;
      acked = if own then Some b.steps else (record_of b id).acked;
      refused = (record_of b id).refused;
    }

-- a transaction has its point, and where its own node says so its acknowledgement too
pub record HasPassed (before after : Book) (own : Bool) (id : ℕ) : Type 0 where
  pub steps : after.steps ≡ before.steps
  pub points : after.points ≡ before.points ++ record { id = id; reply = reply_or (record_of before id).reply } ∷ []
  pub here : record_of after id ≡ pointed_record before own id
  pub others : (j : ℕ) → j ≢ id → record_of after j ≡ record_of before j

pass_tx-own : (b : Book) (id : ℕ) → (record_of b id).point ≡ None → (record_of b id).acked ≡ None
    → (pass_tx b true (Some id)).book ≡ book_ack (book_point b id) id
unfolding pass_tx point_once ack_once
pass_tx-own b id unpointed unacked =
    let r : record_of (book_point b id) id ≡ record (record_of b id) { point = Some b.steps } = nth-put_same no_record b.records id (record (record_of b id) { point = Some b.steps }) in
    let none : (record_of (book_point b id) id).acked ≡ None = ap (λ (q : TxRecord). q.acked) r ∙ unacked in
    rw (unpointed, none) refl

pass_tx-kept : (b : Book) (id : ℕ) → (record_of b id).point ≡ None → (record_of b id).acked ≡ None
    → (pass_tx b false (Some id)).book ≡ book_point b id
unfolding pass_tx point_once ack_once
pass_tx-kept b id unpointed unacked =
    let r : record_of (book_point b id) id ≡ record (record_of b id) { point = Some b.steps } = nth-put_same no_record b.records id (record (record_of b id) { point = Some b.steps }) in
    let none : (record_of (book_point b id) id).acked ≡ None = ap (λ (q : TxRecord). q.acked) r ∙ unacked in
    rw (unpointed, none) refl

-- the first pass of an entry, at its own node
pub pass_tx-own_first : (b after : Book) (found : Option ℕ) (id : ℕ) → found ≡ Some id → (record_of b id).point ≡ None → (record_of b id).acked ≡ None
    → after ≡ (pass_tx b true found).book → HasPassed b after true id
pass_tx-own_first b after found id is unpointed unacked e =
    let made : after ≡ book_ack (book_point b id) id = e ∙ ap (λ (f : Option ℕ). (pass_tx b true f).book) is ∙ pass_tx-own b id unpointed unacked in
    let first : record_of (book_point b id) id ≡ record (record_of b id) { point = Some b.steps } = nth-put_same no_record b.records id (record (record_of b id) { point = Some b.steps }) in
    let second : record_of (book_ack (book_point b id) id) id ≡ record (record_of (book_point b id) id) { acked = Some b.steps } =
    nth-put_same no_record (book_point b id).records id (record (record_of (book_point b id) id) { acked = Some b.steps }) in
    record {
      steps = ap (λ (k : Book). k.steps) made;
      points = ap (λ (k : Book). k.points) made;
      here = ap (λ (k : Book). record_of k id) made ∙ second ∙ ap (λ (r : TxRecord). acked_at r b.steps) first;
      others = λ j other. ap (λ (k : Book). record_of k j) made
          ∙ nth-put_other no_record (book_point b id).records id j (record (record_of (book_point b id) id) { acked = Some b.steps }) (λ e. other (sym e))
          ∙ nth-put_other no_record b.records id j (record (record_of b id) { point = Some b.steps }) (λ e. other (sym e));
    }
  where
    acked_at : TxRecord → ℕ → TxRecord
    acked_at r step = record r { acked = Some step }

-- the first pass of an entry, elsewhere
pub pass_tx-kept_first : (b after : Book) (found : Option ℕ) (id : ℕ) → found ≡ Some id → (record_of b id).point ≡ None → (record_of b id).acked ≡ None
    → after ≡ (pass_tx b false found).book → HasPassed b after false id
pass_tx-kept_first b after found id is unpointed unacked e =
    let made : after ≡ book_point b id = e ∙ ap (λ (f : Option ℕ). (pass_tx b false f).book) is ∙ pass_tx-kept b id unpointed unacked in
    record {
      steps = ap (λ (k : Book). k.steps) made;
      points = ap (λ (k : Book). k.points) made;
      here = ap (λ (k : Book). record_of k id) made ∙ nth-put_same no_record b.records id (record (record_of b id) { point = Some b.steps });
      others = λ j other. ap (λ (k : Book). record_of k j) made
          ∙ nth-put_other no_record b.records id j (record (record_of b id) { point = Some b.steps }) (λ e. other (sym e));
    }

-- a later pass elsewhere writes nothing
pass_tx-none : (b : Book) (id step : ℕ) → (record_of b id).point ≡ Some step → (pass_tx b false (Some id)).book ≡ b
unfolding pass_tx point_once ack_once
pass_tx-none b id step pointed =
    rw pointed (by_ack b id (record_of b id).acked)
  where
    by_ack : (b : Book) (id : ℕ) (a : Option ℕ) → (ack_once b id false a).book ≡ b
    by_ack b id None = refl
    by_ack b id (Some k) = refl

-- if a transaction has its point already, then its pass at another node leaves the book
pub pass_tx-again : (b after : Book) (found : Option ℕ) (id step : ℕ) → found ≡ Some id → (record_of b id).point ≡ Some step
    → after ≡ (pass_tx b false found).book → after ≡ b
pass_tx-again b after found id step is pointed e = e ∙ ap (λ (f : Option ℕ). (pass_tx b false f).book) is ∙ pass_tx-none b id step pointed
