-- The book of a run only grows: what is begun, acknowledged or refused stays so.
use Rattle.std.proofs.Common.{ℕ, ◌≡◌, ◌-◌, Bool, true, false, List, [], ◌∷◌, Option, Some, None, refl, inl, inr}
use Rattle.std.specs.Prelude.{is_none, is_some, ◌==◌, if◌then◌else◌}
use Rattle.std.proofs.lemmas.Bool.{cases_eq, cond_both}
use Rattle.zeus_base.specs.TableLaws.{nth-put_same, nth-put_other}
use Rattle.zeus_base.specs.declared.order.Stream.{Stream}
use Rattle.zeus_base.specs.declared.step.Passed.{Passed}
use Rattle.zeus_txn.specs.declared.reply.Reply.{Reply}
use Rattle.zeus_model.specs.Tables.{nth, put, numbers_from}
use Rattle.zeus_model.specs.Book.{Book, BookChange, TxRecord, record_of, no_record, book_only, change_then, book_begin, book_point, book_ack, book_commit, book_reply, book_read, book_refuse, point_once, ack_once, pass_tx, pass_numbers, book_passes, book_tried, tx_of}
use Rattle.zeus_model.specs.World.{book_begun}
use Rattle.zeus_model.specs.declared.answer.Begin.{Begin as BeginOutcome}
use Rattle.zeus_model.specs.declared.answer.Begin.TheVariants.{Begun, Stopped, Busy}
use Rattle.zeus_model.specs.declared.answer.Tried.{Tried}
use Rattle.zeus_model.specs.declared.answer.Tried.TheVariants.{NoCopy, Read, Committed}

-- what a record says of a transaction stays
pub record Grows (r q : TxRecord) : Type 0 where
  pub begun : is_some r.begun ≡ true → is_some q.begun ≡ true
  pub acked : is_some r.acked ≡ true → is_some q.acked ≡ true
  pub refused : r.refused ≡ true → q.refused ≡ true

-- what the records say of transactions stays
pub record BookGrows (b c : Book) : Type 0 where
  pub records : (id : ℕ) → Grows (record_of b id) (record_of c id)

grows-same : (r : TxRecord) → Grows r r
grows-same r = record { begun = λ h. h; acked = λ h. h; refused = λ h. h }

grows-on : (r s q : TxRecord) → Grows r s → Grows s q → Grows r q
grows-on r s q g h = record { begun = λ e. h.begun (g.begun e); acked = λ e. h.acked (g.acked e); refused = λ e. h.refused (g.refused e) }

-- a book grows if it stays as it is
pub book-same : (b : Book) → BookGrows b b
book-same b = record { records = λ id. grows-same (record_of b id) }

-- if a book grows twice in a row, then it grows over both
pub book-on : (b c d : Book) → BookGrows b c → BookGrows c d → BookGrows b d
book-on b c d g h = record { records = λ id. grows-on (record_of b id) (record_of c id) (record_of d id) (g.records id) (h.records id) }

-- a record is rewritten
put-grows : (rs : List TxRecord) (id : ℕ) (r : TxRecord) → Grows (nth no_record rs id) r → (k : ℕ) → Grows (nth no_record rs k) (nth no_record (put no_record rs id r) k)
put-grows rs id r h k = elim (cases_eq id k) [
  | inl same ↦ rw (← same, nth-put_same no_record rs id r) h
  | inr other ↦ rw (nth-put_other no_record rs id k r other) (grows-same (nth no_record rs k))
]

begin-grows : (b : Book) (id : ℕ) → BookGrows b (book_begin b id)
begin-grows b id = record { records = put-grows b.records id _ (record { begun = λ h. refl; acked = λ h. h; refused = λ h. h }) }

point-grows : (b : Book) (id : ℕ) → BookGrows b (book_point b id)
point-grows b id = record { records = put-grows b.records id _ (record { begun = λ h. h; acked = λ h. h; refused = λ h. h }) }

ack-grows : (b : Book) (id : ℕ) → BookGrows b (book_ack b id)
ack-grows b id = record { records = put-grows b.records id _ (record { begun = λ h. h; acked = λ h. refl; refused = λ h. h }) }

reply-grows : (b : Book) (id : ℕ) (reply : Reply) → BookGrows b (book_reply b id reply)
reply-grows b id reply = record { records = put-grows b.records id _ (record { begun = λ h. h; acked = λ h. h; refused = λ h. h }) }

commit-grows : (b : Book) (s : Stream) (id number : ℕ) (reply : Reply) → BookGrows b (book_commit b s id number reply)
commit-grows b s id number reply = record { records = put-grows b.records id _ (record { begun = λ h. h; acked = λ h. h; refused = λ h. h }) }

refuse-grows : (b : Book) (id : ℕ) → BookGrows b (book_refuse b id)
refuse-grows b id = record { records = put-grows b.records id _ (record { begun = λ h. h; acked = λ h. h; refused = λ h. refl }) }

read-grows : (b : Book) (id : ℕ) (reply : Reply) → BookGrows b (book_read b id reply).book
read-grows b id reply =
    let replied = book_reply b id reply in
    let pointed = book_point replied id in
    book-on b replied (book_ack pointed id) (reply-grows b id reply)
    (book-on replied pointed (book_ack pointed id) (point-grows replied id) (ack-grows pointed id))

-- a begin makes the book grow
pub begun-grows : (o : BeginOutcome) (b : Book) (id : ℕ) → BookGrows b (book_begun b id o).book
unfolding book_begun
begun-grows Begun b id = begin-grows b id
begun-grows Stopped b id = book-same b
begun-grows (Busy other) b id = book-same b

-- ---- passes

then-grows : (b : Book) (x : BookChange) (next : Book → BookChange) → BookGrows b x.book → ((c : Book) → BookGrows c (next c).book) → BookGrows b (change_then x next).book
then-grows b x next first second = book-on b x.book (next x.book).book first (second x.book)

point_once-grows : (o : Option ℕ) (b : Book) (id : ℕ) → BookGrows b (point_once b id o).book
unfolding point_once
point_once-grows (Some step) b id = book-same b
point_once-grows None b id = point-grows b id

ack_once-grows : (o : Option ℕ) (own : Bool) (b : Book) (id : ℕ) → BookGrows b (ack_once b id own o).book
unfolding ack_once
ack_once-grows (Some step) own b id = book-same b
ack_once-grows None true b id = ack-grows b id
ack_once-grows None false b id = book-same b

pass_tx-grows : (o : Option ℕ) (own : Bool) (b : Book) → BookGrows b (pass_tx b own o).book
unfolding pass_tx
pass_tx-grows None own b = book-same b
pass_tx-grows (Some id) own b =
    then-grows b (point_once b id (record_of b id).point) (λ c. ack_once c id own (record_of c id).acked)
    (point_once-grows (record_of b id).point b id) (λ c. ack_once-grows (record_of c id).acked own c id)

pass_numbers-grows : (ks : List ℕ) (own : Bool) (s : Stream) (b : Book) → BookGrows b (pass_numbers b own s ks).book
unfolding pass_numbers
pass_numbers-grows [] own s b = book-same b
pass_numbers-grows (k ∷ ks) own s b =
    then-grows b (pass_tx b own (tx_of b s k)) (λ c. pass_numbers c own s ks) (pass_tx-grows (tx_of b s k) own b) (pass_numbers-grows ks own s)

-- passes make the book grow
pub passes-grow : (ps : List Passed) (me : ℕ) (b : Book) → BookGrows b (book_passes b me ps).book
unfolding book_passes
passes-grow [] me b = book-same b
passes-grow (p ∷ ps) me b =
    then-grows b (pass_numbers b (p.stream.node == me) p.stream (numbers_from p.first (p.after - p.first))) (λ c. book_passes c me ps)
    (pass_numbers-grows (numbers_from p.first (p.after - p.first)) (p.stream.node == me) p.stream b) (passes-grow ps me)

-- ---- tries

refused-grows : (degree : Bool) (b : Book) (id : ℕ) → BookGrows b (if degree then book_only (book_refuse b id) else book_only b).book
refused-grows true b id = refuse-grows b id
refused-grows false b id = book-same b

tried-grows : (a : Tried) (s : Stream) (degree : Option ℕ) (b : Book) → BookGrows b (book_tried b s degree a).book
unfolding book_tried
tried-grows (Committed id number reply) s degree b = commit-grows b s id number reply
tried-grows (Read id reply) s degree b = read-grows b id reply
tried-grows (NoCopy id x) s degree b = refused-grows (is_none degree) b id
tried-grows _ s degree b = book-same b

-- a try and the passes behind it make the book grow
pub try-grows : (a : Tried) (s : Stream) (degree : Option ℕ) (n : ℕ) (passed : List Passed) (b : Book) → BookGrows b (change_then (book_tried b s degree a) (λ c. book_passes c n passed)).book
try-grows a s degree n passed b = then-grows b (book_tried b s degree a) (λ c. book_passes c n passed) (tried-grows a s degree b) (passes-grow passed n)
