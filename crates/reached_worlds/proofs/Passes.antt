-- The book's changes leave the number of records, and the count of steps.
use Rattle.std.proofs.Common.{ℕ, suc, ◌≡◌, ◌<◌, ◌≤◌, ◌+◌, Bool, true, false, List, [], ◌∷◌, Option, Some, None, length, refl, sym, ap, ◌∙◌, arith}
use Rattle.std.specs.Prelude.{if◌then◌else◌, ◌-◌, ◌==◌, is_none}
use Rattle.zeus_base.specs.TableLaws.{length-put}
use Rattle.zeus_base.specs.declared.order.Stream.{Stream}
use Rattle.zeus_base.specs.declared.step.Passed.{Passed}
use Rattle.zeus_txn.specs.declared.reply.Reply.{Reply}
use Rattle.zeus_model.specs.Book.{Book, BookChange, TxRecord, ack_once, book_commit, book_passes, book_point, book_read, book_refuse, book_reply, book_tried, change_then, book_only, is_entry, no_record, pass_numbers, pass_tx, point_once, record_of, tx_from, tx_of}
use Rattle.zeus_model.specs.Tables.{numbers_from}
use Rattle.zeus_model.specs.declared.answer.Tried.{Tried}
use Rattle.zeus_model.specs.declared.answer.Tried.TheVariants.{Stopped, Nothing, NoCopy, NotValid, Read, PipeFull, NotOwner, Held, WornOut, Committed}
use Rattle.history_book.proofs.Found.{found_is}

-- a book with as many records and steps
pub record IsSized (b c : Book) : Type 0 where
  pub records : length c.records ≡ length b.records
  pub steps : c.steps ≡ b.steps

-- a book has as many records and steps as itself
pub sized_same : (b : Book) → IsSized b b
sized_same b = record { records = refl; steps = refl }

-- if a second book has as many records and steps as a first, and a third as the second, then the third has as many as the first
pub sized_on : (b c d : Book) → IsSized b c → IsSized c d → IsSized b d
sized_on b c d h k = record { records = k.records ∙ h.records; steps = k.steps ∙ h.steps }

-- the transaction of an entry is one of the book's
pub tx_of-within : (b : Book) (s : Stream) (number id : ℕ) → tx_of b s number ≡ Some id → id < length b.records
tx_of-within b s number id e =
    let f = found_is s number 0 b.records id e in
    let at = f.at in
    let there = f.there in
    omega arith

point_once-sized : (b : Book) (id : ℕ) (o : Option ℕ) → id < length b.records → IsSized b (point_once b id o).book
unfolding point_once
point_once-sized b id None h = record { records = length-put no_record b.records id _ h; steps = refl }
point_once-sized b id (Some step) h = sized_same b

ack_once-sized : (b : Book) (id : ℕ) (own : Bool) (o : Option ℕ) → id < length b.records → IsSized b (ack_once b id own o).book
unfolding ack_once
ack_once-sized b id true None h = record { records = length-put no_record b.records id _ h; steps = refl }
ack_once-sized b id false None h = sized_same b
ack_once-sized b id own (Some step) h = sized_same b

pass_tx-sized : (b : Book) (own : Bool) (o : Option ℕ) → ((id : ℕ) → o ≡ Some id → id < length b.records) → IsSized b (pass_tx b own o).book
unfolding pass_tx
pass_tx-sized b own None h = sized_same b
pass_tx-sized b own (Some id) h =
    let there = h id refl in
    let c = point_once b id (record_of b id).point in
    let first = point_once-sized b id (record_of b id).point there in
    sized_on b c.book (ack_once c.book id own (record_of c.book id).acked).book first (ack_once-sized c.book id own (record_of c.book id).acked (rw first.records there))

pass_numbers-sized : (b : Book) (own : Bool) (s : Stream) (ks : List ℕ) → IsSized b (pass_numbers b own s ks).book
unfolding pass_numbers
pass_numbers-sized b own s [] = sized_same b
pass_numbers-sized b own s (k ∷ ks) =
    let c = pass_tx b own (tx_of b s k) in
    sized_on b c.book (pass_numbers c.book own s ks).book (pass_tx-sized b own (tx_of b s k) (λ id e. tx_of-within b s k id e)) (pass_numbers-sized c.book own s ks)

-- passes leave them
pub book_passes-sized : (b : Book) (me : ℕ) (ps : List Passed) → IsSized b (book_passes b me ps).book
unfolding book_passes
book_passes-sized b me [] = sized_same b
book_passes-sized b me (p ∷ ps) =
    let c = pass_numbers b (p.stream.node == me) p.stream (numbers_from p.first (p.after - p.first)) in
    sized_on b c.book (book_passes c.book me ps).book (pass_numbers-sized b (p.stream.node == me) p.stream (numbers_from p.first (p.after - p.first))) (book_passes-sized c.book me ps)

put_sized : (b : Book) (id : ℕ) (r : TxRecord) → id < length b.records → IsSized b (record b { records = Rattle.zeus_model.specs.Tables.put no_record b.records id r })
put_sized b id r h = record { records = length-put no_record b.records id r h; steps = refl }

-- the transaction that an answer speaks of is there
unfoldable pub IsOfBelow : ℕ → Tried → Type 0
IsOfBelow bound (NoCopy id x) = id < bound
IsOfBelow bound (Read id reply) = id < bound
IsOfBelow bound (Committed id number reply) = id < bound
IsOfBelow bound _ = Unit {0}

read_sized : (b : Book) (id : ℕ) (reply : Reply) → id < length b.records → IsSized b (book_read b id reply).book
read_sized b id reply h =
    let one = length-put no_record (b.records) id _ h in
    let two = length-put no_record (book_reply b id reply).records id _ (rw (one) h) in
    let three = length-put no_record (book_point (book_reply b id reply) id).records id _ (rw (two, one) h) in
    record { records = three ∙ two ∙ one; steps = refl }

refused_sized : (b : Book) (id : ℕ) (degree : Option ℕ) → id < length b.records → IsSized b (if is_none degree then book_only (book_refuse b id) else book_only b).book
refused_sized b id None h = put_sized b id (record (record_of b id) { refused = true }) h
refused_sized b id (Some d) h = sized_same b

-- so does a try's answer
pub book_tried-sized : (b : Book) (s : Stream) (degree : Option ℕ) (t : Tried) → IsOfBelow (length b.records) t → IsSized b (book_tried b s degree t).book
unfolding book_tried IsOfBelow
book_tried-sized b s degree Stopped h = sized_same b
book_tried-sized b s degree Nothing h = sized_same b
book_tried-sized b s degree (NoCopy id x) h = refused_sized b id degree h
book_tried-sized b s degree (NotValid x state) h = sized_same b
book_tried-sized b s degree (Read id reply) h = read_sized b id reply h
book_tried-sized b s degree PipeFull h = sized_same b
book_tried-sized b s degree (NotOwner x) h = sized_same b
book_tried-sized b s degree (Held x slot) h = sized_same b
book_tried-sized b s degree WornOut h = sized_same b
book_tried-sized b s degree (Committed id number reply) h = put_sized b id (record (record_of b id) { entry = Some record { stream = s; number = number }; reply = Some reply }) h
