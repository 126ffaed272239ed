-- What a try's answer does to the book, by the words of the machine.
use Rattle.std.proofs.Common.{ℕ, ◌≡◌, ◌≢◌, ◌<◌, ◌≤◌, ◌+◌, ◌++◌, ◌∷◌, [], Bool, true, false, List, Option, Some, None, length, refl, sym, ap, ◌∙◌, subst, append-nil, arith}
use Rattle.std.specs.Prelude.{is_none, is_some}
use Rattle.zeus_base.specs.TableLaws.{length-put, nth-put_same}
use Rattle.zeus_base.specs.declared.order.Stream.{Stream}
use Rattle.zeus_txn.specs.declared.reply.Reply.{Reply}
use Rattle.zeus_model.specs.Tables.{put}
use Rattle.zeus_model.specs.Book.{Book, BookChange, TxRecord, book_ack, book_commit, book_point, book_read, book_refuse, book_reply, book_tried, change_then, no_record, record_of}
use Rattle.zeus_model.specs.declared.answer.Tried.{Tried}
use Rattle.zeus_model.specs.declared.answer.Tried.TheVariants.{Stopped, Nothing, NoCopy, NotValid, Read, PipeFull, NotOwner, Held, WornOut, Committed}
use Rattle.history_book.specs.Books.{BookState, HasLists, IsNext, has_no_ack, has_no_point, how_many}
use Rattle.history_book.specs.Entries.{IsStream}
use Rattle.history_book.specs.Ids.{IdsState, one}
use Rattle.history_book.specs.Tries.{CanNote, IsCurrent}
use Rattle.history_book.proofs.Counts.{as_many, one_less, some_left}
use Rattle.history_book.proofs.Current.{current_acked, current_free}
use Rattle.history_book.proofs.Passing.{same_change}

abbrev change : Book → List ℕ → List ℕ → BookChange
change b points acked = record { book = b; points = points; acked = acked }

-- if a commit can be noted, then its transaction is current, its stream is there, and its number is the next one
pub of_committed : (b : BookState) (s : Stream) (id number : ℕ) (reply : Reply) (t : Tried) → t ≡ Committed id number reply → CanNote b s t → IsCurrent b id × IsStream b.nodes b.slots s × IsNext b.book s number
unfolding CanNote
of_committed b s id number reply t e h = rw e at h

-- if a read's reply can be noted, then its transaction is current
pub of_read : (b : BookState) (s : Stream) (id : ℕ) (reply : Reply) (t : Tried) → t ≡ Read id reply → CanNote b s t → IsCurrent b id
unfolding CanNote
of_read b s id reply t e h = rw e at h

-- if a lack of a copy can be noted, then its transaction is there
pub of_no_copy : (b : BookState) (s : Stream) (id x : ℕ) (t : Tried) → t ≡ NoCopy id x → CanNote b s t → id < length b.book.records
unfolding CanNote
of_no_copy b s id x t e h = rw e at h

-- a committed transaction is an entry
pub noted_commit :
    (b after : Book) (ps qs : List ℕ) (s : Stream) (degree : Option ℕ) (id number : ℕ) (reply : Reply) (t : Tried) → t ≡ Committed id number reply → after ≡ book_commit b s id number reply
    → change after ps qs ≡ change_then (change b ps qs) (λ c. book_tried c s degree t)
unfolding book_tried
noted_commit b after ps qs s degree id number reply t e f =
    rw e (same_change _ _ _ _ _ _ f (sym (append-nil ps)) (sym (append-nil qs)))

-- a transaction that was read has its point and its acknowledgement
pub noted_read :
    (b after : Book) (ps ps' qs qs' : List ℕ) (s : Stream) (degree : Option ℕ) (id : ℕ) (reply : Reply) (t : Tried) → t ≡ Read id reply → after ≡ (book_read b id reply).book → ps' ≡ ps ++ id ∷ [] → qs' ≡ qs ++ id ∷ []
    → change after ps' qs' ≡ change_then (change b ps qs) (λ c. book_tried c s degree t)
unfolding book_tried
noted_read b after ps ps' qs qs' s degree id reply t e f g h =
    rw e (same_change _ _ _ _ _ _ f g h)

-- a transaction without a copy is refused where there is no degree
pub noted_refused :
    (b after : Book) (ps qs : List ℕ) (s : Stream) (degree : Option ℕ) (id x : ℕ) (t : Tried) → t ≡ NoCopy id x → degree ≡ None → after ≡ book_refuse b id
    → change after ps qs ≡ change_then (change b ps qs) (λ c. book_tried c s degree t)
unfolding book_tried
noted_refused b after ps qs s degree id x t e n f =
    rw (e, n) (same_change _ _ _ _ _ _ f (sym (append-nil ps)) (sym (append-nil qs)))

-- if there is a degree, then a read that asks for copies leaves the book
pub noted_asked :
    (b : Book) (ps qs : List ℕ) (s : Stream) (degree : Option ℕ) (least id x : ℕ) (t : Tried) → t ≡ NoCopy id x → degree ≡ Some least
    → change b ps qs ≡ change_then (change b ps qs) (λ c. book_tried c s degree t)
unfolding book_tried
noted_asked b ps qs s degree least id x t e n =
    rw (e, n) (same_change _ _ _ _ _ _ refl (sym (append-nil ps)) (sym (append-nil qs)))

-- any other answer leaves the book as it is
pub noted_other :
    (b : Book) (ps qs : List ℕ) (s : Stream) (degree : Option ℕ) (t : Tried) → ((id x : ℕ) → t ≢ NoCopy id x) → ((id : ℕ) (reply : Reply) → t ≢ Read id reply) → ((id number : ℕ) (reply : Reply) → t ≢ Committed id number reply)
    → change b ps qs ≡ change_then (change b ps qs) (λ c. book_tried c s degree t)
unfolding book_tried
noted_other b ps qs s degree Stopped f g h = same_change _ _ _ _ _ _ refl (sym (append-nil ps)) (sym (append-nil qs))
noted_other b ps qs s degree Nothing f g h = same_change _ _ _ _ _ _ refl (sym (append-nil ps)) (sym (append-nil qs))
noted_other b ps qs s degree (NoCopy id x) f g h = absurd (f id x refl)
noted_other b ps qs s degree (NotValid x state) f g h = same_change _ _ _ _ _ _ refl (sym (append-nil ps)) (sym (append-nil qs))
noted_other b ps qs s degree (Read id reply) f g h = absurd (g id reply refl)
noted_other b ps qs s degree PipeFull f g h = same_change _ _ _ _ _ _ refl (sym (append-nil ps)) (sym (append-nil qs))
noted_other b ps qs s degree (NotOwner x) f g h = same_change _ _ _ _ _ _ refl (sym (append-nil ps)) (sym (append-nil qs))
noted_other b ps qs s degree (Held x slot) f g h = same_change _ _ _ _ _ _ refl (sym (append-nil ps)) (sym (append-nil qs))
noted_other b ps qs s degree WornOut f g h = same_change _ _ _ _ _ _ refl (sym (append-nil ps)) (sym (append-nil qs))
noted_other b ps qs s degree (Committed id number reply) f g h = absurd (h id number reply refl)

-- ---- the room of the lists

-- a record with a point and an acknowledgement as before makes no difference to the lists
lists_put : (b : Book) (id : ℕ) (r : TxRecord) (points acked : IdsState) → id < length b.records → r.point ≡ (record_of b id).point → r.acked ≡ (record_of b id).acked
    → HasLists b points acked → HasLists (record b { records = put no_record b.records id r }) points acked
lists_put b id r points acked h p a l =
    let same = as_many has_no_point b.records id r h (ap is_none p) in
    let same_acks = as_many has_no_ack b.records id r h (ap is_none a) in
    record { pointed = rw same l.pointed; acks = rw same_acks l.acks }

-- if the lists have room, then they have it after a commit is noted
pub lists_committed : (b after : Book) (s : Stream) (id number : ℕ) (reply : Reply) (points acked : IdsState) → id < length b.records → after ≡ book_commit b s id number reply
    → HasLists b points acked → HasLists after points acked
lists_committed b after s id number reply points acked h e l =
    rw e (lists_put b id (record (record_of b id) { entry = Some record { stream = s; number = number }; reply = Some reply }) points acked h refl refl l)

-- if the lists have room, then they have it after a refusal is noted
pub lists_refused : (b after : Book) (id : ℕ) (points acked : IdsState) → id < length b.records → after ≡ book_refuse b id → HasLists b points acked → HasLists after points acked
lists_refused b after id points acked h e l = rw e (lists_put b id (record (record_of b id) { refused = true }) points acked h refl refl l)

-- what a read leaves without a point, and without an acknowledgement
pub record IsReadOnce (b after : Book) : Type 0 where
  pub points : how_many has_no_point after.records + 1 ≡ how_many has_no_point b.records
  pub acks : how_many has_no_ack after.records + 1 ≡ how_many has_no_ack b.records

read_once : (b : Book) (id : ℕ) (reply : Reply) → id < length b.records → (record_of b id).point ≡ None → (record_of b id).acked ≡ None → IsReadOnce b (book_read b id reply).book
read_once b id reply h none free =
    let one_book = book_reply b id reply in
    let two_book = book_point one_book id in
    let r1 : TxRecord = record (record_of b id) { reply = Some reply } in
    let size1 : length one_book.records ≡ length b.records = length-put no_record b.records id r1 h in
    let here1 : record_of one_book id ≡ r1 = nth-put_same no_record b.records id r1 in
    let h1 : id < length one_book.records = omega arith in
    let r2 : TxRecord = record (record_of one_book id) { point = Some b.steps } in
    let size2 : length two_book.records ≡ length one_book.records = length-put no_record one_book.records id r2 h1 in
    let here2 : record_of two_book id ≡ r2 = nth-put_same no_record one_book.records id r2 in
    let h2 : id < length two_book.records = omega arith in
    let r3 : TxRecord = record (record_of two_book id) { acked = Some b.steps } in
    let p1 = as_many has_no_point b.records id r1 h refl in
    let a1 = as_many has_no_ack b.records id r1 h refl in
    let none1 : is_none (record_of one_book id).point ≡ true = ap (λ (r : TxRecord). is_none r.point) here1 ∙ ap is_none none in
    let p2 = one_less has_no_point one_book.records id r2 h1 none1 refl in
    let a2 = as_many has_no_ack one_book.records id r2 h1 refl in
    let free2 : is_none (record_of two_book id).acked ≡ true = ap (λ (r : TxRecord). is_none r.acked) here2 ∙ ap (λ (r : TxRecord). is_none r.acked) here1 ∙ ap is_none free in
    let p3 = as_many has_no_point two_book.records id r3 h2 refl in
    let a3 = one_less has_no_ack two_book.records id r3 h2 free2 refl in
    record { points = omega arith; acks = omega arith }

-- a read leaves one less without a point, and one less that is not acknowledged
pub read_left : (b : BookState) (after : Book) (id : ℕ) (reply : Reply) → IsCurrent b id → after ≡ (book_read b.book id reply).book → IsReadOnce b.book after
read_left b after id reply is e =
    rw e (read_once b.book id reply is.there (current_free _ is.current).point (current_acked _ is.current))
