-- A pass of a transaction's entry, by the words of the machine.
use Rattle.std.proofs.Common.{ℕ, suc, ◌≡◌, ◌<◌, ◌≤◌, ◌+◌, ◌++◌, Bool, true, false, List, [], ◌∷◌, Option, Some, None, length, refl, sym, ap, ◌∙◌, subst, arith, append-nil, append_assoc, add-one, drop, drop-cons}
use Rattle.std.proofs.Math.ListN.{get_or}
use Rattle.std.specs.Prelude.{is_none, is_some, IfSome, ◌-◌, ◌==◌}
use Rattle.zeus_base.specs.TableLaws.{length-put}
use Rattle.zeus_base.specs.declared.order.Stream.{Stream}
use Rattle.zeus_base.specs.declared.step.Passed.{Passed}
use Rattle.zeus_model.specs.Tables.{nth, put, numbers_from}
use Rattle.zeus_model.specs.Book.{Book, BookChange, Point, TxRecord, ack_once, book_ack, book_passes, book_point, change_then, no_record, pass_numbers, pass_tx, point_once, record_of, tx_from, tx_of}
use Rattle.history_book.specs.Books.{IsChange, IsReplied, has_no_ack, has_no_point, how_many, points_of}
use Rattle.history_book.specs.Ids.{listed, one}
use Rattle.history_book.proofs.Counts.{as_many, one_less}
use Rattle.history_book.proofs.Found.{entry_there, found_is}
use Rattle.history_book.proofs.Keeping.{book_at}

-- who is found as an entry has a reply
pub replied_there : (steps : ℕ) (ids : List ℕ) (rs : List TxRecord) (s : Stream) (number : ℕ) (o : Option ℕ) → ((id : ℕ) → is_some (nth no_record rs id).entry ≡ true → is_some (nth no_record rs id).reply ≡ true)
    → o ≡ tx_from s number 0 rs → IfSome o (IsReplied (book_at steps (points_of rs ids) rs))
replied_there steps ids rs s number None replies e = tt
replied_there steps ids rs s number (Some id) replies e =
    let f = found_is s number 0 rs id (sym e) in
    let same : id ≡ f.place = let a = f.at in omega arith in
    record {
      there = rw same f.there;
      reply = rw same (replies f.place (entry_there s number (nth no_record rs f.place).entry f.is));
    }

-- if a transaction has its point, then a pass of its entry leaves it
pub pointed_before : (b : Book) (id : ℕ) (o : Option ℕ) → is_some o ≡ true → IsChange false false id b (point_once b id o)
unfolding point_once listed
pointed_before b id None h = cc
pointed_before b id (Some step) h = record { book = refl; points = refl; acks = refl }

-- if a transaction has no point, then the first pass of its entry gives it one
pub pointed_first : (b after : Book) (id : ℕ) (o : Option ℕ) → is_some o ≡ false → after ≡ book_point b id → IsChange true false id after (point_once b id o)
unfolding point_once listed
pointed_first b after id None h e = record { book = e; points = refl; acks = refl }
pointed_first b after id (Some step) h e = cc

-- if a transaction is acknowledged, then a pass of its entry leaves that
pub acked_before : (b : Book) (id : ℕ) (own : Bool) (o : Option ℕ) → is_some o ≡ true → IsChange false false id b (ack_once b id own o)
unfolding ack_once listed
acked_before b id own None h = cc
acked_before b id own (Some step) h = record { book = refl; points = refl; acks = refl }

-- if a transaction is not acknowledged, then a pass of its entry at its own node acknowledges it
pub acked_first : (b after : Book) (id : ℕ) (own : Bool) (o : Option ℕ) → is_some o ≡ false → own ≡ true → after ≡ book_ack b id → IsChange false own id after (ack_once b id own o)
unfolding ack_once listed
acked_first b after id true None h t e = record { book = e; points = refl; acks = refl }
acked_first b after id false None h t e = cc
acked_first b after id own (Some step) h t e = cc

-- if a transaction is not acknowledged, then a pass of its entry at another node leaves that
pub not_acked : (b : Book) (id : ℕ) (own : Bool) (o : Option ℕ) → is_some o ≡ false → own ≡ false → IsChange false own id b (ack_once b id own o)
unfolding ack_once listed
not_acked b id true None h t = cc
not_acked b id false None h t = record { book = refl; points = refl; acks = refl }
not_acked b id own (Some step) h t = cc

-- ---- how many are left

-- what is false counts nothing
pub one_false : (n : ℕ) → n + one false ≡ n
unfolding one
one_false n = omega arith

none_from : (o : Option ℕ) → is_some o ≡ false → is_none o ≡ true
none_from None h = refl
none_from (Some x) h = cc

-- a point leaves one less without a point
pub points_left : (b : Book) (id : ℕ) → id < length b.records → is_some (record_of b id).point ≡ false → how_many has_no_point (book_point b id).records + one true ≡ how_many has_no_point b.records
unfolding one
points_left b id h none = one_less has_no_point b.records id (record (record_of b id) { point = Some b.steps }) h (none_from (record_of b id).point none) refl

-- a point leaves the count of unacknowledged transactions
pub acks_same : (b : Book) (id : ℕ) → id < length b.records → how_many has_no_ack (book_point b id).records ≡ how_many has_no_ack b.records
acks_same b id h = as_many has_no_ack b.records id (record (record_of b id) { point = Some b.steps }) h refl

-- an acknowledgement leaves one unacknowledged transaction fewer
pub acks_left : (b : Book) (id : ℕ) → id < length b.records → is_some (record_of b id).acked ≡ false → how_many has_no_ack (book_ack b id).records + one true ≡ how_many has_no_ack b.records
unfolding one
acks_left b id h none = one_less has_no_ack b.records id (record (record_of b id) { acked = Some b.steps }) h (none_from (record_of b id).acked none) refl

-- an acknowledgement leaves the count of transactions without a point
pub points_same : (b : Book) (id : ℕ) → id < length b.records → how_many has_no_point (book_ack b id).records ≡ how_many has_no_point b.records
points_same b id h = as_many has_no_point b.records id (record (record_of b id) { acked = Some b.steps }) h refl

-- ---- both changes

listed-none : (p : Bool) (id : ℕ) → listed p id ++ [] ≡ listed p id
unfolding listed
listed-none true id = refl
listed-none false id = refl

listed_no : (id : ℕ) → listed false id ≡ []
unfolding listed
listed_no id = refl

joined_left : (p : Bool) (id : ℕ) (xs ys : List ℕ) → listed p id ≡ xs → listed false id ≡ ys → listed p id ≡ xs ++ ys
joined_left p id xs ys e f = rw (← e, ← f, listed_no id) (sym (listed-none p id))

joined_right : (p : Bool) (id : ℕ) (xs ys : List ℕ) → listed false id ≡ xs → listed p id ≡ ys → listed p id ≡ xs ++ ys
joined_right p id xs ys e f = rw (← e, ← f, listed_no id) refl

-- if the point and then the acknowledgement of an entry's pass are written, then the pass is written
pub passed_both :
    (b mid after : Book) (id : ℕ) (own p q : Bool) → IsChange p false id mid (point_once b id (record_of b id).point)
    → IsChange false q id after (ack_once mid id own (record_of mid id).acked) → IsChange p q id after (pass_tx b own (Some id))
unfolding pass_tx
passed_both b mid after id own p q e f =
    let c = point_once b id (record_of b id).point in
    let same : ack_once mid id own (record_of mid id).acked ≡ ack_once c.book id own (record_of c.book id).acked =
    ap (λ (m : Book). ack_once m id own (record_of m id).acked) e.book
    in
    record {
      book = f.book ∙ ap (λ (d : BookChange). d.book) same;
      points = joined_left p id _ _ e.points (f.points ∙ ap (λ (d : BookChange). d.points) same);
      acks = joined_right q id _ _ e.acks (f.acks ∙ ap (λ (d : BookChange). d.acked) same);
    }

-- ---- one entry after another

point_once-size : (b : Book) (id : ℕ) (o : Option ℕ) → id < length b.records → length (point_once b id o).book.records ≡ length b.records
unfolding point_once
point_once-size b id None h = length-put no_record b.records id _ h
point_once-size b id (Some step) h = refl

-- a transaction of the book is there after its point is written
pub point_size : (b mid : Book) (id : ℕ) (p : Bool) → id < length b.records → IsChange p false id mid (point_once b id (record_of b id).point) → id < length mid.records
point_size b mid id p h e =
    let same : length mid.records ≡ length b.records = ap (λ (m : Book). length m.records) e.book ∙ point_once-size b id (record_of b id).point h in
    rw same h

abbrev change : Book → List ℕ → List ℕ → BookChange
change b points acked = record { book = b; points = points; acked = acked }

-- equal books with equal lists make equal changes
pub same_change : (b b' : Book) (ps ps' qs qs' : List ℕ) → b ≡ b' → ps ≡ ps' → qs ≡ qs' → change b ps qs ≡ change b' ps' qs'
same_change b b' ps ps' qs qs' e f g = rw (e, f, g) refl

-- the entry's transaction is there, and its pass changes the book and the lists
pub entry_passed :
    (b after : Book) (own : Bool) (s : Stream) (number id : ℕ) (p q : Bool) (ps ps' qs qs' : List ℕ) → Some id ≡ tx_of b s number
    → IsChange p q id after (pass_tx b own (Some id)) → ps' ≡ ps ++ listed p id → qs' ≡ qs ++ listed q id
    → change after ps' qs' ≡ change_then (change b ps qs) (λ c. pass_tx c own (tx_of c s number))
entry_passed b after own s number id p q ps ps' qs qs' found e f g =
    rw (← found)
    (same_change _ _ _ _ _ _ e.book (f ∙ ap (λ xs. ps ++ xs) e.points) (g ∙ ap (λ xs. qs ++ xs) e.acks))

-- no transaction is the entry
pub none_passed :
    (b : Book) (own : Bool) (s : Stream) (number : ℕ) (ps qs : List ℕ) → None ≡ tx_of b s number
    → change b ps qs ≡ change_then (change b ps qs) (λ c. pass_tx c own (tx_of c s number))
unfolding pass_tx
none_passed b own s number ps qs found = rw (← found) (same_change _ _ _ _ _ _ refl (sym (append-nil ps)) (sym (append-nil qs)))

-- the passes that are left, behind what was done so far
abbrev pub left : BookChange → Bool → Stream → ℕ → ℕ → BookChange
left done own s number count = change_then done (λ b. pass_numbers b own s (numbers_from number count))

left_suc :
    (done : BookChange) (own : Bool) (s : Stream) (number count : ℕ)
    → left (change_then done (λ b. pass_tx b own (tx_of b s number))) own s (suc number) count ≡ left done own s number (suc count)
unfolding pass_numbers numbers_from
left_suc done own s number count =
    let c = pass_tx done.book own (tx_of done.book s number) in
    let d = pass_numbers c.book own s (numbers_from (suc number) count) in
    same_change _ _ _ _ _ _ refl (append_assoc done.points c.points d.points) (append_assoc done.acked c.acked d.acked)

-- one entry more has passed, and the rest has the same end
pub left_step :
    (done next : BookChange) (own : Bool) (s : Stream) (number after : ℕ) → number < after
    → next ≡ change_then done (λ b. pass_tx b own (tx_of b s number))
    → left next own s (number + 1) (after - (number + 1)) ≡ left done own s number (after - number)
left_step done next own s number after h e =
    let n : number + 1 ≡ suc number = omega arith in
    let count : after - number ≡ suc (after - suc number) = omega arith in
    rw (e, n, count) (left_suc done own s number (after - suc number))

-- no entry is left
pub left_none : (done : BookChange) (own : Bool) (s : Stream) (number after : ℕ) → after ≤ number → done ≡ left done own s number (after - number)
unfolding pass_numbers numbers_from
left_none done own s number after h =
    let count : after - number ≡ 0 = omega arith in
    rw count (same_change _ _ _ _ _ _ refl (sym (append-nil done.points)) (sym (append-nil done.acked)))

-- ---- one stream after another

-- the passes of streams that are left, behind what was done so far
abbrev pub streams_left : BookChange → ℕ → List Passed → BookChange
streams_left done me ps = change_then done (λ b. book_passes b me ps)

-- after the passes of one stream, those of the streams behind it are left
pub streams_step : (done next : BookChange) (me : ℕ) (p : Passed) (ps : List Passed) (own : Bool) → own ≡ (p.stream.node == me) → next ≡ left done own p.stream p.first (p.after - p.first)
    → streams_left next me ps ≡ streams_left done me (p ∷ ps)
unfolding book_passes
streams_step done next me p ps own is e =
    let c = pass_numbers done.book (p.stream.node == me) p.stream (numbers_from p.first (p.after - p.first)) in
    let d = book_passes c.book me ps in
    rw (e, is) (same_change _ _ _ _ _ _ refl (append_assoc done.points c.points d.points) (append_assoc done.acked c.acked d.acked))

-- if no stream is left, then all passes are done
pub streams_none : (done : BookChange) (me : ℕ) → done ≡ streams_left done me []
unfolding book_passes
streams_none done me = same_change _ _ _ _ _ _ refl (sym (append-nil done.points)) (sym (append-nil done.acked))

-- what is left of a list from a place on is the element there and what is left from the next place on
pub rest_at : {A : Type 0} (xs : List A) (i : ℕ) (x : A) → i < length xs → x ≡ get_or xs i x → drop i xs ≡ x ∷ drop (i + 1) xs
rest_at xs i x h e = rw (add-one, drop-cons xs i x h, ← e) refl
