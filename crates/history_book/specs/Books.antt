-- The book of a run, with what ties its parts together.
use Rattle.std.specs.Prelude.{ℕ, suc, ◌≡◌, ◌+◌, ◌<◌, ◌≤◌, ◌^◌, Bool, true, false, List, [], ◌∷◌, length, map, None, Some, is_none, is_some, slice_get, if◌then◌else◌}
use Rattle.zeus_base.specs.declared.order.Stream.{Stream}
use Rattle.zeus_model.specs.Tables.{nth}
use Rattle.zeus_model.specs.Book.{Book, BookChange, Point, TxRecord, no_record, record_of, reply_or, tx_from, tx_of}
use Rattle.history_book.specs.Ids.{IdsState, listed}
use Rattle.history_book.specs.Entries.{HasEntries, HasSlots, of_stream}

-- a book, and how many nodes and slots of each node there are
pub record BookState : Type 0 where
  pub book : Book
  pub nodes : ℕ
  pub slots : ℕ

-- the state with another book
abbrev pub with_book : BookState → Book → BookState
with_book b book = record b { book = book }

-- how many records pass the test
unfoldable pub how_many : (TxRecord → Bool) → List TxRecord → ℕ
how_many test [] = 0
how_many test (r ∷ rs) = if test r then suc (how_many test rs) else how_many test rs

abbrev pub has_no_entry : TxRecord → Bool
has_no_entry r = is_none r.entry

abbrev pub has_no_point : TxRecord → Bool
has_no_point r = is_none r.point

abbrev pub has_no_ack : TxRecord → Bool
has_no_ack r = is_none r.acked

-- the point of a transaction, with the reply that its record keeps
unfoldable pub point_of : List TxRecord → ℕ → Point
point_of records id = record { id = id; reply = reply_or (nth no_record records id).reply }

-- the history, whose replies stand in the records
unfoldable pub points_of : List TxRecord → List ℕ → List Point
points_of records [] = []
points_of records (id ∷ ids) = point_of records id ∷ points_of records ids

-- a transaction that has its point has a reply
pub record IsPointed (r : TxRecord) : Type 0 where
  pub point : is_some r.point ≡ true
  pub reply : is_some r.reply ≡ true

-- each transaction of the history has its point, and a reply
unfoldable pub ArePointed : List TxRecord → List ℕ → Type 0
ArePointed records [] = Unit {0}
ArePointed records (id ∷ ids) = IsPointed (nth no_record records id) × ArePointed records ids

-- the parts of a book belong together
pub record IsKept (records : List TxRecord) (points : IdsState) (nodes slots : ℕ) (entries : List (List IdsState)) : Type 0 where
  -- transactions have numbers of 32 bits
  pub few : length records < 2 ^ 32
  -- the history has room for each transaction that has no point yet, and no transaction twice
  pub room : how_many has_no_point records ≤ points.room
  pub once : how_many has_no_point records + length points.ids ≤ length records
  pub pointed : ArePointed records points.ids
  -- who has an entry has a reply
  pub replies : (id : ℕ) → is_some (nth no_record records id).entry ≡ true → is_some (nth no_record records id).reply ≡ true
  -- the transaction of an entry stands in its stream at the entry's number
  pub found : (s : Stream) (number : ℕ) → tx_from s number 0 records ≡ slice_get (of_stream entries s).ids number
  pub streams : HasSlots nodes slots entries
  pub more : HasEntries (how_many has_no_entry records) nodes slots entries

-- the number is the next of the stream: each number below has its transaction, and this one has none
pub record IsNext (b : Book) (s : Stream) (number : ℕ) : Type 0 where
  pub below : (k : ℕ) → k < number → is_some (tx_of b s k) ≡ true
  pub free : tx_of b s number ≡ None

-- there is such a transaction, and it has a reply
pub record IsReplied (b : Book) (id : ℕ) : Type 0 where
  pub there : id < length b.records
  pub reply : is_some (record_of b id).reply ≡ true

-- the change is to this book, and the transaction has its point or its acknowledgement in it where these are true
pub record IsChange (pointed acked : Bool) (id : ℕ) (after : Book) (c : BookChange) : Type 0 where
  pub book : after ≡ c.book
  pub points : listed pointed id ≡ c.points
  pub acks : listed acked id ≡ c.acked

-- what was done to the book so far, and the points and acknowledgements in it
abbrev pub so_far : BookState → IdsState → IdsState → BookChange
so_far b points acked = record { book = b.book; points = points.ids; acked = acked.ids }

-- the lists have room for each transaction that has no point, and for each that is not acknowledged
pub record HasLists (b : Book) (points acked : IdsState) : Type 0 where
  pub pointed : how_many has_no_point b.records ≤ points.room
  pub acks : how_many has_no_ack b.records ≤ acked.room
