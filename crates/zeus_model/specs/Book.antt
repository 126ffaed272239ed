-- The log of a run: when each transaction was begun, had its point and was acknowledged, and with which reply.
use Rattle.std.specs.Prelude.{ℕ, suc, ◌+◌, ◌-◌, Bool, true, false, ◌&&◌, ◌==◌, List, [], ◌∷◌, ◌++◌, Option, Some, None, is_none, if◌then◌else◌}
use Rattle.zeus_base.specs.Order.{is_before, same_stream}
use Rattle.zeus_base.specs.declared.order.Stream.{Stream}
use Rattle.zeus_base.specs.declared.step.Passed.{Passed}
use Rattle.zeus_txn.specs.declared.reply.Reply.{Reply}
use Rattle.zeus_model.specs.declared.answer.Tried.{Tried}
use Rattle.zeus_model.specs.declared.answer.Tried.TheVariants.{NoCopy, Read, Committed}
use Rattle.zeus_model.specs.Tables.{nth, put, numbers_from}

-- an entry of a stream, by its number
pub record EntryId : Type 0 where
  pub stream : Stream
  pub number : ℕ

-- what is known of a transaction; its begin, point and acknowledgement are steps of the run
pub record TxRecord : Type 0 where
  pub begun : Option ℕ
  pub entry : Option EntryId
  pub reply : Option Reply
  pub point : Option ℕ
  pub acked : Option ℕ
  pub refused : Bool

-- the place of a transaction in the history, with its reply
pub record Point : Type 0 where
  pub id : ℕ
  pub reply : Reply

pub record Book : Type 0 where
  -- how many steps were taken
  pub steps : ℕ
  -- the history
  pub points : List Point
  -- by transaction
  pub records : List TxRecord

abbrev pub no_reply : Reply
no_reply = record { values = []; failed = None }

abbrev pub no_record : TxRecord
no_record = record { begun = None; entry = None; reply = None; point = None; acked = None; refused = false }

abbrev pub record_of : Book → ℕ → TxRecord
record_of b id = nth no_record b.records id

abbrev pub with_record : Book → ℕ → TxRecord → Book
with_record b id r = record b { records = put no_record b.records id r }

-- one step more was taken
abbrev pub counted : Book → Book
counted b = record b { steps = b.steps + 1 }

-- what a step does to the book: the transactions that have their points in it, and those that it acknowledges, in order
pub record BookChange : Type 0 where
  pub book : Book
  pub points : List ℕ
  pub acked : List ℕ

-- this book, and no point and no acknowledgement
abbrev pub book_only : Book → BookChange
book_only b = record { book = b; points = []; acked = [] }

abbrev pub changes_joined : BookChange → BookChange → BookChange
changes_joined a b = record { book = b.book; points = a.points ++ b.points; acked = a.acked ++ b.acked }

abbrev pub change_then : BookChange → (Book → BookChange) → BookChange
change_then a next = changes_joined a (next a.book)

-- the transaction is begun at this step
abbrev pub book_begin : Book → ℕ → Book
book_begin b id = with_record b id (record (record_of b id) { begun = Some b.steps })

unfoldable pub reply_or : Option Reply → Reply
reply_or None = no_reply
reply_or (Some r) = r

-- the transaction has its point at this step, behind those of the history
abbrev pub book_point : Book → ℕ → Book
book_point b id =
    record {
      steps = b.steps;
      points = b.points ++ record { id = id; reply = reply_or (record_of b id).reply } ∷ [];
      records = put no_record b.records id (record (record_of b id) { point = Some b.steps });
    }

-- the transaction is acknowledged at this step
abbrev pub book_ack : Book → ℕ → Book
book_ack b id = with_record b id (record (record_of b id) { acked = Some b.steps })

-- an entry's first pass is its transaction's point
unfoldable pub point_once : Book → ℕ → Option ℕ → BookChange
point_once b id (Some step) = book_only b
point_once b id None = record { book = book_point b id; points = id ∷ []; acked = [] }

-- its own node's pass acknowledges it
unfoldable pub ack_once : Book → ℕ → Bool → Option ℕ → BookChange
ack_once b id own (Some step) = book_only b
ack_once b id own None = if own then record { book = book_ack b id; points = []; acked = id ∷ [] } else book_only b

unfoldable pub is_entry : Stream → ℕ → Option EntryId → Bool
is_entry s number None = false
is_entry s number (Some e) = same_stream e.stream s && (e.number == number)

unfoldable pub tx_from : Stream → ℕ → ℕ → List TxRecord → Option ℕ
tx_from s number id [] = None
tx_from s number id (r ∷ rs) = if is_entry s number r.entry then Some id else tx_from s number (suc id) rs

-- the transaction of an entry: the one that was committed with this stream and number
abbrev pub tx_of : Book → Stream → ℕ → Option ℕ
tx_of b s number = tx_from s number 0 b.records

unfoldable pub pass_tx : Book → Bool → Option ℕ → BookChange
pass_tx b own None = book_only b
pass_tx b own (Some id) =
    change_then (point_once b id (record_of b id).point) (λ c. ack_once c id own (record_of c id).acked)

unfoldable pub pass_numbers : Book → Bool → Stream → List ℕ → BookChange
pass_numbers b own s [] = book_only b
pass_numbers b own s (k ∷ ks) = change_then (pass_tx b own (tx_of b s k)) (λ c. pass_numbers c own s ks)

-- the passes of one node in the order of streams, then numbers
unfoldable pub book_passes : Book → ℕ → List Passed → BookChange
book_passes b me [] = book_only b
book_passes b me (p ∷ ps) =
    change_then (pass_numbers b (p.stream.node == me) p.stream (numbers_from p.first (p.after - p.first)))
    (λ c. book_passes c me ps)

unfoldable pub inserted : Passed → List Passed → List Passed
inserted p [] = p ∷ []
inserted p (q ∷ qs) = if is_before q.stream p.stream then q ∷ inserted p qs else p ∷ q ∷ qs

-- passes sorted by their streams
unfoldable pub in_stream_order : List Passed → List Passed
in_stream_order [] = []
in_stream_order (p ∷ ps) = inserted p (in_stream_order ps)

abbrev pub book_commit : Book → Stream → ℕ → ℕ → Reply → Book
book_commit b s id number reply =
    with_record b id (record (record_of b id) { entry = Some record { stream = s; number = number }; reply = Some reply })

abbrev pub book_reply : Book → ℕ → Reply → Book
book_reply b id reply = with_record b id (record (record_of b id) { reply = Some reply })

abbrev pub book_refuse : Book → ℕ → Book
book_refuse b id = with_record b id (record (record_of b id) { refused = true })

-- a read has its point and its acknowledgement at once
abbrev pub book_read : Book → ℕ → Reply → BookChange
book_read b id reply = record { book = book_ack (book_point (book_reply b id reply) id) id; points = id ∷ []; acked = id ∷ [] }

-- what a try's answer says: a commit, a read, or, without a degree, a refusal
unfoldable pub book_tried : Book → Stream → Option ℕ → Tried → BookChange
book_tried b s degree (Committed id number reply) = book_only (book_commit b s id number reply)
book_tried b s degree (Read id reply) = book_read b id reply
book_tried b s degree (NoCopy id x) = if is_none degree then book_only (book_refuse b id) else book_only b
book_tried b s degree _ = book_only b
