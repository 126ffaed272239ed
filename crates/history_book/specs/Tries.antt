-- What a try's answer asks of the book.
use Rattle.std.specs.Prelude.{ℕ, ◌≡◌, ◌<◌, length}
use Rattle.zeus_base.specs.declared.order.Stream.{Stream}
use Rattle.zeus_model.specs.Book.{record_of}
use Rattle.zeus_model.specs.Readers.{state_of}
use Rattle.zeus_model.specs.declared.answer.Tried.{Tried}
use Rattle.zeus_model.specs.declared.answer.Tried.TheVariants.{NoCopy, Read, Committed}
use Rattle.zeus_model.specs.declared.answer.TxState.TheVariants.{Current}
use Rattle.history_book.specs.Books.{BookState, IsNext}
use Rattle.history_book.specs.Entries.{IsStream}

-- there is such a transaction, and it is current
pub record IsCurrent (b : BookState) (id : ℕ) : Type 0 where
  pub there : id < length b.book.records
  pub current : state_of (record_of b.book id) ≡ Current

-- a committed transaction is current, and has the next number of a stream that there is; one that was read is current; one
-- that is refused is there
unfoldable pub CanNote : BookState → Stream → Tried → Type 0
CanNote b s (Committed id number reply) = IsCurrent b id × IsStream b.nodes b.slots s × IsNext b.book s number
CanNote b s (Read id reply) = IsCurrent b id
CanNote b s (NoCopy id x) = id < length b.book.records
CanNote b s _ = Unit {0}
