-- What is written down when a node has acted.
use Rattle.std.specs.Prelude.{ℕ, ◌≡◌, ◌++◌, ◌≤◌, ◌<◌, ◌+◌, ◌^◌, List, length}
use Rattle.zeus_base.specs.declared.step.Passed.{Passed}
use Rattle.zeus_packet.specs.declared.letter.Letter.{Letter}
use Rattle.zeus_model.specs.Book.{BookChange, book_passes, counted, in_stream_order}
use Rattle.zeus_model.specs.World.{all_posted, packets}
use Rattle.history_book.specs.Books.{BookState, HasLists, with_book}
use Rattle.lossy_fabric.specs.Links.{LinkState, letters}
use Rattle.zeus_world.specs.Posting.{CanPost}
use Rattle.zeus_world.specs.declared.event.StepEvent.{StepEvent}

-- the step can be counted, its letters can be put on their links, and there is room for all
pub record CanSettle (book : BookState) (links : List (List LinkState)) (said : List Letter) (s : StepEvent) : Type 0 where
  pub counts : book.book.steps + 1 < 2 ^ 64
  pub post : CanPost links said
  pub lists : HasLists book.book s.points s.acked
  pub few : length said ≤ 64

-- the passes of the node are in the book, the step is counted, and the letters are on their links; the event tells of it
pub record IsSettled (at : ℕ) (said : List Letter) (passed : List Passed) (before after : BookState) (old new : List (List LinkState)) (s t : StepEvent) : Type 0 where
  pub book : after ≡ with_book before (counted (book_passes before.book at (in_stream_order passed)).book)
  pub points : t.points.ids ≡ s.points.ids ++ (book_passes before.book at (in_stream_order passed)).points
  pub acked : t.acked.ids ≡ s.acked.ids ++ (book_passes before.book at (in_stream_order passed)).acked
  pub links : letters new ≡ all_posted (letters old) said
  pub sent : t.sent ≡ packets (letters old) said
  pub answer : t.answer ≡ s.answer
