-- The history is in the order in which things happened, and has the replies that were given.
use Rattle.std.specs.Prelude.{ℕ, ◌≡◌, ◌<◌, ◌≤◌, List, ◌∷◌, Some}
use Rattle.zeus_model.specs.Book.{Point, record_of}
use Rattle.zeus_model.specs.In.{In}
use Rattle.zeus_model.specs.Sound.{times}
use Rattle.zeus_model.specs.World.{World}

-- the transaction stands in the history before the other
pub data StandsBefore (a b : ℕ) : List Point → Type 0 where
  first : (p : Point) (ps : List Point) → p.id ≡ a → 1 ≤ times b ps → StandsBefore a b (p ∷ ps)
  later : (p : Point) (ps : List Point) → StandsBefore a b ps → StandsBefore a b (p ∷ ps)

-- the history of a world
pub record IsInOrder (w : World) : Type 0 where
  -- the points do not fall along the steps at which they are
  pub in_order : (a b s t : ℕ) → StandsBefore a b w.book.points → (record_of w.book a).point ≡ Some s → (record_of w.book b).point ≡ Some t → s ≤ t
  -- a transaction that was acknowledged before another was begun stands before it, if that one is in the history
  pub real_time : (a b acked begun : ℕ) → (record_of w.book a).acked ≡ Some acked → (record_of w.book b).begun ≡ Some begun → acked < begun
      → 1 ≤ times b w.book.points → StandsBefore a b w.book.points
  -- each transaction stands there with the reply that its record keeps
  pub replies : (p : Point) → In p w.book.points → (record_of w.book p.id).reply ≡ Some p.reply
