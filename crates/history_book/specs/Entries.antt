-- The transactions of entries, by stream and number.
use Rattle.std.specs.Prelude.{ℕ, ◌≡◌, ◌<◌, ◌≤◌, List, [], length}
use Rattle.zeus_base.specs.declared.order.Stream.{Stream}
use Rattle.zeus_model.specs.Tables.{nth}
use Rattle.history_book.specs.Ids.{IdsState, no_ids}

-- the transactions of a stream, the number of the entry being the place
abbrev pub of_stream : List (List IdsState) → Stream → IdsState
of_stream rows s = nth no_ids (nth [] rows s.node) s.slot

-- there is such a stream
pub record IsStream (nodes slots : ℕ) (s : Stream) : Type 0 where
  pub node : s.node < nodes
  pub slot : s.slot < slots

-- there are so many nodes, each with so many slots
pub record HasSlots (nodes slots : ℕ) (rows : List (List IdsState)) : Type 0 where
  pub count : length rows ≡ nodes
  pub each : (n : ℕ) → n < nodes → length (nth [] rows n) ≡ slots

-- each stream has room for so many entries more
unfoldable pub HasEntries : ℕ → ℕ → ℕ → List (List IdsState) → Type 0
HasEntries more nodes slots rows = (s : Stream) → IsStream nodes slots s → more ≤ (of_stream rows s).room
