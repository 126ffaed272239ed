-- Which streams of nodes that are no members a node has to replay.
use Rattle.std.specs.Prelude.{ℕ, ◌≡◌, ◌<◌, Bool, true, ◌&&◌, not, ◌==◌, List, [], length, Option, Some, None}
use Rattle.zeus_base.specs.Order.{is_before}
use Rattle.zeus_base.specs.declared.order.Stream.{Stream}
use Rattle.zeus_model.specs.Commit.{outside}
use Rattle.zeus_model.specs.State.{Node, StreamLog, no_log}
use Rattle.zeus_model.specs.Tables.{first_of, nth, where_true}

-- a node that has these streams and members, and this many slots
pub record IsNodeWith (n : Node) (streams : List (List StreamLog)) (ms : List ℕ) (count : ℕ) : Type 0 where
  pub logs : n.logs ≡ streams
  pub members : n.members ≡ ms
  pub slots : length n.slots ≡ count

-- the streams are those of this many nodes, each of which has this many
pub record HasStreams (nodes slots : ℕ) (logs : List (List StreamLog)) : Type 0 where
  pub by_node : length logs ≡ nodes
  pub by_slot : (i : ℕ) → i < nodes → length (nth [] logs i) ≡ slots

-- whether a stream comes after another, where one is given
unfoldable pub is_after : Option Stream → Stream → Bool
is_after None s = true
is_after (Some a) s = is_before a s

-- whether entries of the stream are stored
unfoldable pub is_stored : List (List StreamLog) → Stream → Bool
is_stored logs s = not (length (nth no_log (nth [] logs s.node) s.slot).kept == 0)

-- the first of these streams that comes after the given one and has stored entries
unfoldable pub next_in : List (List StreamLog) → Option Stream → List Stream → Option Stream
next_in logs after streams = first_of (λ s. where_true (is_after after s && is_stored logs s) s) streams

-- of the streams of the nodes that are no members, in the order of node and slot, the first that comes after the given
-- one and has stored entries
abbrev pub next_stored : Node → Option Stream → Option Stream
next_stored n after = next_in n.logs after (outside n)
