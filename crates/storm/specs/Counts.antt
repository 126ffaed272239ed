-- How the world of a storm stands at its end, in numbers.
use Rattle.std.specs.Prelude.{ℕ, zero, suc, ◌+◌, ◌%◌, ◌^◌, Bool, ◌&&◌, ◌||◌, not, List, length, is_some, if◌then◌else◌}
use Rattle.zeus_base.specs.declared.value.Value.{Value}
use Rattle.zeus_base.specs.declared.value.Value.TheVariants.{Num, Text}
use Rattle.zeus_txn.specs.Map.{content, start_map}
use Rattle.zeus_txn.specs.declared.map.Versioned.{Versioned}
use Rattle.zeus_model.specs.Book.{record_of, reply_or}
use Rattle.zeus_model.specs.Readers.{is_acked, is_closed, is_live}
use Rattle.zeus_model.specs.Serial.{serial_map}
use Rattle.zeus_model.specs.Sound.{history_txs}
use Rattle.zeus_model.specs.World.{World, tx_decl}
use Rattle.storm.specs.declared.counts.TxCounts.{TxCounts}

-- how many of the numbers below the given one pass the test
unfoldable pub count : (ℕ → Bool) → ℕ → ℕ
count test zero = 0
count test (suc n) = count test n + (if test n then 1 else 0)

-- an acknowledged transaction that failed
unfoldable pub has_failed : World → ℕ → Bool
has_failed w k = is_acked w k && is_some (reply_or (record_of w.book k).reply).failed

-- a transaction was refused
abbrev pub is_refused : World → ℕ → Bool
is_refused w k = (record_of w.book k).refused

-- a transaction that is neither acknowledged nor refused, and whose node has stopped
unfoldable pub is_cut_off : World → ℕ → Bool
is_cut_off w k = not (is_acked w k || is_refused w k || is_live w (tx_decl w k).node)

-- a transaction that is not closed: neither acknowledged nor refused, and its node runs
abbrev pub is_unfinished : World → ℕ → Bool
is_unfinished w k = not (is_closed w k)

-- of so many transactions the counts by how they stand
abbrev pub counted : World → ℕ → TxCounts
counted w n =
    record {
      acked = count (is_acked w) n;
      failed = count (has_failed w) n;
      refused = count (is_refused w) n;
      stopped = count (is_cut_off w) n;
      unfinished = count (is_unfinished w) n;
    }

-- the map that the history leaves
abbrev pub map_left : World → List Versioned
map_left w = serial_map (start_map w.config) (history_txs w w.book.points)

-- the number that a value is; of a text 0
unfoldable pub number_of : Value → ℕ
number_of (Num n) = n
number_of (Text t) = 0

-- the sum of the values of so many objects
unfoldable pub summed : List Versioned → ℕ → ℕ
summed map zero = 0
summed map (suc n) = summed map n + number_of (content map n).value
