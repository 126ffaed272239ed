-- The stored streams of a node, by node and slot, and which entries of one pass or are raised.
use Rattle.std.specs.List.{slice_get}
use Rattle.std.specs.Prelude.{ℕ, ◌<◌, ◌+◌, Bool, List, [], Option, None, length, nat_lt, drop, if◌then◌else◌}
use Rattle.zeus_base.specs.declared.order.Stream.{Stream}
use Rattle.zeus_packet.specs.declared.letter.Cause.TheVariants.{Window as WindowFull}
use Rattle.zeus_model.specs.declared.answer.Outcome.{Outcome}
use Rattle.zeus_model.specs.declared.answer.Outcome.TheVariants.{Taken, Again as AgainLetter, Gap as GapLetter, Refused}
use Rattle.zeus_model.specs.declared.state.Kept.{Kept}
use Rattle.zeus_model.specs.State.{StreamLog, no_log}
use Rattle.zeus_model.specs.Tables.{nth, put}
use Rattle.follower_log.specs.declared.stored.Store.{Store}
use Rattle.follower_log.specs.declared.stored.Store.TheVariants.{Stored, Again, Gap, Window}

-- the stream of a node and slot that there are
pub record IsStreamOf (logs : List (List StreamLog)) (s : Stream) : Type 0 where
  pub node : s.node < length logs
  pub slot : s.slot < length (nth [] logs s.node)

-- what is stored of a stream
abbrev pub log_at : List (List StreamLog) → Stream → StreamLog
log_at logs s = nth no_log (nth [] logs s.node) s.slot

-- the streams where one has become this, and the others stay
abbrev pub with_log_at : List (List StreamLog) → Stream → StreamLog → List (List StreamLog)
with_log_at logs s l = put [] logs s.node (put no_log (nth [] logs s.node) s.slot l)

-- the answer to an entry, as the answer to the letter that brings it
unfoldable pub outcome_of : Store → Outcome
outcome_of Stored = Taken
outcome_of Again = AgainLetter
outcome_of (Gap next) = GapLetter next
outcome_of Window = Refused WindowFull

-- the answer to an acknowledgement, by whether it counts
abbrev pub outcome_of_ack : Bool → Outcome
outcome_of_ack counts = if counts then Taken else AgainLetter

-- the lowest stored entry, where fewer entries have passed than these
abbrev pub lowest_below : StreamLog → ℕ → Option Kept
lowest_below l done = if nat_lt l.done done then slice_get l.kept 0 else None

-- the lowest stored entry has passed
abbrev pub raised_by_one : StreamLog → StreamLog
raised_by_one l = record { done = l.done + 1; kept = drop 1 l.kept }

-- all entries of the stream below the number have passed, of which none is stored
abbrev pub raised_rest : List (List StreamLog) → Stream → ℕ → List (List StreamLog)
raised_rest logs s done =
    if nat_lt (log_at logs s).done done then with_log_at logs s record { done = done; kept = [] } else logs
