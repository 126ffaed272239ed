use Rattle.std.proofs.Common.{◌≡◌, length}
use Rattle.zeus_base.specs.declared.order.Stream.{Stream}
use Rattle.follower_log.specs.Streams.{log_at}
use Rattle.reliable_commit.specs.Following.{IsFollowed, raised_copies, raised_logs}
use Rattle.reliable_commit.proofs.follow.raise_stored.Given as goal

-- the entries that are left have the same end
abbrev pub invariant-loop-entry : goal.invariant-loop-entry
invariant-loop-entry l = record {
  followed : IsFollowed (length l.copies.copies) l.log l.s;
  copies : raised_copies l.copies.copies (log_at l.log l.s) l.done ≡ raised_copies l.initial.copies.copies (log_at l.initial.log l.s) l.done;
  logs : raised_logs l.log l.s l.done ≡ raised_logs l.initial.log l.s l.done;
  holds : l.copies.holds ≡ l.initial.copies.holds;
  objects : length l.copies.copies ≡ length l.initial.copies.copies;
  streams : (t : Stream) → IsFollowed (length l.initial.copies.copies) l.initial.log t → IsFollowed (length l.initial.copies.copies) l.log t;
}

abbrev pub decreases-loop-entry : goal.decreases-loop-entry
decreases-loop-entry l = length (log_at l.log l.s).kept
