use Rattle.std.proofs.Common.{◌≡◌, ◌-◌, take, drop}
use Rattle.zeus_model.specs.Commit.{followers_of}
use Rattle.follower_log.specs.Streams.{log_at}
use Rattle.reliable_commit.proofs.advance.kept_followers.Given as goal

abbrev pub invariant-loop-turn : goal.invariant-loop-turn
invariant-loop-turn l = l.all ≡ followers_of (drop (l.count - l.turn) (take l.count (log_at l.log l.s).kept))
