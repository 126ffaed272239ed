use Rattle.std.proofs.Common.{◌≡◌, ◌-◌, take, drop, map}
use Rattle.zeus_model.specs.Commit.{as_kept, followers_of}
use Rattle.reliable_commit.proofs.advance.own_followers.Given as goal

abbrev pub invariant-loop-turn : goal.invariant-loop-turn
invariant-loop-turn l = l.all ≡ followers_of (drop (l.count - l.turn) (take l.count (map as_kept l.pipe.pending)))
