use Rattle.std.proofs.Common.{◌≡◌, ◌+◌, ◌-◌, ◌≤◌, drop, length}
use Rattle.zeus_model.specs.Commit.{passes_at}
use Rattle.zeus_model.specs.Tables.{front}
use Rattle.follower_log.proofs.log.LogOver.passing.Given as goal

-- so many pass from the front on, and then those of the rest
abbrev pub invariant-loop-entry : goal.invariant-loop-entry
invariant-loop-entry g l = record {
  few : l.count ≤ length l.self.kept;
  front : front (passes_at l.me l.members) l.self.kept ≡ l.count + front (passes_at l.me l.members) (drop l.count l.self.kept);
}

abbrev pub decreases-loop-entry : goal.decreases-loop-entry
decreases-loop-entry g l = length l.self.kept - l.count
