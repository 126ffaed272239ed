use Rattle.std.proofs.Common.{ℕ, ◌≡◌, ◌<◌, ◌≤◌, false}
use Rattle.zeus_base.specs.Nodes.{has}
use Rattle.zeus_model.specs.World.{node}
use Rattle.zeus_world.proofs.world.World.stopped.Given as goal

-- the set has the stopped ones of the nodes so far, and no other
abbrev pub invariant-loop-number : goal.invariant-loop-number
invariant-loop-number l = record {
  below : (n : ℕ) → n < l.number → has n l.stopped ≡ (node l.self n).stopped;
  above : (n : ℕ) → l.number ≤ n → has n l.stopped ≡ false;
}
