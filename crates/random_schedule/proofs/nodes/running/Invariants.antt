-- The nodes that run, and those that are not looked at yet.
use Rattle.random_schedule.proofs.Running.{IsLeft}
use Rattle.random_schedule.proofs.nodes.running.Given as goal

abbrev pub invariant-loop-node : goal.invariant-loop-node
invariant-loop-node l = IsLeft l.world l.fn.nodes l.node-iterator l.running
