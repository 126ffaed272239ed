use Rattle.std.proofs.Common.{◌≡◌}
use Rattle.zeus_model.specs.Membership.{greatest}
use Rattle.tick_rules.proofs.Leaving.{last_after}
use Rattle.tick_rules.proofs.leaves.greatest.Given as goal

-- the nodes that are left have the same last one, or else it is the one so far
abbrev pub invariant-loop-node : goal.invariant-loop-node
invariant-loop-node l = last_after l.last l.node-iterator ≡ greatest l.fn.nodes
