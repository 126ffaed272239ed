use Rattle.std.proofs.Common.{◌≡◌}
use Rattle.zeus_model.specs.Local.{least_from}
use Rattle.node_state.proofs.requests.first_from.Given as goal

-- among the nodes that are left the least one from the node on is that among all
abbrev pub invariant-loop-node : goal.invariant-loop-node
invariant-loop-node l = least_from l.me l.node-iterator ≡ least_from l.me l.nodes
