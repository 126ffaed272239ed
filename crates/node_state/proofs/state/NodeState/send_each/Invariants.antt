use Rattle.std.proofs.Common.{◌≡◌, ◌≤◌, ◌++◌, length, take}
use Rattle.zeus_model.specs.Act.{to_each}
use Rattle.node_state.proofs.state.NodeState.send_each.Given as goal

-- the nodes that are left have the same end
abbrev pub invariant-loop-receiver : goal.invariant-loop-receiver
invariant-loop-receiver l = record {
  letters : take 64 (l.out.sent ++ to_each l.self l.receiver-iterator l.body) ≡ take 64 (l.initial.out.sent ++ to_each l.self l.fn.receivers l.body);
  passes : l.out.passed ≡ l.initial.out.passed;
  room : length l.out.sent ≤ 64;
}
