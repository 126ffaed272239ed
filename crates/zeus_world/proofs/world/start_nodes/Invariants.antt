use Rattle.std.proofs.Common.{◌≡◌, vec_capacity, vec_len, map}
use Rattle.zeus_model.specs.Tables.{below}
use Rattle.zeus_model.specs.World.{start_node}
use Rattle.zeus_world.proofs.world.start_nodes.Given as goal

abbrev pub invariant-loop-node : goal.invariant-loop-node
invariant-loop-node l = record {
  items : l.nodes.items ≡ map (start_node l.config) (below l.node);
  size : vec_len l.nodes ≡ l.node;
  room : vec_capacity l.nodes ≡ l.node-end;
}
