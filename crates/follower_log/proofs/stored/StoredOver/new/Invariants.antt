use Rattle.std.proofs.Common.{◌≡◌, vec_capacity, vec_len}
use Rattle.std.specs.Prelude.{replicate}
use Rattle.zeus_model.specs.State.{no_log}
use Rattle.follower_log.proofs.stored.StoredOver.new.Given as goal

abbrev pub invariant-loop-node : goal.invariant-loop-node
invariant-loop-node g l = record {
  items : l.nodes.items ≡ replicate l._node (replicate l.config.slots no_log);
  size : vec_len l.nodes ≡ l._node;
  room : vec_capacity l.nodes ≡ l.config.nodes;
}
