use Rattle.std.proofs.Common.{ap, ◌∙◌, ◌+◌}
use Rattle.zeus_world.proofs.Starting.{map_below}
use Rattle.zeus_world.proofs.world.start_nodes.Goals as goal

pub loop-node-preserved : goal.loop-node-preserved
loop-node-preserved c = record {
  items = c.push_reserved.ensures.items ∙ rw (c.in_ok-new.ensures, c.loop-node.invariant.items) (map_below _ c.loop-node.node);
  size = c.push_reserved.ensures.len ∙ ap (λ n. n + 1) c.loop-node.invariant.size;
  room = c.push_reserved.ensures.capacity ∙ c.loop-node.invariant.room;
}
