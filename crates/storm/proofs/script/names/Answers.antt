use Rattle.std.proofs.Common.{ap, ◌∙◌, ◌+◌}
use Rattle.zeus_world.proofs.Starting.{map_below}
use Rattle.storm.proofs.script.names.Goals as goal

pub loop-number-preserved : goal.loop-number-preserved
loop-number-preserved c = record {
  items = c.push_reserved.ensures.items ∙ rw (c.in_ok-name_of.ensures, c.loop-number.invariant.items) (map_below _ c.loop-number.number);
  size = c.push_reserved.ensures.len ∙ ap (λ n. n + 1) c.loop-number.invariant.size;
  room = c.push_reserved.ensures.capacity ∙ c.loop-number.invariant.room;
}
