use Rattle.std.proofs.Common.{ap, ◌∙◌, ◌+◌}
use Rattle.zeus_world.proofs.Starting.{map_below}
use Rattle.storm.proofs.script.objects.Goals as goal

pub loop-number-preserved : goal.loop-number-preserved
loop-number-preserved c = record {
  items = c.add_object.ensures.items ∙ rw c.loop-number.invariant.items (map_below _ c.loop-number.number);
  size = c.add_object.ensures.len ∙ ap (λ n. n + 1) c.loop-number.invariant.size;
  room = c.add_object.ensures.capacity ∙ c.loop-number.invariant.room;
}
