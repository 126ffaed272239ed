-- So far as many are made as were counted.
use Rattle.std.proofs.Common.{◌≡◌, vec_capacity, vec_len, map}
use Rattle.zeus_model.specs.Tables.{below}
use Rattle.storm.specs.Script.{storm_object}
use Rattle.storm.proofs.script.objects.Given as goal

abbrev pub invariant-loop-number : goal.invariant-loop-number
invariant-loop-number l = record {
  items : l.objects.items ≡ map (storm_object l.nodes) (below l.number);
  size : vec_len l.objects ≡ l.number;
  room : vec_capacity l.objects ≡ l.count;
}
