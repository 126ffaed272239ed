-- So far as many are made as were counted.
use Rattle.std.proofs.Common.{◌≡◌, vec_capacity, vec_len, map}
use Rattle.zeus_model.specs.Tables.{below}
use Rattle.storm.specs.Script.{storm_name}
use Rattle.storm.proofs.script.names.Given as goal

abbrev pub invariant-loop-number : goal.invariant-loop-number
invariant-loop-number l = record {
  items : l.names.items ≡ map storm_name (below l.number);
  size : vec_len l.names ≡ l.number;
  room : vec_capacity l.names ≡ l.count;
}
