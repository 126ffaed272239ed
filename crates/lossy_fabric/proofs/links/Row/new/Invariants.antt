use Rattle.std.proofs.Common.{◌≡◌, vec_capacity, vec_len}
use Rattle.std.specs.Prelude.{replicate}
use Rattle.lossy_fabric.specs.Links.{no_link}
use Rattle.lossy_fabric.proofs.links.Row.new.Given as goal

abbrev pub invariant-loop-receiver : goal.invariant-loop-receiver
invariant-loop-receiver l = record {
  items : l.links.items ≡ replicate l._receiver no_link;
  size : vec_len l.links ≡ l._receiver;
  room : vec_capacity l.links ≡ l.nodes;
}
