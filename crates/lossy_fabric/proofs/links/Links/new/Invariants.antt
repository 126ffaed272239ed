use Rattle.std.proofs.Common.{◌≡◌, vec_capacity, vec_len}
use Rattle.std.specs.Prelude.{replicate}
use Rattle.lossy_fabric.specs.Links.{no_link}
use Rattle.lossy_fabric.proofs.links.Links.new.Given as goal

abbrev pub invariant-loop-sender : goal.invariant-loop-sender
invariant-loop-sender l = record {
  items : l.rows.items ≡ replicate l._sender (replicate l.nodes no_link);
  size : vec_len l.rows ≡ l._sender;
  room : vec_capacity l.rows ≡ l.nodes;
}
