use Rattle.std.proofs.Common.{◌≡◌, vec_capacity, vec_len}
use Rattle.std.specs.Prelude.{replicate}
use Rattle.zeus_model.specs.State.{no_log}
use Rattle.follower_log.proofs.stored.start_logs.Given as goal

abbrev pub invariant-loop-slot : goal.invariant-loop-slot
invariant-loop-slot g l = record {
  items : l.slots.items ≡ replicate l._slot no_log;
  size : vec_len l.slots ≡ l._slot;
  room : vec_capacity l.slots ≡ l.count;
}
