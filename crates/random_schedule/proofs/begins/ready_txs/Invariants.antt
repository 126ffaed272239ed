-- What was added and the transactions that can begin at the other slots stay all of them.
use Rattle.std.proofs.Common.{◌≡◌, ◌++◌, drop}
use Rattle.std.specs.Prelude.{filter_map, map}
use Rattle.random_schedule.specs.Choices.{ready_tx, ready_txs}
use Rattle.random_schedule.specs.Ready.{AreAllBegun}
use Rattle.random_schedule.proofs.begins.ready_txs.Given as goal

abbrev pub invariant-loop-place : goal.invariant-loop-place
invariant-loop-place l =
    record {
      ready : l.ready.items ++ filter_map (ready_tx l.world) (map (λ q. q.slot) (drop l.place l.queues)) ≡ ready_txs l.world;
      begun : AreAllBegun l.world.book l.queues l.begun;
    }
