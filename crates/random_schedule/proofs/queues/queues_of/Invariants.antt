-- The queues made so far are of the slots in front.
use Rattle.std.proofs.Common.{◌≡◌, ◌++◌, drop, All}
use Rattle.std.specs.Prelude.{map}
use Rattle.random_schedule.specs.Ready.{IsQueue}
use Rattle.random_schedule.proofs.queues.queues_of.Given as goal

abbrev pub invariant-loop-slot : goal.invariant-loop-slot
invariant-loop-slot l =
    record {
      slots : map (λ q. q.slot) l.queues.items ++ drop l.slot-index l.slots ≡ l.slots;
      each : All (IsQueue l.txs) l.queues.items;
    }
