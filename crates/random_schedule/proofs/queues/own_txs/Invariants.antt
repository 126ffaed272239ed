-- What was added and the slot's transactions of the rest stay all of them.
use Rattle.std.proofs.Common.{◌≡◌, ◌++◌, drop}
use Rattle.random_schedule.specs.Choices.{txs_from}
use Rattle.random_schedule.proofs.queues.own_txs.Given as goal

abbrev pub invariant-loop-place : goal.invariant-loop-place
invariant-loop-place l = l.own.items ++ txs_from l.place l.slot (drop l.place l.declared-items) ≡ txs_from 0 l.slot l.declared-items
